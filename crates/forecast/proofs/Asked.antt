-- What the functions of the forecast ask, of a state of which the forecast answers 0.
use Prim.Native.Nat.{ℕ, ◌≤◌}
use native.Mathlib.Omega.{arith}
use mathlib.Core.Path.{◌≡◌, refl}
use mathlib.Core.Bool.{Bool, true, false, cond, ◌||◌}
use lib.Dec.{ltb, eqb}
use borrow.Author.Tests.{eqb-false}
use Rattle.frame.specs.Format.{format_of, frame_length}
use Rattle.frame.specs.Forecast.{work_left, pulses_left}
use Rattle.frame.proofs.Bound.{pulses_bound, ticks_bound}
use Rattle.device.specs.declared.State.{State}
use Rattle.device.specs.Ranges.{well_formed}
use Rattle.device.specs.Forecast.{pulses_to_come, ticks_to_come, no_clock, held_back, forecast_number}
use Rattle.invariant.proofs.Good.{capacity_bounds, left_short, good_of}
use Rattle.forecast.proofs.Foretold.{answered_of, and_not}

-- such a state is well formed
pub forecast_well : (s : State) → forecast_number s ≡ 0 → well_formed s ≡ true
unfolding forecast_number
forecast_well s = go (well_formed s)
  where
    go : (w : Bool) → cond {A = ℕ} w (cond (no_clock s) 4 (cond (held_back s) 5 0)) 1 ≡ 0 → w ≡ true
    go true e = refl
    go false e = absurd (omega arith)

-- its ranges
pub record Ranged (s : State) : Type 0 where
  pub left : s.frame.left ≤ 192
  pub sent : s.frame.left ≤ frame_length s.frame.format
  pub count : s.tx.count ≤ 64
  pub k : s.baud.k ≤ s.baud.divisor
  pub divisor : s.baud.divisor ≤ 65535
  pub pulses : pulses_to_come s ≤ 12480

pub forecast_ranged : (s : State) → forecast_number s ≡ 0 → Ranged s
forecast_ranged s e =
    let g = good_of s (forecast_well s e) in
    let left = left_short s.frame g.transmit.frame in
    let count : s.tx.count ≤ 64 = omega (arith, g.transmit.count_most, capacity_bounds s.fifo) in
    record {
      left = left;
      sent = g.transmit.frame.left_most;
      count = count;
      k = g.registers.k_most;
      divisor = g.registers.divisor-most;
      pulses = pulses_bound s.frame.left s.tx.count (format_of s.registers.lcr) left count;
    }

-- T is at most 817,876,800
pub forecast_most : (s : State) → forecast_number s ≡ 0 → ticks_to_come s ≤ 817876800
forecast_most s e =
    let r = forecast_ranged s e in
    ticks_bound s.baud.k s.baud.divisor (pulses_to_come s) r.k r.divisor r.pulses

-- with pulses to come the clock runs

picked : (a b : Bool) (x y : ℕ) → (cond a x (cond b y 0) ≡ 0 → ⊥) → (a || b) ≡ true
picked true b x y n = refl
picked false true x y n = refl
picked false false x y n = absurd (n refl)

pub forecast_clocked : (s : State) → forecast_number s ≡ 0 → (pulses_to_come s ≡ 0 → ⊥) → (1 ≤ s.baud.k) × (1 ≤ s.baud.divisor)
unfolding pulses_left no_clock
forecast_clocked s e n =
    let w = forecast_well s e in
    let work = picked (ltb 0 s.frame.left) (ltb 0 s.tx.count) _ _ n in
    let clock = eqb-false s.baud.divisor 0 (and_not (work_left s.frame.left s.tx.count) (eqb s.baud.divisor 0) (answered_of s w e).clock work) in
    let some : 1 ≤ s.baud.divisor = omega arith in
    ((good_of s w).registers.k_least some, some)
