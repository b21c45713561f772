-- Demand 3 for the device: the theorem about its transmitter, carried over to the answers of the tick call; and run.
use Prim.Native.Nat.{ℕ, min}
use native.Mathlib.Omega.{arith}
use mathlib.Core.Path.{◌≡◌, refl, sym, ap, subst, ◌∙◌}
use mathlib.Core.Bool.{Bool, true, false, cond, ◌&&◌, false≢true}
use lib.Dec.{ltb, eqb}
use lib.ListN.{length, take}
use borrow.Author.Tests.{eq-eqb, eqb-true, eqb-false, ltb-true, ltb-false}
use Rattle.flag.proofs.Laws.{and_left, and_right, and_both}
use Rattle.frame.specs.Format.{format_of, frame_length}
use Rattle.frame.specs.Forecast.{work_left, pulses_left, ticks_left, spelled, level_after}
use Rattle.frame.proofs.Transmitter.{Empty, Ready, ticks, line_of, forecast, foretold_level}
use Rattle.frame.proofs.Foretold as theorem
use Rattle.frame.proofs.Stopped.{stopped_never_empty, held-never_empty}
use Rattle.queue.specs.Queue.{contents}
use Rattle.device.specs.declared.State.{State}
use Rattle.device.specs.Autoflow.{held}
use Rattle.device.specs.Lsr.{temt}
use Rattle.device.specs.Ranges.{well_formed}
use Rattle.device.specs.Calls.{done, tick_of, ticks_of}
use Rattle.device.specs.Forecast.{ticks_to_come, level_to_come, no_clock, held_back, forecast_number, used_of, Foretold, StopsInTime}
use Rattle.invariant.proofs.Good.{good_of}
use Rattle.invariant.proofs.Settled.{Kept}
use Rattle.invariant.proofs.Steps.{ticks-kept}
use Rattle.forecast.proofs.Projected.{transmitter_of, kept-within, count-queued, ticks_transmitter}

-- Both empty.

count_of : (s : State) → Kept s → length (contents s.tx.count s.tx.bytes) ≡ s.tx.count
count_of s w = count-queued s.tx (kept-within s w)

empty_of : (s : State) → Kept s → Empty (transmitter_of s) → temt s ≡ true
unfolding temt
empty_of s w e =
    let none : s.tx.count ≡ 0 = sym (count_of s w) ∙ ap length e.taken in
    and_both (eqb s.tx.count 0) (eqb s.frame.left 0) (eq-eqb s.tx.count 0 none) (eq-eqb s.frame.left 0 e.sent)

of_empty : (s : State) → temt s ≡ true → Empty (transmitter_of s)
unfolding temt
of_empty s e =
    record {
      sent = eqb-true s.frame.left 0 (and_right (eqb s.tx.count 0) (eqb s.frame.left 0) e);
      taken = ap (λ (n : ℕ). take n s.tx.bytes) (eqb-true s.tx.count 0 (and_left (eqb s.tx.count 0) (eqb s.frame.left 0) e));
    }

-- What the numbers 4 and 5 leave out.

pub and_not : (a b : Bool) → (a && b) ≡ false → a ≡ true → b ≡ false
and_not true b e h = e
and_not false b e h = absurd (false≢true h)

and_not' : (a b : Bool) → (a && b) ≡ false → b ≡ true → a ≡ false
and_not' true b e h = absurd (false≢true (sym e ∙ h))
and_not' false b e h = refl

-- the forecast is neither 4 nor 5
pub record Answered (s : State) : Type 0 where
  pub clock : no_clock s ≡ false
  pub free : held_back s ≡ false

pub answered_of : (s : State) → well_formed s ≡ true → forecast_number s ≡ 0 → Answered s
unfolding forecast_number
answered_of s w = go (no_clock s) refl (held_back s) refl
  where
    go : (a : Bool) → no_clock s ≡ a → (b : Bool) → held_back s ≡ b → cond {A = ℕ} (well_formed s) (cond a 4 (cond b 5 0)) 1 ≡ 0 → Answered s
    go true p b q e = let z = rw w at e in absurd (omega arith)
    go false p true q e = let z = rw w at e in absurd (omega arith)
    go false p false q e = record { clock = p; free = q }

ready : (s : State) → Kept s → Answered s → Ready (transmitter_of s)
unfolding no_clock held_back
ready s w a =
    let g = good_of s w.well in
    record {
      k_range = g.registers.k_least;
      left_range = g.transmit.frame.left_most;
      clocked = λ h.
          let work : work_left s.frame.left s.tx.count ≡ true = sym (ap (λ (n : ℕ). work_left s.frame.left n) (count_of s w)) ∙ h in
          omega (arith, eqb-false s.baud.divisor 0 (and_not (work_left s.frame.left s.tx.count) (eqb s.baud.divisor 0) a.clock work));
      free = λ h.
          let none : s.tx.count ≡ 0 = omega (arith, ltb-false 0 s.tx.count (and_not' (ltb 0 s.tx.count) (held s.registers s.fifo s.inputs) a.free h)) in
          ap (λ (n : ℕ). take n s.tx.bytes) none;
    }

-- p, T and the level are those of the transmitter
ticks-same : (s : State) → Kept s → forecast (transmitter_of s) ≡ ticks_to_come s
ticks-same s w =
    ap (λ (n : ℕ). ticks_left s.baud.k s.baud.divisor (pulses_left s.frame.left n (frame_length (format_of s.registers.lcr)))) (count_of s w)

level-same : (s : State) → Kept s → (t : ℕ) → foretold_level (transmitter_of s) t ≡ level_to_come s t
level-same s w t =
    ap (λ (n : ℕ). level_after s.baud.k s.baud.divisor (pulses_left s.frame.left n (frame_length (format_of s.registers.lcr))) (spelled s.frame.left s.frame.byte s.frame.format (format_of s.registers.lcr) (contents s.tx.count s.tx.bytes)) t) (count_of s w)

tick_accepted : (s : State) → Kept s → (tick_of s).number ≡ 0
unfolding tick_of done
tick_accepted s w = simp w.well

-- demand 3
pub foretold : (s : State) → Kept s → forecast_number s ≡ 0 → (t : ℕ) → Foretold s (ticks_to_come s) t
foretold s w e t =
    let u = ticks_of t s in
    let kept = ticks-kept t s w in
    let same : transmitter_of u ≡ ticks t (transmitter_of s) = ticks_transmitter t s w in
    let claim = theorem.foretold (transmitter_of s) (ready s w (answered_of s w.well e)) t in
    record {
      accepted = tick_accepted u kept;
      empties = λ h. empty_of u kept (subst Empty (sym same) (claim.empties (rw (ticks-same s w) h)));
      not_before = λ h. rw (ticks-same s w) at (claim.not_before (subst Empty same (of_empty u h)));
      level = ap line_of same ∙ claim.level ∙ level-same s w t;
    }

-- Run.

-- where the forecast is 4 or 5 the transmitter never empties
never_empty : (s : State) → Kept s → (forecast_number s ≡ 0 → ⊥) → (t : ℕ) → temt (ticks_of t s) ≡ true → ⊥
unfolding forecast_number no_clock held_back
never_empty s w n t h = go (no_clock s) refl (held_back s) refl
  where
    e : Empty (ticks t (transmitter_of s))
    e = subst Empty (ticks_transmitter t s w) (of_empty (ticks_of t s) h)

    go : (a : Bool) → no_clock s ≡ a → (b : Bool) → held_back s ≡ b → ⊥
    go true p b q =
        let work = and_left (work_left s.frame.left s.tx.count) (eqb s.baud.divisor 0) p in
        let stopped = eqb-true s.baud.divisor 0 (and_right (work_left s.frame.left s.tx.count) (eqb s.baud.divisor 0) p) in
        stopped_never_empty (transmitter_of s) stopped (ap (λ (m : ℕ). work_left s.frame.left m) (count_of s w) ∙ work) t e
    go false p true q =
        let some = and_left (ltb 0 s.tx.count) (held s.registers s.fifo s.inputs) q in
        let back = and_right (ltb 0 s.tx.count) (held s.registers s.fifo s.inputs) q in
        held-never_empty (transmitter_of s) back (omega (arith, count_of s w, ltb-true 0 s.tx.count some)) t e
    go false p false q = n (simp (w.well, p, q))

bool_false : (b : Bool) → (b ≡ true → ⊥) → b ≡ false
bool_false true n = absurd (n refl)
bool_false false n = refl

-- run stops as soon as LSR6 would be 1, and not before
pub stops_in_time : (s : State) → Kept s → (n : ℕ) → StopsInTime s n (used_of s n)
unfolding used_of
stops_in_time s w n = go (eqb (forecast_number s) 0) refl
  where
    go : (b : Bool) → eqb (forecast_number s) 0 ≡ b → StopsInTime s n (cond b (min n (ticks_to_come s)) n)
    go true p =
        let claim = foretold s w (eqb-true (forecast_number s) 0 p) in
        record {
          within = omega arith;
          temt_then = λ h. (claim (min n (ticks_to_come s))).empties (omega arith);
          not_before = λ t h. bool_false (temt (ticks_of t s)) (λ e. let l = (claim t).not_before e in absurd (omega arith));
        }
    go false p =
        record {
          within = omega arith;
          temt_then = λ h. absurd (omega arith);
          not_before = λ t h. bool_false (temt (ticks_of t s)) (never_empty s w (eqb-false (forecast_number s) 0 p) t);
        }
