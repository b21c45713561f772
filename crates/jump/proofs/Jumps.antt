-- Jump after jump: the ticks used, the number of jumps and the state; and run by jumps is run.
use Prim.Native.Nat.{ℕ, zero, suc, ◌+◌, ◌-◌, ◌/◌, ◌≤◌, ◌<◌}
use native.Mathlib.Omega.{arith}
use mathlib.Core.Path.{◌≡◌, refl, sym, ap, ◌∙◌}
use mathlib.Core.Bool.{Bool, true, false, cond, ◌||◌, false≢true}
use lib.Dec.{ltb, eqb}
use borrow.Author.Tests.{eqb-true, eqb-false, ltb-true, ltb-false}
use Rattle.flag.proofs.Laws.{by_test}
use Rattle.device.specs.declared.Baud.{Baud}
use Rattle.device.specs.declared.JumpRan.{JumpRan}
use Rattle.device.specs.declared.Ran.{Ran}
use Rattle.device.specs.declared.State.{State}
use Rattle.device.specs.State.{with_k}
use Rattle.device.specs.Autoflow.{settled}
use Rattle.device.specs.Lsr.{temt}
use Rattle.device.specs.Calls.{ticks_of}
use Rattle.device.specs.Ranges.{well_formed}
use Rattle.device.specs.Forecast.{forecast_number, used_of, run_of, StopsInTime}
use Rattle.device.specs.Jump.{jump_length, no_jump, jump_then, jumps_until, jumps_of, jump_run_of}
use Rattle.invariant.proofs.Good.{Places}
use Rattle.invariant.proofs.Settled.{Kept}
use Rattle.invariant.proofs.Steps.{ticks-kept}
use Rattle.invariant.proofs.Tests.{or_either, or_neither}
use Rattle.invariant.proofs.Touched.{pulsed_touches}
use Rattle.forecast.proofs.Foretold.{stops_in_time}
use Rattle.clock.proofs.Ticked.{ticks-sum, ticks_stopped, k_some, ticks-count, ticks_pulse}
use Rattle.jump.specs.Count.{jump_count}
use Rattle.jump.proofs.Counted.{count_first, count_stopped, count_pulse, count_most, quotient_below}

-- A jump from s of length m, with n ticks to go: it ends at the pulse, or uses all n.
record Jump (s : State) (n m : ℕ) : Type 0 where
  pub some : 1 ≤ m
  pub within : m ≤ n
  -- the jumps of its ticks and of i more, if it leaves any
  pub counted : (i : ℕ) → i ≤ n - m → jump_count s.baud.divisor s.baud.k (m + i) ≡ 1 + jump_count (ticks_of m s).baud.divisor (ticks_of m s).baud.k i
  -- before its end only k has changed
  pub before : (t : ℕ) → t < m → temt (ticks_of t s) ≡ temt s

module _ (s : State) (w : Kept s) where
  abbrev D : ℕ
  D = s.baud.divisor

  abbrev k : ℕ
  k = s.baud.k

  -- with another k the transmitter is as empty
  quiet_before : 1 ≤ D → (t : ℕ) → t < k → temt (ticks_of t s) ≡ temt s
  unfolding temt
  quiet_before d t h = ap temt (ticks-count t s w d h)

  -- a pulse leaves k at D
  at_pulse : 1 ≤ D → (ticks_of k s).baud ≡ record { divisor = D; k = D }
  unfolding settled
  at_pulse d = ap (λ (t : State). t.baud) (ticks_pulse s w d ∙ ap settled (pulsed_touches (with_k s D)))

  -- a jump that uses all n ticks has no more behind it
  last : (n : ℕ) → jump_count D k n ≡ 1 → (i : ℕ) → i ≤ n - n → jump_count D k (n + i) ≡ 1 + jump_count (ticks_of n s).baud.divisor (ticks_of n s).baud.k i
  unfolding jump_count
  last n one i h =
      let none : i ≡ 0 = omega arith in
      let same : n + i ≡ n = omega arith in
      ap (λ (j : ℕ). jump_count D k j) same
      ∙ one
      ∙ sym (ap (λ (j : ℕ). 1 + jump_count (ticks_of n s).baud.divisor (ticks_of n s).baud.k j) none)

  jump_of_lem : (n : ℕ) → 1 ≤ n → Jump s n (jump_length s n)
  unfolding jump_length
  jump_of_lem n some = go (eqb D 0) refl (ltb n k) refl
    where
      go : (a : Bool) → eqb D 0 ≡ a → (b : Bool) → ltb n k ≡ b → Jump s n (cond (a || b) n k)
      go true p b q =
          let stopped = eqb-true D 0 p in
          record {
            some = some;
            within = omega arith;
            counted = last n (rw stopped (count_stopped k n some));
            before = λ t h. ap temt (sym (ticks_stopped t s w stopped));
          }
      go false p true q =
          let d : 1 ≤ D = omega (arith, eqb-false D 0 p) in
          let short = ltb-true n k q in
          record {
            some = some;
            within = omega arith;
            counted = last n (count_first D k n d some (omega arith));
            before = λ t h. quiet_before d t (omega arith);
          }
      go false p false q =
          let d : 1 ≤ D = omega (arith, eqb-false D 0 p) in
          let positive = k_some s w d in
          record {
            some = positive;
            within = omega (arith, ltb-false n k q);
            counted = λ i h. count_pulse D k i d positive ∙ ap (λ (b : Baud). 1 + jump_count b.divisor b.k i) (sym (at_pulse d));
            before = quiet_before d;
          }

-- A fact of jumps until a stop, from that of none and that of one more.
module _ (stops : State → Bool) (P : State → ℕ → JumpRan → Type 0) (none : (s : State) (n : ℕ) → (1 ≤ n → stops s ≡ true) → P s n (no_jump s)) (more : (s : State) (n m : ℕ) → stops s ≡ false → Jump s n m → (r : JumpRan) → P (ticks_of m s) (n - m) r → P s n (jump_then m r)) where
  at_stop : (s : State) (n : ℕ) → (eqb n 0 || stops s) ≡ true → P s n (no_jump s)
  at_stop s n e =
      none s n (λ some. or_either (eqb n 0) (stops s) e (λ zero. absurd (omega (arith, eqb-true n 0 zero))) (λ stop. stop))

  some_left : (s : State) (n : ℕ) → (eqb n 0 || stops s) ≡ false → 1 ≤ n
  some_left s n e = omega (arith, eqb-false n 0 (or_neither (eqb n 0) (stops s) e).0)

  by_jumps : (most : ℕ) (s : State) (n : ℕ) → n ≤ most → Kept s → P s n (jumps_until stops most s n)
  unfolding jumps_until
  by_jumps zero s n h w = none s n (λ some. absurd (omega arith))
  by_jumps (suc most) s n h w =
      let m = jump_length s n in
      by_test (P s n) (eqb n 0 || stops s) _ _
      (at_stop s n)
      (λ e. let j = jump_of_lem s w n (some_left s n e) in
      let one = j.some in
      more s n m (or_neither (eqb n 0) (stops s) e).1 j _ (by_jumps most (ticks_of m s) (n - m) (omega arith) (ticks-kept m s w)))

-- the answer of so many ticks used
abbrev by_used : State → ℕ → JumpRan
by_used s u = record { number = 0; part = 0; used = u; jumps = jump_count s.baud.divisor s.baud.k u; state = ticks_of u s }

-- What jumps of at most n ticks answer follows from the ticks used.
record Reached (s : State) (n : ℕ) (r : JumpRan) : Type 0 where
  pub within : r.used ≤ n
  pub is : r ≡ by_used s r.used

none_reached : (s : State) (n : ℕ) → Reached s n (no_jump s)
unfolding jump_count
none_reached s n = record { within = omega arith; is = refl }

more_reached : (s : State) (n m : ℕ) → Jump s n m → (r : JumpRan) → Reached (ticks_of m s) (n - m) r → Reached s n (jump_then m r)
more_reached s n m j r g =
    let short = g.within in
    let inside = j.within in
    let u = r.used in
    let counts : 1 + r.jumps ≡ jump_count s.baud.divisor s.baud.k (m + u) = ap (λ (a : JumpRan). 1 + a.jumps) g.is ∙ sym (j.counted u short) in
    let ends : r.state ≡ ticks_of (m + u) s = ap (λ (a : JumpRan). a.state) g.is ∙ sym (ticks-sum m u s) in
    record {
      within = omega arith;
      is = ap (λ (i : ℕ). record { number = 0; part = 0; used = m + u; jumps = i; state = r.state }) counts
          ∙ ap (λ (t : State). record { number = 0; part = 0; used = m + u; jumps = jump_count s.baud.divisor s.baud.k (m + u); state = t }) ends;
    }

reached : (stops : State → Bool) (s : State) (n : ℕ) → Kept s → Reached s n (jumps_until stops n s n)
reached stops s n w =
    by_jumps stops Reached (λ s n _. none_reached s n) (λ s n m _. more_reached s n m) n s n (omega arith) w

-- without a stop all n ticks are used
none_used : (s : State) (n : ℕ) → (1 ≤ n → false ≡ true) → 0 ≡ n
none_used s zero h = refl
none_used s (suc n) h = absurd (false≢true (h (omega arith)))

more_used : (s : State) (n m : ℕ) → Jump s n m → (r : JumpRan) → r.used ≡ n - m → m + r.used ≡ n
more_used s n m j r e = let inside = j.within in omega arith

all_used : (s : State) (n : ℕ) → Kept s → (jumps_until (λ _. false) n s n).used ≡ n
all_used s n w =
    by_jumps (λ _. false) (λ (s : State) (n : ℕ) (r : JumpRan). r.used ≡ n) none_used (λ s n m _. more_used s n m) n s n (omega arith) w

-- the jumps of n ticks, by division
pub jumps_counted : (s : State) → Kept s → (n : ℕ) → jumps_of s n ≡ jump_count s.baud.divisor s.baud.k n
jumps_counted s w n =
    ap (λ (r : JumpRan). r.jumps) (reached (λ _. false) s n w).is
    ∙ ap (λ (u : ℕ). jump_count s.baud.divisor s.baud.k u) (all_used s n w)

-- The early stop, looked at before each jump, comes as soon as LSR6 would be 1, and not before.

none_in_time : (s : State) (n : ℕ) → (1 ≤ n → temt s ≡ true) → StopsInTime s n 0
none_in_time s n stops = record { within = omega arith; temt_then = λ h. stops (omega arith); not_before = λ t h. absurd (omega arith) }

more_in_time : (s : State) (n m u : ℕ) → temt s ≡ false → Jump s n m → StopsInTime (ticks_of m s) (n - m) u → StopsInTime s n (m + u)
more_in_time s n m u going j i =
    let inside = j.within in
    let short = i.within in
    record {
      within = omega arith;
      temt_then = λ h. ap temt (ticks-sum m u s) ∙ i.temt_then (omega arith);
      not_before = λ t h. go t h (ltb t m) refl;
    }
  where
    go : (t : ℕ) → t < m + u → (b : Bool) → ltb t m ≡ b → temt (ticks_of t s) ≡ false
    go t h true p = j.before t (ltb-true t m p) ∙ going
    go t h false p =
        let later = ltb-false t m p in
        let sum : t ≡ m + (t - m) = omega arith in
        ap (λ (a : ℕ). temt (ticks_of a s)) sum ∙ ap temt (ticks-sum m (t - m) s) ∙ i.not_before (t - m) (omega arith)

in_time : (s : State) (n : ℕ) → Kept s → StopsInTime s n (jumps_until temt n s n).used
in_time s n w =
    by_jumps temt (λ (s : State) (n : ℕ) (r : JumpRan). StopsInTime s n r.used) none_in_time (λ s n m going j r. more_in_time s n m r.used going j) n s n (omega arith) w

-- no two numbers of ticks do both
no_less : (s : State) (n a b : ℕ) → StopsInTime s n a → StopsInTime s n b → b ≤ a
no_less s n a b f g = go (ltb a b) refl
  where
    go : (c : Bool) → ltb a b ≡ c → b ≤ a
    go true p =
        let less = ltb-true a b p in
        let short = g.within in
        absurd (false≢true (sym (g.not_before a less) ∙ f.temt_then (omega arith)))
    go false p = ltb-false a b p

one_stop : (s : State) (n a b : ℕ) → StopsInTime s n a → StopsInTime s n b → a ≡ b
one_stop s n a b f g =
    let up = no_less s n a b f g in
    let down = no_less s n b a g f in
    omega arith

-- run by jumps, by the ticks that run uses
run_counted : (s : State) → Kept s → (n : ℕ) → jumps_until temt n s n ≡ by_used s (used_of s n)
run_counted s w n =
    let r = jumps_until temt n s n in
    (reached temt s n w).is
    ∙ ap (by_used s) (one_stop s n r.used (used_of s n) (in_time s n w) (stops_in_time s w n))

-- run's answer with a number of jumps
abbrev with_jumps : Ran → ℕ → JumpRan
with_jumps r j = record { number = r.number; part = r.part; used = r.used; jumps = j; state = r.state }

module _ (s : State) (places : Places s) (n : ℕ) where
  kept : well_formed s ≡ true → Kept s
  kept w = record { well = w; places = places }

  -- what run by jumps answers
  pub run_by_jumps : with_jumps (run_of s n) (jump_count s.baud.divisor s.baud.k (run_of s n).used) ≡ jump_run_of s n
  unfolding run_of jump_run_of jump_count
  run_by_jumps = go (well_formed s) refl
    where
      go : (b : Bool) → well_formed s ≡ b → with_jumps (run_of s n) (jump_count s.baud.divisor s.baud.k (run_of s n).used) ≡ jump_run_of s n
      go true e = rw e (sym (run_counted s (kept e) n))
      go false e = simp e

  -- where run uses a tick, a pulse is to come
  pub run_some : 1 ≤ (run_of s n).used → 1 ≤ s.baud.divisor → 1 ≤ s.baud.k
  unfolding run_of
  run_some = go (well_formed s) refl
    where
      go : (b : Bool) → well_formed s ≡ b → 1 ≤ (run_of s n).used → 1 ≤ s.baud.divisor → 1 ≤ s.baud.k
      go true e some d = k_some s (kept e) d
      go false e some d = let none = simp e at some in absurd (omega arith)

-- run uses n ticks at most
run_within : (s : State) (n : ℕ) → (run_of s n).used ≤ n
unfolding run_of used_of
run_within s n =
    by_test (λ (r : Ran). r.used ≤ n) (well_formed s) _ _
    (λ _. by_test (λ (u : ℕ). u ≤ n) (eqb (forecast_number s) 0) _ _ (λ _. omega arith) (λ _. omega arith))
    (λ _. omega arith)

pub run_most : (s : State) (n : ℕ) → 1 ≤ s.baud.divisor → jump_count s.baud.divisor s.baud.k (run_of s n).used ≤ 2 + n / s.baud.divisor
run_most s n d =
    let most = count_most s.baud.divisor s.baud.k (run_of s n).used d in
    let below = quotient_below s.baud.divisor (run_of s n).used n d (run_within s n) in
    omega arith
