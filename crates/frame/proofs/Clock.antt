-- The clock's numbers under one tick: T falls by one, and the place after t more ticks is the place after t + 1.
use Prim.Native.Nat.{ℕ, zero, suc, ◌+◌, ◌-◌, ◌/◌, ◌≤◌}
use native.Mathlib.Nat.{div-eq_of_lt, div-eq-sub-div, suc-mul}
use native.Mathlib.Omega.{arith}
use mathlib.Core.Path.{◌≡◌, refl, sym, ap}
use mathlib.Core.List.{List, [], ◌∷◌}
use lib.ListN.{length, get_or, get_or-eq_default}
use lib.Dec.{ltb, eqb-suc-zero}
use borrow.Author.Tests.{ltb-true, ltb-false, lt-ltb, le-ltb}
use Rattle.flag.proofs.Laws.{by_test}
use Rattle.frame.specs.Forecast.{ticks_left, place_after, level_at, level_after}

-- the pulses in t ticks: the place, but for its case p = 0
abbrev pub pulses_in : ℕ → ℕ → ℕ → ℕ
pulses_in k d t = place_after k d 1 t

-- the level after t ticks is the level behind the pulses in them
pub level_after_pulses : (k d t : ℕ) (xs : List ℕ) → level_after k d (length xs) xs t ≡ get_or xs (pulses_in k d t) 1
unfolding place_after level_at
level_after_pulses k d t [] = refl
level_after_pulses k d t (x ∷ xs) =
    let q = pulses_in k d t in
    simp eqb-suc-zero
    (by_test (λ (n : ℕ). n ≡ get_or (x ∷ xs) q 1) (ltb q (length (x ∷ xs))) _ _
    (λ _. refl)
    (λ e. sym (get_or-eq_default (x ∷ xs) 1 (ltb-false q (length (x ∷ xs)) e))))

-- A tick without a pulse lowers k by one.

pub place_shifts_at_quiet_tick : (k d t : ℕ) → 2 ≤ k → pulses_in (k - 1) d t ≡ pulses_in k d (suc t)
unfolding place_after
place_shifts_at_quiet_tick k d t h =
    by_test (λ (q : ℕ). q ≡ pulses_in k d (suc t)) (ltb t (k - 1)) _ _
    (λ e. simp (lt-ltb (suc t) k (omega (arith, ltb-true))))
    (λ e. simp (le-ltb (suc t) k (omega (arith, ltb-false))) (ap (λ (m : ℕ). 1 + m / d) (omega arith)))

pub ticks_fall_at_quiet_tick : (k d p : ℕ) → 2 ≤ k → ticks_left (k - 1) d p ≡ ticks_left k d p - 1
unfolding ticks_left
ticks_fall_at_quiet_tick k d zero h = refl
ticks_fall_at_quiet_tick k d (suc p) h = simp eqb-suc-zero (omega arith)

-- A pulse comes with k = 1 and leaves k = D.

less_one : (n : ℕ) → suc n - 1 ≡ n
less_one n = omega arith

pub place_shifts_at_pulse : (d t : ℕ) → 1 ≤ d → 1 + pulses_in d d t ≡ pulses_in 1 d (suc t)
unfolding place_after
place_shifts_at_pulse d t h =
    by_test (λ (q : ℕ). 1 + q ≡ pulses_in 1 d (suc t)) (ltb t d) _ _
    (λ e. simp (le-ltb (suc t) 1 (omega arith), less_one) (omega (arith, div-eq_of_lt (ltb-true t d e))))
    (λ e. simp (le-ltb (suc t) 1 (omega arith), less_one) (omega (arith, div-eq-sub-div h (ltb-false t d e))))

pub ticks_fall_at_pulse : (d p : ℕ) → ticks_left d d (p - 1) ≡ ticks_left 1 d p - 1
unfolding ticks_left
ticks_fall_at_pulse d zero = refl
ticks_fall_at_pulse d (suc zero) = omega arith
ticks_fall_at_pulse d (suc (suc p)) = simp (less_one, eqb-suc-zero, suc-mul) (omega arith)

-- No tick has passed, and none is left.

pub place_starts_at_zero : (k d : ℕ) → 1 ≤ k → pulses_in k d 0 ≡ 0
unfolding place_after
place_starts_at_zero k d h = simp (lt-ltb 0 k h)

pub no_ticks_no_pulses : (k d p : ℕ) → 1 ≤ k → ticks_left k d p ≡ 0 → p ≡ 0
unfolding ticks_left
no_ticks_no_pulses k d zero h e = refl
no_ticks_no_pulses k d (suc p) h e = let z = simp eqb-suc-zero at e in absurd (omega arith)
