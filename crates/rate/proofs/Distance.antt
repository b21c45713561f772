-- The distance between clock and 16 × divisor × rate in natural numbers, and divisors by their order.
use Prim.Native.Nat.{ℕ, zero, suc, ◌+◌, ◌-◌, ◌*◌, ◌≤◌, ◌<◌, zero-le}
use native.Mathlib.Nat.{mul_comm, mul_assoc, mul-le-mul_right}
use native.Mathlib.Decide.{dec_lt}
use native.Mathlib.Omega.{arith}
use mathlib.Core.Path.{◌≡◌, refl, ap, ◌∙◌, subst}
use lib.Dec.{ltb}
use lib.IntN.{ℤ, pos, nat_abs, sub_ℕ, ◌-ℤ◌}
use borrow.Author.Tests.{le-ltb, ltb-true, ltb-false}
use Rattle.flag.proofs.Laws.{by_test}
use Rattle.rate.specs.Rate.{clock_for, distance}

-- a difference of two natural numbers
pub minus : (a b : ℕ) → pos a -ℤ pos b ≡ sub_ℕ a b
minus a zero =
    let same : a + 0 ≡ a - 0 = omega arith in
    simp (le-ltb a 0 zero-le) (ap pos same)
minus a (suc b) = refl

-- its amount
amount : (a b : ℕ) → nat_abs (sub_ℕ a b) ≡ (a - b) + (b - a)
amount a b =
    by_test (λ (z : ℤ). nat_abs z ≡ (a - b) + (b - a)) (ltb a b) _ _
    (λ t. let h : a < b = ltb-true _ _ t in omega arith)
    (λ t. let h : b ≤ a = ltb-false _ _ t in omega arith)

-- 16 × divisor × rate as a multiple of 16 × rate
pub multiple : (rate d : ℕ) → clock_for rate d ≡ d * (16 * rate)
multiple rate d = ap (λ (n : ℕ). n * rate) (mul_comm 16 d) ∙ mul_assoc d 16 rate

-- the larger number less the smaller
pub distance_is : (clock rate d : ℕ) → distance clock rate d ≡ (clock - d * (16 * rate)) + (d * (16 * rate) - clock)
unfolding distance
distance_is clock rate d =
    ap nat_abs (minus clock (clock_for rate d)) ∙ amount clock (clock_for rate d) ∙ ap (λ (n : ℕ). (clock - n) + (n - clock)) (multiple rate d)

-- the multiples of a step: one more is at least a step more
pub multiples : (step : ℕ) {d e : ℕ} → d < e → d * step + step ≤ e * step
multiples step {d} {e} h =
    let more : suc d * step ≤ e * step = mul-le-mul_right step h in
    let same : suc d * step ≡ d * step + step = omega arith in
    omega arith

-- a claim about e, which is below d, d itself or above it
pub by_order : (P : ℕ → Type 0) (d e : ℕ) → (e < d → P e) → P d → (d < e → P e) → P e
by_order P d e less same more = below (dec_lt e d)
  where
    above : d ≤ e → Dec (d < e) → P e
    above h (yes k) = more k
    above h (no n) =
        let equal : d ≡ e = omega (arith, n) in
        subst P equal same

    below : Dec (e < d) → P e
    below (yes h) = less h
    below (no n) = above (omega (arith, n)) (dec_lt d e)
