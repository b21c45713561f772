-- The error by its sign and amount, and how large it can be.
use Prim.Native.Nat.{ℕ, zero, suc, ◌+◌, ◌-◌, ◌*◌, ◌/◌, ◌^◌, ◌≤◌, ◌<◌}
use native.Mathlib.Nat.{div-le_of_le-mul, mul-le-mul, mul-le-mul_left, mul-le-mul_right, zero-div}
use native.Mathlib.Omega.{arith}
use mathlib.Core.Path.{◌≡◌, refl, ap}
use mathlib.Core.Bool.{Bool, true, false}
use lib.Dec.{ltb}
use lib.IntN.{pos, negsuc, neg_ℤ, ◌-ℤ◌}
use lib.Signed.{quot_z}
use mir.Syntax.{w32}
use mir.Val.{SFits}
use borrow.Author.Tests.{lt-ltb, le-ltb, ltb-true, ltb-false}
use Rattle.rate.specs.Rate.{clock_for, distance, error_of, Nearest}
use Rattle.rate.proofs.Distance.{minus, multiple, distance_is, multiples}

-- a negative number over a positive one
quot_neg : (a b : ℕ) → quot_z (neg_ℤ (pos a)) (pos b) ≡ neg_ℤ (pos (a / b))
quot_neg zero b = rw (zero-div b)
quot_neg (suc a) b = refl

-- The error by the side on which the clock is, as a sign and an amount.
pub error_below : (clock rate d : ℕ) → clock < clock_for rate d → error_of clock rate d ≡ neg_ℤ (pos ((clock_for rate d - clock) * 1000000 / clock_for rate d))
unfolding error_of
error_below clock rate d h =
    let amount : suc (clock_for rate d - suc clock) ≡ clock_for rate d - clock = omega arith in
    rw (minus clock (clock_for rate d), lt-ltb _ _ h, amount) (quot_neg ((clock_for rate d - clock) * 1000000) (clock_for rate d))

pub error_above : (clock rate d : ℕ) → clock_for rate d ≤ clock → error_of clock rate d ≡ pos ((clock - clock_for rate d) * 1000000 / clock_for rate d)
unfolding error_of
error_above clock rate d h = rw (minus clock (clock_for rate d), le-ltb _ _ h)

-- How large the amount can be: below by at most all of it.
pub amount_below : (clock exact : ℕ) → (exact - clock) * 1000000 / exact ≤ 1000000
amount_below clock exact = div-le_of_le-mul exact (omega arith)

-- the clock passes the nearest divisor's by at most 15 times that, which it does for 65535 alone
passes : (clock rate d : ℕ) → 1 ≤ rate → clock ≤ 16000000 → Nearest 65535 clock rate d → clock ≤ 16 * clock_for rate d
passes clock rate d one top near = go (ltb d 65535) refl
  where
    go : (b : Bool) → ltb d 65535 ≡ b → clock ≤ 16 * clock_for rate d
    go true t =
        let less : d < 65535 = ltb-true _ _ t in
        let first : 0 * (16 * rate) + 16 * rate ≤ d * (16 * rate) = multiples (16 * rate) near.from_one in
        let next : (d + 1) * (16 * rate) ≡ d * (16 * rate) + 16 * rate = omega arith in
        let nearer : distance clock rate d ≤ distance clock rate (d + 1) = near.none-nearer (d + 1) (omega arith) (omega arith) in
        let here : distance clock rate d ≡ (clock - d * (16 * rate)) + (d * (16 * rate) - clock) = distance_is clock rate d in
        let there : distance clock rate (d + 1) ≡ (clock - (d + 1) * (16 * rate)) + ((d + 1) * (16 * rate) - clock) = distance_is clock rate (d + 1) in
        let same : clock_for rate d ≡ d * (16 * rate) = multiple rate d in
        omega arith
    go false t =
        let last : 65535 ≤ d = ltb-false _ _ t in
        let most : 65535 * (16 * rate) ≤ d * (16 * rate) = mul-le-mul_right (16 * rate) last in
        let same : clock_for rate d ≡ d * (16 * rate) = multiple rate d in
        omega arith

pub amount_above : (clock rate d : ℕ) → 1 ≤ rate → clock ≤ 16000000 → Nearest 65535 clock rate d → (clock - clock_for rate d) * 1000000 / clock_for rate d ≤ 15000000
amount_above clock rate d one top near =
    let most : clock ≤ 16 * clock_for rate d = passes clock rate d one top near in
    div-le_of_le-mul (clock_for rate d) (omega arith)

-- 16 × divisor × rate is above 0, and how large it can be
pub exact_bounds : (rate d : ℕ) → 1 ≤ rate → rate ≤ 1000000 → 1 ≤ d → d ≤ 65535 → (1 ≤ clock_for rate d) × (clock_for rate d ≤ 1048560000000)
exact_bounds rate d one most least top =
    let some : 16 * 1 * 1 ≤ clock_for rate d = mul-le-mul (mul-le-mul_left 16 least) one in
    let all : clock_for rate d ≤ 16 * 65535 * 1000000 = mul-le-mul (mul-le-mul_left 16 top) most in
    (omega arith, omega arith)

-- a number taken from 0
pub zero_minus : (n : ℕ) → pos 0 -ℤ pos n ≡ neg_ℤ (pos n)
zero_minus zero = refl
zero_minus (suc n) =
    let same : suc n - 1 ≡ n = omega arith in
    rw (lt-ltb 0 (suc n) (omega arith)) (ap negsuc same)

pub negative_fits : (n : ℕ) → n < 2 ^ 31 → SFits w32 (neg_ℤ (pos n))
negative_fits zero h = record { sfits = h }
negative_fits (suc n) h = record { sfits = omega arith }
