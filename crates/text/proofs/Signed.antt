-- Signed numbers of 32 bits: as the machine keeps them, and as text.
use Prim.Native.Nat.{ℕ, suc, ◌^◌, ◌≤◌, ◌<◌}
use mathlib.Core.Path.{◌≡◌, refl, ap, ◌∙◌, subst}
use mathlib.Core.Bool.{Bool, true, false, true≢false}
use mathlib.Core.List.{List, [], ◌∷◌, ◌++◌, append_assoc}
use borrow.Author.Tests.{ltb-true}
use lib.ListN.{length}
use native.Mathlib.Omega.{arith}
use lib.IntN.{ℤ, pos, negsuc, nat_abs}
use lib.Signed.{lt_z, nat_abs-le}
use mir.Syntax.{w32}
use mir.Val.{SFits, to_z, of_z}
use mir.ValLaws.{to_z-of_z}
use Rattle.text.specs.Decimal.{decimal_of, long_decimal_of, signed_of}
use Rattle.text.proofs.Decimals.{long_decimal, decimal_room}

-- as text
minus_first : (z : ℤ) → lt_z z (pos 0) ≡ true → 45 ∷ decimal_of (nat_abs z) ≡ signed_of z
minus_first (pos n) h =
    let none : n < 0 = ltb-true n 0 h in
    absurd (omega arith)
minus_first (negsuc n) h = refl

digits_alone : (z : ℤ) → lt_z z (pos 0) ≡ false → decimal_of (nat_abs z) ≡ signed_of z
digits_alone (pos n) h = refl
digits_alone (negsuc n) h = absurd (true≢false h)

module _ (z : ℤ) (f : SFits w32 z) where
  plain : to_z w32 (of_z w32 z) ≡ z
  plain = to_z-of_z w32 z f

  amount_most : nat_abs z ≤ 2 ^ 31
  amount_most = nat_abs-le z f.sfits

  long : long_decimal_of (nat_abs z) ≡ decimal_of (nat_abs z)
  long = long_decimal (nat_abs z) (let m = amount_most in omega arith)

  -- the test of the sign is one of the number
  tested : (b : Bool) → lt_z (to_z w32 (of_z w32 z)) (pos 0) ≡ b → lt_z z (pos 0) ≡ b
  tested b = subst (λ (y : ℤ). lt_z y (pos 0) ≡ b) plain

  -- the digits are those of the amount
  digits : (m : ℕ) → m ≡ nat_abs (to_z w32 (of_z w32 z)) → long_decimal_of m ≡ decimal_of (nat_abs z)
  digits m e = ap long_decimal_of (e ∙ ap nat_abs plain) ∙ long

  pub signed_negative : (m : ℕ) → lt_z (to_z w32 (of_z w32 z)) (pos 0) ≡ true → m ≡ nat_abs (to_z w32 (of_z w32 z)) → 45 ∷ long_decimal_of m ≡ signed_of z
  signed_negative m h e = ap (λ (ds : List ℕ). 45 ∷ ds) (digits m e) ∙ minus_first z (tested true h)

  pub signed_positive : (m : ℕ) → lt_z (to_z w32 (of_z w32 z)) (pos 0) ≡ false → m ≡ nat_abs (to_z w32 (of_z w32 z)) → long_decimal_of m ≡ signed_of z
  signed_positive m h e = digits m e ∙ digits_alone z (tested false h)

-- a byte and a number's digits appended are a text, where the byte is its sign
pub sign_appended : (from mid to ds text : List ℕ) (b : ℕ) → b ≡ 45 → mid ≡ from ++ (b ∷ []) → to ≡ mid ++ ds → 45 ∷ ds ≡ text → to ≡ from ++ text
sign_appended from mid to ds text b s p q e =
    let two : to ≡ from ++ (45 ∷ ds) = rw (q, p, s) (append_assoc from (45 ∷ []) ds) in
    two ∙ ap (λ (t : List ℕ). from ++ t) e

-- at most ten digits and the sign
pub signed_room : (z : ℤ) → length (signed_of z) ≤ 11
signed_room (pos n) = omega (arith, decimal_room n)
signed_room (negsuc n) = omega (arith, decimal_room (suc n))
