-- More laws of tests: what one that is put together of others says, and from what it follows.
use Prim.Native.Nat.{ℕ, ◌^◌, ◌≤◌, ◌<◌}
use mathlib.Core.Path.{◌≡◌, refl, sym}
use mathlib.Core.Bool.{Bool, true, false, cond, not, ◌||◌, false≢true, true≢false}
use mathlib.Core.List.{List, [], ◌∷◌}
use lib.ListN.{length}
use native.Mathlib.Nat.{pow-succ'}
use native.Mathlib.Omega.{arith}
use Rattle.flag.specs.Flag.{bit_of, byte_of, differ, every, implies}
use Rattle.flag.proofs.Laws.{and_both, by_test}

infixr 20 ◌&◌
-- every test of a list holds, one after the other
pub data AllHold : List Bool → Type 0 where
  end : AllHold []
  ◌&◌ : {t : Bool} {ts : List Bool} → t ≡ true → AllHold ts → AllHold (t ∷ ts)

pub all_hold : {ts : List Bool} → AllHold ts → every ts ≡ true
all_hold end = refl
all_hold (◌&◌ {t = t} {ts = ts} p q) = and_both t (every ts) p (all_hold q)

-- one of two tests, picked by a third
pub picked_yes : (t a b : Bool) → cond t a b ≡ true → t ≡ true → a ≡ true
picked_yes true a b e h = e
picked_yes false a b e h = absurd (false≢true h)

pub picked_no : (t a b : Bool) → cond t a b ≡ true → t ≡ false → b ≡ true
picked_no true a b e h = absurd (true≢false h)
picked_no false a b e h = e

-- where a implies b and a holds, b does
pub implies-holds : (a b : Bool) → implies a b ≡ true → a ≡ true → b ≡ true
implies-holds a b = picked_yes a b true

pub holds-implies : (a b : Bool) → (a ≡ true → b ≡ true) → implies a b ≡ true
holds-implies a b f = by_test (λ t. t ≡ true) a b true f (λ _. refl)

pub or_left : (a b : Bool) → a ≡ true → (a || b) ≡ true
or_left true b e = refl
or_left false b e = absurd (false≢true e)

pub or_right : (a b : Bool) → b ≡ true → (a || b) ≡ true
or_right true b e = refl
or_right false b e = e

-- a claim that follows from each of two tests follows from either
pub or_either : {P : Type 0} (a b : Bool) → (a || b) ≡ true → (a ≡ true → P) → (b ≡ true → P) → P
or_either true b e f g = f refl
or_either false b e f g = g e

-- where neither of two tests holds
pub or_neither : (a b : Bool) → (a || b) ≡ false → (a ≡ false) × (b ≡ false)
or_neither true b e = absurd (true≢false e)
or_neither false b e = (refl, e)

pub false_not : (t : Bool) → t ≡ false → not t ≡ true
false_not true e = absurd (true≢false e)
false_not false e = refl

-- tests that don't differ are equal
pub not_differ : (a b : Bool) → differ a b ≡ false → a ≡ b
not_differ true true e = refl
not_differ true false e = absurd (true≢false e)
not_differ false b e = sym e

-- a test as a flag is 0 or 1
pub bit-most : (t : Bool) → bit_of t ≤ 1
bit-most t = by_test (λ (n : ℕ). n ≤ 1) t _ _ (λ _. omega arith) (λ _. omega arith)

-- a number of n bits is below 2 ^ n
pub byte_less : (bs : List Bool) → byte_of bs < 2 ^ length bs
byte_less [] = omega arith
byte_less (b ∷ bs) =
    let h = byte_less bs in
    rw (pow-succ' 2 (length bs)) (omega (arith, bit-most b))
