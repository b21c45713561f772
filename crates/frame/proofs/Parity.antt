-- Laws of the parity bit: what it is with even, odd and stick parity, and the ones of a character as those of its bits.
use Prim.Native.Nat.{ℕ, ◌+◌, ◌-◌, ◌%◌}
use native.Mathlib.Decide.{dec_lt}
use native.Mathlib.Omega.{arith}
use mathlib.Core.Path.{◌≡◌, refl}
use mathlib.Core.Bool.{Bool, true, false, not}
use borrow.Author.Tests.{eq-eqb, ne_eqb}
use lib.Dec.{eqb}
use lib.Count.{ones}
use Rattle.flag.specs.Flag.{bit, bit_of}
use Rattle.frame.specs.Format.{character_of, has_parity, parity_bit}

-- the bit that makes n and itself even, and the one that makes them odd

makes_even : (n : ℕ) → bit_of (eqb ((n + 1) % 2) 0) ≡ n % 2
makes_even n =
    elim (dec_lt (n % 2) 1) [
      | yes h ↦ simp (ne_eqb ((n + 1) % 2) 0 (λ e. omega arith)) (omega arith)
      | no h ↦ simp (eq-eqb ((n + 1) % 2) 0 (omega arith)) (omega arith)
    ]

makes_odd : (n : ℕ) → bit_of (eqb ((n + 1) % 2) 1) ≡ 1 - n % 2
makes_odd n =
    elim (dec_lt (n % 2) 1) [
      | yes h ↦ simp (eq-eqb ((n + 1) % 2) 1 (omega arith)) (omega arith)
      | no h ↦ simp (ne_eqb ((n + 1) % 2) 1 (λ e. omega arith)) (omega arith)
    ]

pub parity-even : (x f : ℕ) → bit 5 f ≡ false → bit 4 f ≡ true → parity_bit x f ≡ ones (character_of x f) % 2
unfolding parity_bit has_parity
parity-even x f stick even = simp (stick, even) (makes_even (ones (character_of x f)))

pub parity-odd : (x f : ℕ) → bit 5 f ≡ false → bit 4 f ≡ false → parity_bit x f ≡ 1 - ones (character_of x f) % 2
unfolding parity_bit has_parity
parity-odd x f stick even = simp (stick, even) (makes_odd (ones (character_of x f)))

one_test : (b : Bool) → bit_of (eqb 1 (bit_of b)) ≡ bit_of b
one_test true = refl
one_test false = refl

pub parity-stick : (x f : ℕ) → bit 5 f ≡ true → parity_bit x f ≡ bit_of (not (bit 4 f))
unfolding parity_bit has_parity
parity-stick x f stick = simp stick (one_test (not (bit 4 f)))
