-- With stick parity the bit is the opposite of LCR4; else the ones of the character decide.
use mathlib.Core.Path.{sym, ap, ◌∙◌}
use mathlib.Core.Bool.{Bool, not}
use Prim.Native.Nat.{ℕ, ◌-◌, ◌%◌}
use native.Mathlib.Omega.{arith}
use lib.Count.{ones}
use Rattle.flag.specs.Flag.{bit_of}
use Rattle.flag.proofs.Laws.{from_test, bit_small}
use Rattle.frame.proofs.Parity.{parity-even, parity-odd, parity-stick}
use Rattle.frame.proofs.parity_bit.Goals as goal

pub returns-then-has : goal.returns-then-has
returns-then-has c =
    let even = c.has-even.ensures in
    let stick = sym c.has.ensures ∙ c.if-has.true in
    let bit = c.from.ensures ∙ from_test (not c.has-even.result) in
    (bit ∙ ap (λ (b : Bool). bit_of (not b)) even ∙ sym (parity-stick _ _ stick), rw bit (bit_small (not c.has-even.result)))

pub returns-then-even : goal.returns-then-even
returns-then-even c =
    let even = sym c.has-even.ensures ∙ c.if-even.true in
    let stick = sym c.has.ensures ∙ c.if-has.false in
    (ap (λ (n : ℕ). ones n % 2) c.character.ensures ∙ sym (parity-even _ _ stick even), omega arith)

pub returns : goal.returns
returns c =
    let even = sym c.has-even.ensures ∙ c.if-even.false in
    let stick = sym c.has.ensures ∙ c.if-has.false in
    (ap (λ (n : ℕ). 1 - ones n % 2) c.character.ensures ∙ sym (parity-odd _ _ stick even), omega arith)
