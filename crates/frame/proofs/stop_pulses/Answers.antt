-- One return for each row of table 7.
use Rattle.frame.specs.Format.{stop_pulses, data_bits}
use mathlib.Core.Path.{◌≡◌, sym, ◌∙◌}
use native.Mathlib.Omega.{arith}
use borrow.Author.Tests.{eq-eqb, ne_eqb, not-true, not-false}
use Rattle.frame.proofs.stop_pulses.Goals as goal

pub returns-then-not-has : goal.returns-then-not-has
unfolding stop_pulses
returns-then-not-has c = (simp (sym c.has.ensures ∙ not-true _ c.if-not-has.true-raw), omega arith)

pub returns-then-data_bits-eq5 : goal.returns-then-data_bits-eq5
unfolding stop_pulses
returns-then-data_bits-eq5 c =
    let h = sym c.has.ensures ∙ not-false _ c.if-not-has.false-raw in
    let n = sym c.data_bits.ensures.0 ∙ c.if-data_bits-eq5.true in
    (simp (h, eq-eqb _ _ n), omega arith)

pub returns : goal.returns
unfolding stop_pulses
returns c =
    let h = sym c.has.ensures ∙ not-false _ c.if-not-has.false-raw in
    let n : data_bits c.args.format ≡ 5 → ⊥ = λ e. c.if-data_bits-eq5.false (c.data_bits.ensures.0 ∙ e) in
    (simp (h, ne_eqb _ _ n), omega arith)
