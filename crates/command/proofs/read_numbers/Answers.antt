-- The first `i` numbers stand in the buffer, and the next word begins at `at`.
use lib.ListN.{length-set}
use Rattle.command.proofs.Loading.{fill_begins, fill_ends, fill_no_number, fill_turns, fill_last, fill_all}
use mathlib.Core.Path.{sym, ◌∙◌}
use native.Mathlib.Omega.{arith}
use Rattle.command.proofs.read_numbers.Goals as goal

pub loop-i-init : goal.loop-i-init
loop-i-init c = fill_begins _ _

pub shape_of-to-in_err-to : goal.shape_of-to-in_err-to
shape_of-to-in_err-to c = c.loop-i.invariant.long

pub returns-in_err-to-clause-value : goal.returns-in_err-to-clause-value
returns-in_err-to-clause-value c = c.from_residual.ensures ∙ fill_no_number _ c.word_end-end.ensures.value c.loop-i.invariant c.word_end-end.ensures.upper_bound (sym c.number_of.ensures ∙ c.in_err-to.was)

pub shape_of-to-then-end-numbers : goal.shape_of-to-then-end-numbers
shape_of-to-then-end-numbers c = simp length-set c.loop-i.invariant.long

pub returns-then-end-numbers : goal.returns-then-end-numbers
returns-then-end-numbers c = record { lower_bound = omega arith; value = fill_last _ c.word_end-end.ensures.value c.in_ok-to.field-0 (sym c.number_of.ensures ∙ c.in_ok-to.was) c.loop-i.invariant (omega (arith, c.loop-i.invariant.long)) c.if-end-numbers.true; upper_bound = omega (arith, c.loop-i.invariant.long); to_after = fill_all _ c.word_end-end.ensures.value c.in_ok-to.field-0 (sym c.number_of.ensures ∙ c.in_ok-to.was) c.loop-i.invariant (omega (arith, c.loop-i.invariant.long)) c.if-end-numbers.true }

pub loop-i-preserved : goal.loop-i-preserved
loop-i-preserved c = fill_turns _ c.word_end-end.ensures.value c.in_ok-to.field-0 (sym c.number_of.ensures ∙ c.in_ok-to.was) c.loop-i.invariant (omega (arith, c.loop-i.invariant.long)) (omega arith)

pub shape_of-to : goal.shape_of-to
shape_of-to c = c.loop-i.invariant.long

pub returns-clause-value : goal.returns-clause-value
returns-clause-value c = fill_ends c.loop-i.invariant (omega (arith, c.loop-i.invariant.long))
