-- What stands before the first space is the first number, and all that follows it the second.
use lib.Seq.{length-take-le}
use Rattle.text.specs.Decimal.{number_of}
use Rattle.text.proofs.Splitting.{rest_of}
use Rattle.command.proofs.Pairs.{single, no_first, large_first, no_second, large_second, both_numbers}
use Prim.Native.Nat.{◌+◌}
use mathlib.Core.Path.{refl, sym, ap, ◌∙◌}
use native.Mathlib.Omega.{arith}
use borrow.Author.Tests.{le-leb}
use Rattle.command.proofs.two_numbers.Goals as goal

pub returns-then-end-numbers : goal.returns-then-end-numbers
returns-then-end-numbers c = record { by_index = λ f. single _ f _ c.word_end-end.result c.word_end-end.ensures.value c.if-end-numbers.true; result_value = refl }

pub slice_bounds-number_of-end : goal.slice_bounds-number_of-end
slice_bounds-number_of-end c = sym (length-take-le _ _ c.word_end-end.ensures.upper_bound)

pub returns-in_err-a-clause-by_index : goal.returns-in_err-a-clause-by_index
returns-in_err-a-clause-by_index c = λ f. rw c.from_residual.ensures (no_first _ f _ c.word_end-end.result c.word_end-end.ensures.value (omega arith) (sym c.number_of.ensures ∙ c.in_err-a.was))

pub returns-then-most-a : goal.returns-then-most-a
returns-then-most-a c = record { by_index = λ f. large_first _ f _ c.word_end-end.result c.word_end-end.ensures.value (omega arith) c.in_ok-a.a (sym c.number_of.ensures ∙ c.in_ok-a.was) c.if-most-a.true; result_value = refl }

pub returns-in_err-b-clause-by_index : goal.returns-in_err-b-clause-by_index
returns-in_err-b-clause-by_index c = λ f. rw c.from_residual-in_err-b.ensures (no_second _ f _ c.word_end-end.result c.word_end-end.ensures.value (omega arith) c.in_ok-a.a (sym c.number_of.ensures ∙ c.in_ok-a.was) (ap number_of (sym (rest_of c.args.numbers.now (c.word_end-end.result + 1))) ∙ sym c.number_of-2.ensures ∙ c.in_err-b.was))

pub returns-then-most-b : goal.returns-then-most-b
returns-then-most-b c = record { by_index = λ f. large_second _ f _ c.word_end-end.result c.word_end-end.ensures.value (omega arith) c.in_ok-a.a (sym c.number_of.ensures ∙ c.in_ok-a.was) c.in_ok-b.b (ap number_of (sym (rest_of c.args.numbers.now (c.word_end-end.result + 1))) ∙ sym c.number_of-2.ensures ∙ c.in_ok-b.was) c.if-most-b.true; result_value = refl }

pub returns : goal.returns
returns c = record { by_index = λ f. both_numbers _ f _ c.word_end-end.result c.word_end-end.ensures.value (omega arith) c.in_ok-a.a (sym c.number_of.ensures ∙ c.in_ok-a.was) c.in_ok-b.b (ap number_of (sym (rest_of c.args.numbers.now (c.word_end-end.result + 1))) ∙ sym c.number_of-2.ensures ∙ c.in_ok-b.was) c.if-most-a.false c.if-most-b.false; result_value = simp (le-leb _ _ c.if-most-a.false, le-leb _ _ c.if-most-b.false) }
