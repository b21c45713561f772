-- Each way out has the row of the first word, and the words that follow it.
use lib.Seq.{length-take-le}
use Rattle.command.proofs.Reading.{line_whole, line_operands, line_row, line-number, line-none, no_operands}
use mathlib.Core.Path.{refl, sym, ◌∙◌}
use mathlib.Core.List.{[]}
use native.Mathlib.Omega.{arith}
use Rattle.command.proofs.command_of.Goals as goal

pub slice_bounds-word-end : goal.slice_bounds-word-end
slice_bounds-word-end c = sym (length-take-le _ _ c.word_end-end.ensures.upper_bound)

pub returns-then-end-line : goal.returns-then-end-line
returns-then-end-line c =
    let e = c.bare.ensures.value ∙ line_whole _ c.word_end-end.result c.word_end-end.ensures.value c.if-end-line.true in
    record { value = e; result_bound = omega (arith, c.bare.ensures.result_value); to_after = no_operands _ _ _ e c.bare.ensures.result_value }

pub returns-then-same : goal.returns-then-same
returns-then-same c =
    let e = line_row _ c.word_end-end.result c.word_end-end.ensures.value (omega arith) _ _ (sym c.same.ensures ∙ c.if-same.true) c.write.ensures.value in
    record { value = e; result_bound = omega (arith, c.write.ensures.result_value); to_after = no_operands _ _ _ e c.write.ensures.result_value }

pub returns-then-same-2 : goal.returns-then-same-2
returns-then-same-2 c =
    let e = line_row _ c.word_end-end.result c.word_end-end.ensures.value (omega arith) _ _ (sym c.same-2.ensures ∙ c.if-same-2.true) c.load.ensures.value in
    record { value = e; result_bound = c.load.ensures.result_bound; to_after = line_operands _ c.word_end-end.result c.word_end-end.ensures.value (omega arith) _ _ e c.load.ensures.to_after }

pub returns-then-same-3 : goal.returns-then-same-3
returns-then-same-3 c =
    let e = line_row _ c.word_end-end.result c.word_end-end.ensures.value (omega arith) _ _ (sym c.same-3.ensures ∙ c.if-same-3.true) c.divisor.ensures.value in
    record { value = e; result_bound = omega (arith, c.divisor.ensures.result_value); to_after = no_operands _ _ _ e c.divisor.ensures.result_value }

pub returns-then-same-4 : goal.returns-then-same-4
returns-then-same-4 c =
    let e = line_row _ c.word_end-end.result c.word_end-end.ensures.value (omega arith) _ _ (sym c.same-4.ensures ∙ c.if-same-4.true) c.replay.ensures.value in
    record { value = e; result_bound = c.replay.ensures.result_bound; to_after = line_operands _ c.word_end-end.result c.word_end-end.ensures.value (omega arith) _ _ e c.replay.ensures.to_after }

pub returns-then-same-5 : goal.returns-then-same-5
returns-then-same-5 c =
    let e = line_row _ c.word_end-end.result c.word_end-end.ensures.value (omega arith) _ _ (sym c.same-5.ensures ∙ c.if-same-5.true) c.expect.ensures.value in
    record { value = e; result_bound = c.expect.ensures.result_bound; to_after = line_operands _ c.word_end-end.result c.word_end-end.ensures.value (omega arith) _ _ e c.expect.ensures.to_after }

pub with_number-requires : goal.with_number-requires
with_number-requires c = sym c.same-4.ensures ∙ c.if-same-4.false

pub returns-in-Some : goal.returns-in-Some
returns-in-Some c =
    let e = line-number _ c.word_end-end.result c.word_end-end.ensures.value (omega arith) _ c.in-Some.n (sym c.number_of.ensures ∙ c.in-Some.is) c.with_number.ensures.by_index in
    record { value = e; result_bound = omega (arith, c.with_number.ensures.result_value); to_after = no_operands _ _ _ e c.with_number.ensures.result_value }

pub returns-in-None : goal.returns-in-None
returns-in-None c =
    let e = line-none _ c.word_end-end.result c.word_end-end.ensures.value (omega arith) (sym c.number_of.ensures ∙ c.in-None.is) (sym c.same.ensures ∙ c.if-same.false) (sym c.same-2.ensures ∙ c.if-same-2.false) (sym c.same-3.ensures ∙ c.if-same-3.false) (sym c.same-4.ensures ∙ c.if-same-4.false) (sym c.same-5.ensures ∙ c.if-same-5.false) in
    record { value = e; result_bound = omega arith; to_after = no_operands _ [] _ e refl }
