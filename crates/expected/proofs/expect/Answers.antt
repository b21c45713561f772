-- What the records answer.
use mathlib.Core.Path.{sym, ◌∙◌}
use borrow.Author.Tests.{eq-eqb}
use Rattle.expected.proofs.Laws.{records_keep}
use Rattle.expected.proofs.expect.Goals as goal

pub returns : goal.returns
returns c =
    let done = c.expect_records.ensures in
    records_keep _ _ _ _ _ _ (c.part_of-part.ensures.none ∙ eq-eqb _ _ c.if-part-ne-NONE.false) (sym c.known.ensures ∙ c.if-not-known.false) done.words_after done.words_after_2 done.state_value done.count_in_bounds
