-- The two rows of the table: 1, or the ticks, of which those before a pulse lower k.
use Rattle.device.specs.Calls.{ticks_answer}
use Rattle.uart.proofs.Laws.{answered, counts_down}
use Rattle.queue.proofs.Laws.{length_mapped}
use mathlib.Core.Path.{ap, ◌∙◌}
use borrow.Author.Tests.{eq-eqb, ne_eqb}
use borrow.Author.Rules.{rules}
use Rattle.uart.proofs.ticks.Goals as goal

pub returns-then-part-ne-NONE : goal.returns-then-part-ne-NONE
unfolding ticks_answer
returns-then-part-ne-NONE c = rw (c.refused.ensures, c.part_of-part.ensures.lowest) (simp (c.part_of-part.ensures.none ∙ ne_eqb _ _ c.if-part-ne-NONE.true))

pub returns-then-n-s : goal.returns-then-n-s
unfolding ticks_answer
returns-then-n-s c =
    let well = c.part_of-part.ensures.none ∙ eq-eqb _ _ c.if-part-ne-NONE.false in
    rw (c.answered_with.ensures, c.outputs.ensures)
    (ap answered (counts_down _ _ (record { well = well; places = record { bytes_long = search rules; entries_long = search (length_mapped, c.well_formed, rules) } }) c.if-n-s.true) ∙ simp well)

pub advance-later-requires : goal.advance-later-requires
advance-later-requires c = c.part_of-part.ensures.none ∙ eq-eqb _ _ c.if-part-ne-NONE.false

pub returns : goal.returns
unfolding ticks_answer
returns c = rw (c.answered_with-2.ensures, c.outputs-2.ensures, c.advance-later.ensures) (simp (c.part_of-part.ensures.none ∙ eq-eqb _ _ c.if-part-ne-NONE.false))
