-- The two rows of the table: 1, or the ticks and the number of their jumps.
use Rattle.jump.proofs.Counted.{count_most}
use Rattle.jump.proofs.Jumps.{jumps_counted}
use Rattle.device.specs.Jump.{jump_of}
use Rattle.invariant.proofs.Settled.{Kept}
use Rattle.clock.proofs.Ticked.{k_some}
use Rattle.queue.proofs.Laws.{length_mapped}
use mathlib.Core.Path.{sym, ◌∙◌}
use native.Mathlib.Omega.{arith}
use borrow.Author.Tests.{eq-eqb, ne_eqb}
use borrow.Author.Rules.{rules}
use Rattle.jump.proofs.jump.Goals as goal

pub returns-then-part-ne-NONE : goal.returns-then-part-ne-NONE
unfolding jump_of
returns-then-part-ne-NONE c = record { outcome = rw c.part_of-part.ensures.lowest (simp (c.part_of-part.ensures.none ∙ ne_eqb _ _ c.if-part-ne-NONE.true)); at_most = λ _. omega arith }

pub count-requires : goal.count-requires
count-requires c =
    let w = c.part_of-part.ensures.none ∙ eq-eqb _ _ c.if-part-ne-NONE.false in
    let kept : Kept c.args.s =
    record { well = w; places = record { bytes_long = search rules; entries_long = search (length_mapped, c.well_formed, rules) } } in
    λ _ d. k_some _ kept d

pub advance-requires : goal.advance-requires
advance-requires c = c.part_of-part.ensures.none ∙ eq-eqb _ _ c.if-part-ne-NONE.false

pub returns : goal.returns
unfolding jump_of
returns c =
    let w = c.part_of-part.ensures.none ∙ eq-eqb _ _ c.if-part-ne-NONE.false in
    let kept : Kept c.args.s =
    record { well = w; places = record { bytes_long = search rules; entries_long = search (length_mapped, c.well_formed, rules) } } in
    let counted = c.count.ensures in
    record { outcome = rw (counted ∙ sym (jumps_counted _ kept _), c.advance.ensures) (simp w); at_most = λ d. rw counted (count_most _ _ _ d) }
