-- The two rows of the table: 1, or the ticks used, which stop in time.
use Rattle.device.specs.Forecast.{run_of}
use Rattle.forecast.proofs.Foretold.{stops_in_time}
use Rattle.invariant.proofs.Settled.{Kept}
use Rattle.queue.proofs.Laws.{length_mapped}
use mathlib.Core.Path.{◌∙◌}
use native.Mathlib.Omega.{arith}
use borrow.Author.Tests.{eq-eqb, ne_eqb}
use borrow.Author.Rules.{rules}
use Rattle.foretell.proofs.run.Goals as goal

pub returns-then-part-ne-NONE : goal.returns-then-part-ne-NONE
unfolding run_of
returns-then-part-ne-NONE c = record { outcome = rw c.part_of-part.ensures.lowest (simp (c.part_of-part.ensures.none ∙ ne_eqb _ _ c.if-part-ne-NONE.true)); in_time = λ e. absurd (omega arith) }

pub used-used-requires : goal.used-used-requires
used-used-requires c = c.part_of-part.ensures.none ∙ eq-eqb _ _ c.if-part-ne-NONE.false

pub advance-requires : goal.advance-requires
advance-requires c = c.part_of-part.ensures.none ∙ eq-eqb _ _ c.if-part-ne-NONE.false

pub returns : goal.returns
unfolding run_of
returns c =
    let w = c.part_of-part.ensures.none ∙ eq-eqb _ _ c.if-part-ne-NONE.false in
    let kept : Kept c.args.s =
    record { well = w; places = record { bytes_long = search rules; entries_long = search (length_mapped, c.well_formed, rules) } } in
    record { outcome = rw (c.advance.ensures, c.used-used.ensures) (simp w); in_time = λ _. rw c.used-used.ensures (stops_in_time _ kept _) }
