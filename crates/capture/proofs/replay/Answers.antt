-- What a replay of the records that agrees says.
use Rattle.capture.proofs.Agreed.{agrees}
use Rattle.queue.proofs.Laws.{length_mapped}
use Rattle.capture.specs.declared.Replayed.{Replayed}
use mathlib.Core.Path.{sym, ap, ◌∙◌}
use borrow.Author.Tests.{eq-eqb}
use borrow.Author.Rules.{rules}
use Rattle.capture.proofs.replay.Goals as goal

pub returns-clause-agrees : goal.returns-clause-agrees
returns-clause-agrees c =
    let all = c.replay_records.ensures in
    let well = c.part_of-part.ensures.none ∙ eq-eqb _ _ c.if-part-ne-NONE.false in
    λ e. rw all (agrees _ 0 _ (record { well = well; places = (record { bytes_long = search rules; entries_long = search (length_mapped, c.well_formed.0.1.1.1.1.1.1.1.1.0, rules) }) }) (sym (ap (λ (r : Replayed). r.outcome) all) ∙ e))
