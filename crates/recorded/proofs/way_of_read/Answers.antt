-- A read whose registers' state stays changes nothing.
use Rattle.step.proofs.Laws.{read_stays}
use Rattle.recorded.proofs.Laws.{read_step}
use Rattle.recorder.specs.Record.{address}
use Rattle.device.specs.Calls.{read_register}
use mathlib.Core.Path.{◌≡◌, ◌∙◌}
use borrow.Author.Tests.{eqb-true}
use Rattle.recorded.proofs.way_of_read.Goals as goal

pub returns : goal.returns
returns c =
    let s = c.args.s in
    let same : (read_register s (address c.args.w)).state ≡ s = rw (← c.address.ensures) (c.read_changes.ensures c.if-read_changes.false) in
    read_step _ _ c.requires.s_value (eqb-true _ _ c.requires.w_value) ∙ read_stays _ _ c.requires.s_value same
