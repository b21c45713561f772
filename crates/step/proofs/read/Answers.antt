-- A read that changes nothing leaves a well-formed state as it is.
use Rattle.step.proofs.Laws.{readable, read_stays}
use mathlib.Core.Path.{◌≡◌}
use borrow.Author.Tests.{not-true}
use Rattle.device.specs.Autoflow.{settled}
use Rattle.device.specs.Calls.{read_register}
use Rattle.step.proofs.read.Goals as goal

pub value-byte-requires : goal.value-byte-requires
value-byte-requires c = readable _ c.requires

pub returns-then-not-read_changes : goal.returns-then-not-read_changes
returns-then-not-read_changes c =
    let s = c.args.s in
    let a = c.args.address in
    let same : settled (read_register s a).state ≡ s = read_stays s a c.requires (c.read_changes.ensures (not-true _ c.if-not-read_changes.true-raw)) in
    rw (c.value-byte.ensures, same)

pub returns : goal.returns
returns c = rw (c.after_read.ensures, c.value-byte.ensures)
