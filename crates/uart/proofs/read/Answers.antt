-- The rows of the table in their order: 1, 2, or done; a read that changes nothing leaves the state as it is.
use Rattle.device.specs.declared.State.{State}
use Rattle.device.specs.State.{with_rx, with_latches}
use Rattle.device.specs.Ranges.{well_formed}
use Rattle.device.specs.Rbr.{rbr_read}
use Rattle.device.specs.Pins.{outputs}
use Rattle.device.specs.Autoflow.{settled}
use Rattle.device.specs.Calls.{done, read_of, read_register}
use Rattle.uart.proofs.Laws.{taken, some_taken}
use Rattle.step.proofs.Laws.{readable, read_stays}
use mathlib.Core.Path.{◌≡◌, sym, ap, ◌∙◌}
use mathlib.Core.Bool.{true}
use borrow.Author.Tests.{eq-eqb, ne_eqb}
use Rattle.uart.proofs.read.Goals as goal

pub returns-then-part-ne-NONE : goal.returns-then-part-ne-NONE
unfolding read_of
returns-then-part-ne-NONE c = rw (c.refused.ensures, c.part_of-part.ensures.lowest) (simp (c.part_of-part.ensures.none ∙ ne_eqb _ _ c.if-part-ne-NONE.true))

pub returns-then-not-is_register : goal.returns-then-not-is_register
unfolding read_of
returns-then-not-is_register c = rw c.refused-then-not-is_register.ensures (simp (c.part_of-part.ensures.none ∙ eq-eqb _ _ c.if-part-ne-NONE.false, sym c.is_register.ensures ∙ c.if-not-is_register.true))

pub value-byte-requires : goal.value-byte-requires
value-byte-requires c = readable _ (c.part_of-part.ensures.none ∙ eq-eqb _ _ c.if-part-ne-NONE.false)

pub returns-then-not-read_changes : goal.returns-then-not-read_changes
unfolding read_of done
returns-then-not-read_changes c =
    let s = c.args.s in
    let a = c.args.address in
    let well : well_formed s ≡ true = c.part_of-part.ensures.none ∙ eq-eqb _ _ c.if-part-ne-NONE.false in
    let same : settled (read_register s a).state ≡ s = read_stays s a well (c.read_changes.ensures c.if-not-read_changes.true) in
    rw (c.answered_with.ensures, c.outputs.ensures, c.value-byte.ensures, same) (simp (well, sym c.is_register.ensures ∙ c.if-not-is_register.false, same))

pub take-r-requires : goal.take-r-requires
take-r-requires c = some_taken c.args.s c.args.address (sym c.takes.ensures ∙ c.if-takes.true)

pub returns-then-takes : goal.returns-then-takes
unfolding read_of done
returns-then-takes c =
    let s = c.args.s in
    let a = c.args.address in
    let all : with_latches (with_rx s (settled (rbr_read s).state).rx) (settled (rbr_read s).state).latches ≡ settled (read_register s a).state = taken s a (sym c.takes.ensures ∙ c.if-takes.true) in
    rw (c.answered_with-then-takes.ensures, c.outputs-then-takes.ensures, c.take-r.ensures, c.value-byte.ensures)
    (ap (λ (t : State). record { number = 0; part = 0; byte = (read_register s a).byte; outputs = outputs t; state = t }) all ∙ simp (c.part_of-part.ensures.none ∙ eq-eqb _ _ c.if-part-ne-NONE.false, sym c.is_register.ensures ∙ c.if-not-is_register.false))

pub returns : goal.returns
unfolding read_of done
returns c = rw (c.answered_with-2.ensures, c.outputs-2.ensures, c.after_read-after.ensures, c.value-byte.ensures) (simp (c.part_of-part.ensures.none ∙ eq-eqb _ _ c.if-part-ne-NONE.false, sym c.is_register.ensures ∙ c.if-not-is_register.false))
