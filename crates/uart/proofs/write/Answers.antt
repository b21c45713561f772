-- The rows of the table in their order: 1, 2, or done.
use Rattle.device.specs.Calls.{done, write_of}
use Rattle.uart.proofs.Laws.{answered, queued}
use Rattle.invariant.proofs.Touched.{numbers-settled}
use mathlib.Core.Path.{sym, ap, ◌∙◌}
use borrow.Author.Tests.{eq-eqb, ne_eqb}
use Rattle.uart.proofs.write.Goals as goal

pub returns-then-part-ne-NONE : goal.returns-then-part-ne-NONE
unfolding write_of
returns-then-part-ne-NONE c = rw (c.refused.ensures, c.part_of-part.ensures.lowest) (simp (c.part_of-part.ensures.none ∙ ne_eqb _ _ c.if-part-ne-NONE.true))

pub returns-then-not-is_register : goal.returns-then-not-is_register
unfolding write_of
returns-then-not-is_register c = rw c.refused-then-not-is_register.ensures (simp (c.part_of-part.ensures.none ∙ eq-eqb _ _ c.if-part-ne-NONE.false, sym c.is_register.ensures ∙ c.if-not-is_register.true))

pub put-p-requires : goal.put-p-requires
put-p-requires c = c.part_of-part.ensures.none ∙ eq-eqb _ _ c.if-part-ne-NONE.false

pub returns-then-address-eq-THR : goal.returns-then-address-eq-THR
unfolding write_of done
returns-then-address-eq-THR c =
    let s = c.args.s in
    let a = c.args.address in
    let all = queued s a c.args.byte (sym c.reaches_queue.ensures ∙ c.if-reaches_queue.true) c.if-address-eq-THR.true in
    rw (c.answered_with.ensures, c.outputs.ensures, c.put-p.ensures)
    (ap answered all ∙ simp (c.part_of-part.ensures.none ∙ eq-eqb _ _ c.if-part-ne-NONE.false, sym c.is_register.ensures ∙ c.if-not-is_register.false))

pub write_queue-set-requires : goal.write_queue-set-requires
write_queue-set-requires c = sym c.reaches_queue.ensures ∙ c.if-reaches_queue.true

pub returns-then-reaches_queue : goal.returns-then-reaches_queue
unfolding write_of done
returns-then-reaches_queue c = rw (c.answered_with-then-reaches_queue.ensures, c.outputs-then-reaches_queue.ensures, c.write_queue-set.ensures) (simp (c.part_of-part.ensures.none ∙ eq-eqb _ _ c.if-part-ne-NONE.false, sym c.is_register.ensures ∙ c.if-not-is_register.false))

pub numbers-n-requires : goal.numbers-n-requires
numbers-n-requires c = sym c.reaches_queue.ensures ∙ c.if-reaches_queue.false

pub returns : goal.returns
unfolding write_of done
returns c =
    let apart = sym c.reaches_queue.ensures ∙ c.if-reaches_queue.false in
    rw (c.answered_with-2.ensures, c.outputs-2.ensures, c.numbers-n.ensures)
    (ap answered (sym (numbers-settled _ _ _ apart)) ∙ simp (c.part_of-part.ensures.none ∙ eq-eqb _ _ c.if-part-ne-NONE.false, sym c.is_register.ensures ∙ c.if-not-is_register.false))
