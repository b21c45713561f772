-- By the queue that the write reaches, or by its numbers.
use Rattle.invariant.proofs.Touched.{numbers-settled}
use mathlib.Core.Path.{sym, ◌∙◌}
use Rattle.step.proofs.write.Goals as goal

pub write_queue-requires : goal.write_queue-requires
write_queue-requires c = sym c.reaches_queue.ensures ∙ c.if-reaches_queue.true

pub returns-then-reaches_queue : goal.returns-then-reaches_queue
returns-then-reaches_queue c = c.write_queue.ensures

pub numbers-n-requires : goal.numbers-n-requires
numbers-n-requires c = sym c.reaches_queue.ensures ∙ c.if-reaches_queue.false

pub returns : goal.returns
returns c = rw c.numbers-n.ensures (sym (numbers-settled _ _ _ (sym c.reaches_queue.ensures ∙ c.if-reaches_queue.false)))
