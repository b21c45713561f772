-- The test of the places beyond the count is in the end that of those seen.
use native.Mathlib.Omega.{arith}
use Rattle.queue.specs.Queue.{entry_rest}
use Rattle.queue.proofs.Laws.{rest-ends}
use Rattle.queue.proofs.entries.rest_is_zero.Goals as goal

pub returns : goal.returns
unfolding entry_rest
returns c = rest-ends c.loop-i.invariant (omega arith)
