-- The test of the places beyond the count is in the end that of those seen.
use native.Mathlib.Omega.{arith}
use Rattle.queue.specs.Queue.{byte_rest}
use Rattle.queue.proofs.Laws.{test_ends}
use Rattle.queue.proofs.bytes.rest_is_zero.Goals as goal

pub returns : goal.returns
unfolding byte_rest
returns c = test_ends c.loop-i.invariant (omega arith)
