-- The test of all places is in the end that of those seen.
use native.Mathlib.Omega.{arith}
use Rattle.queue.specs.Queue.{entries_within}
use Rattle.queue.proofs.Laws.{test_ends}
use Rattle.queue.proofs.entries.entries_within.Goals as goal

pub returns : goal.returns
unfolding entries_within
returns c = test_ends c.loop-e.invariant (omega arith)
