use Rattle.flag.specs.Flag.{all_of}
use Rattle.queue.specs.Queue.{entry_within}
use Rattle.queue.proofs.Laws.{Testing}
use Rattle.queue.proofs.entries.entries_within.Given as goal

abbrev pub invariant-loop-e : goal.invariant-loop-e
invariant-loop-e l = Testing (entry_within l.fn.n) 64 l.fn.q.entries (all_of (entry_within l.fn.n) l.fn.q.entries) l.within l.e-index
