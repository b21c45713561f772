use Rattle.queue.specs.Queue.{zero_entry}
use Rattle.queue.proofs.Laws.{Resting}
use Rattle.queue.proofs.entries.rest_is_zero.Given as goal

abbrev pub invariant-loop-i : goal.invariant-loop-i
invariant-loop-i l = Resting zero_entry 64 l.fn.q.count l.fn.q.entries l.zero l.i
