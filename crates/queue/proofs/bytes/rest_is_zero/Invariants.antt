use lib.ListN.{drop}
use Rattle.flag.specs.Flag.{all_of}
use Rattle.queue.specs.Queue.{zero_byte}
use Rattle.queue.proofs.Laws.{Testing}
use Rattle.queue.proofs.bytes.rest_is_zero.Given as goal

abbrev pub invariant-loop-i : goal.invariant-loop-i
invariant-loop-i l = Testing zero_byte 64 l.fn.q.bytes (all_of zero_byte (drop l.fn.q.count l.fn.q.bytes)) l.zero l.i
