use Rattle.numbers.proofs.Made.{Making}
use Rattle.queue.specs.Queue.{no_entry}
use Rattle.numbers.specs.Numbers.{entries_of}
use Rattle.numbers.proofs.entries_of.Given as goal

abbrev pub invariant-loop-i : goal.invariant-loop-i
invariant-loop-i l = Making no_entry 64 (entries_of 64 l.n) l.e-items l.i
