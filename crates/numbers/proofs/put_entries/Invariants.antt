use Rattle.numbers.proofs.Places.{Spreading}
use Rattle.numbers.proofs.put_entries.Given as goal

abbrev pub invariant-loop-i : goal.invariant-loop-i
invariant-loop-i l = Spreading l.e-items l.initial.out l.at l.out l.i
