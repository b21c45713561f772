use Rattle.command.proofs.Loading.{Filling}
use Rattle.command.proofs.read_numbers.Given as goal

abbrev pub invariant-loop-i : goal.invariant-loop-i
invariant-loop-i l = Filling l.numbers l.initial.to l.to l.at l.i
