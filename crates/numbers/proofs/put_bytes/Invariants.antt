use Rattle.text.proofs.Copies.{Copying}
use Rattle.numbers.proofs.put_bytes.Given as goal

abbrev pub invariant-loop-i : goal.invariant-loop-i
invariant-loop-i l = Copying l.b-items l.initial.out l.at l.out l.i
