use Rattle.text.proofs.Decimals.{Writing}
use Rattle.text.proofs.decimal.put_line.Given as goal

abbrev pub invariant-loop-i : goal.invariant-loop-i
invariant-loop-i g l = Writing l.numbers l.initial.out.items l.out.items l.i
