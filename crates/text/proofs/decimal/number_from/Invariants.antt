use Rattle.text.proofs.Decimals.{Reading}
use Rattle.text.proofs.decimal.number_from.Given as goal

abbrev pub invariant-loop-c : goal.invariant-loop-c
invariant-loop-c l = Reading l.w l.value l.c-index
