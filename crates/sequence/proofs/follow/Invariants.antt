use Rattle.sequence.proofs.Laws.{Following}
use Prim.Native.Nat.{◌-◌}
use lib.ListN.{length}
use Rattle.sequence.proofs.follow.Given as goal

abbrev pub invariant-loop-expected : goal.invariant-loop-expected
invariant-loop-expected l = Following l.compare l.initial.t l.records l.initial.words l.t l.words l.i

abbrev pub decreases-loop-expected : goal.decreases-loop-expected
decreases-loop-expected l = length l.records - l.i
