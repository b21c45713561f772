use Rattle.clock.proofs.Going.{Going}
use Rattle.clock.proofs.pulse.pulses.Given as goal

abbrev pub invariant-loop-left : goal.invariant-loop-left
invariant-loop-left l = Going l.n l.initial.t l.t l.left

abbrev pub decreases-loop-left : goal.decreases-loop-left
decreases-loop-left l = l.left
