-- One field for each part.
use Rattle.current.specs.Current.{broken}
use Rattle.std.proofs.Common.{arith}
use Rattle.std.proofs.lemmas.Grind.{common_steps}
use Rattle.current.proofs.broken.Goals as goal

pub returns-in-1 : goal.returns-in-1
unfolding broken
returns-in-1 c = simp c.in-1.is

pub returns-in-2 : goal.returns-in-2
unfolding broken
returns-in-2 c = simp c.in-2.is

pub returns-in-3 : goal.returns-in-3
unfolding broken
returns-in-3 c = simp c.in-3.is

pub returns-in-4 : goal.returns-in-4
unfolding broken
returns-in-4 c = simp c.in-4.is

pub returns-in_default : goal.returns-in_default
unfolding broken
returns-in_default c = grind (arith, common_steps)
