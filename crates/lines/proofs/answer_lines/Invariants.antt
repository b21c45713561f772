use Rattle.session.specs.Session.{standing}
use Rattle.lines.proofs.Blocks.{Answering}
use Prim.Native.Nat.{◌-◌}
use lib.ListN.{length}
use Rattle.lines.proofs.answer_lines.Given as goal

abbrev pub invariant-loop-stop : goal.invariant-loop-stop
invariant-loop-stop g l = Answering (standing l.initial.t l.initial.kept) l.block l.from (standing l.t l.kept) l.next l.out.items

abbrev pub decreases-loop-stop : goal.decreases-loop-stop
decreases-loop-stop g l = length l.block - l.next
