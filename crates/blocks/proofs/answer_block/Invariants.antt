use Rattle.session.specs.Session.{standing}
use Rattle.blocks.proofs.Parts.{Going}
use Rattle.blocks.proofs.answer_block.Given as goal

abbrev pub invariant-loop : goal.invariant-loop
invariant-loop g l = Going (standing l.fn.s l.fn.kept) l.block (standing l.p.session l.kept) l.p.next l.counter
