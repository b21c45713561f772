-- Each turn makes a line at least, so the turns do for all of them.
use Rattle.blocks.proofs.Parts.{going_stops, going_ends}
use borrow.Author.Tests.{not-true}
use Rattle.blocks.proofs.answer_block.Goals as goal

pub returns-then-not-said-clause-block_value : goal.returns-then-not-said-clause-block_value
returns-then-not-said-clause-block_value g c = going_stops c.loop.invariant (not-true _ c.if-not-said.true) c.answer_lines-said.ensures.answered

pub returns-clause-block_value : goal.returns-clause-block_value
returns-clause-block_value g c = going_ends c.loop.invariant c.loop-test.false
