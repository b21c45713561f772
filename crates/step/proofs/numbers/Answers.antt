-- What the rules that end a step look at beside the numbers stays.
use Rattle.step.proofs.Laws.{numbers-set}
use Rattle.step.proofs.numbers.Goals as goal

pub returns : goal.returns
returns c = rw (c.settle_latches.ensures, c.write_numbers-n.ensures) (numbers-set _ _ _ c.requires)
