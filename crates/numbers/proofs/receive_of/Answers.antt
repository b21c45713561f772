-- The queue of its places.
use Rattle.numbers.specs.Numbers.{receive_of}
use Rattle.numbers.proofs.receive_of.Goals as goal

pub returns : goal.returns
unfolding receive_of
returns c = cc
