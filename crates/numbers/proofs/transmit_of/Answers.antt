-- The queue of its places.
use Rattle.numbers.specs.Numbers.{transmit_of}
use Rattle.numbers.proofs.transmit_of.Goals as goal

pub returns : goal.returns
unfolding transmit_of
returns c = cc
