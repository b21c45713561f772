-- Each part is that of the definition.
use Rattle.numbers.specs.Numbers.{state_of}
use Rattle.numbers.proofs.state_of.Goals as goal

pub returns : goal.returns
unfolding state_of
returns c =
    rw (c.kept_of.ensures, c.latches_of.ensures, c.receiver_of.ensures, c.receive_of.ensures, c.frame_of.ensures, c.transmit_of.ensures, c.registers_of.ensures, c.low.ensures, c.low-2.ensures, c.low-3.ensures, c.low-4.ensures, c.low-5.ensures, c.low-6.ensures)
