-- The write's numbers on a well-formed state.
use Rattle.recorded.proofs.Laws.{write_step}
use Rattle.recorded.proofs.numbers.Goals as goal

pub returns : goal.returns
returns c = rw (c.numbers.ensures, c.byte.ensures, c.address.ensures, write_step _ _ c.requires.s_value c.requires.w_value.0)
