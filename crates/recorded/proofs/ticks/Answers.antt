-- The ticks on a well-formed state.
use Rattle.recorded.proofs.Laws.{ticks_step}
use mathlib.Core.Path.{sym}
use Rattle.recorded.proofs.ticks.Goals as goal

pub returns : goal.returns
returns c = rw (c.ticks.ensures, c.count.ensures) (sym (ticks_step _ _ c.requires.s_value c.requires.w_value))
