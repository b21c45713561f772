-- The read's state on a well-formed state.
use Rattle.recorded.proofs.Laws.{read_step}
use mathlib.Core.Path.{sym}
use borrow.Author.Tests.{eqb-true}
use Rattle.recorded.proofs.after_read.Goals as goal

pub returns : goal.returns
returns c = rw (c.after_read.ensures, c.address.ensures) (sym (read_step _ _ c.requires.s_value (eqb-true _ _ c.requires.w_value)))
