-- A write to THR, which the rules that end a step leave as it is.
use Rattle.recorded.proofs.Laws.{thr_step}
use Rattle.step.proofs.Laws.{settled_thr}
use Rattle.recorded.proofs.transmit.Goals as goal

pub returns : goal.returns
returns c = rw (c.put.ensures, c.byte.ensures, settled_thr _ _ c.requires.s_value, thr_step _ _ c.requires.s_value c.requires.w_value)
