-- Each part is the definition's.
use Rattle.export.proofs.layout.uart_specimen_jump_ran.Goals as goal

pub returns : goal.returns
returns c = rw c.uart_specimen_ran-r.ensures
