-- Each part is the definition's.
use Rattle.export.proofs.layout.uart_specimen_progress.Goals as goal

pub returns : goal.returns
returns c = rw (c.uart_specimen_state.ensures, c.specimen_values.ensures)
