use Rattle.capture_file.proofs.unread.Goals as goal

pub returns : goal.returns
returns c = rw (c.refused.ensures, c.fresh.ensures)
