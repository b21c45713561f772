use Rattle.std.proofs.Common.{ap, sym, ◌∙◌, rules}
use Rattle.recorder.proofs.Laws.{room_in, good-known}
use Rattle.recorder.proofs.record.good.Goals as goal

pub returns-in-Some : goal.returns-in-Some
returns-in-Some c = rw (c.room.ensures) (sym (good-known _ ∙ rw (ap room_in (sym c.of.ensures ∙ c.in-Some.is))))

pub returns-in-None : goal.returns-in-None
returns-in-None c = sym (good-known _ ∙ rw (ap room_in (sym c.of.ensures ∙ c.in-None.is)) (search rules))
