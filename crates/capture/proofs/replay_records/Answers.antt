-- The records are followed with nothing to write, and the answer is that of the place where they stop.
use Rattle.capture.proofs.Laws.{replay_stops}
use mathlib.Core.Path.{◌∙◌}
use Rattle.capture.proofs.replay_records.Goals as goal

pub returns : goal.returns
returns c =
    let follow = c.follow-stop in
    c.stopped.ensures ∙ replay_stops _ _ _ _ follow.ensures.words_after c.byte.result (λ g. c.byte.ensures ∙ follow.ensures.expected_value g)
