-- From the values of the answer follows whether the replay agreed.
use Rattle.client.proofs.Agreed.{replay_told}
use Rattle.client.specs.Replay.{Told}
use Rattle.client.proofs.replay_records.Goals as goal

pub returns-clause-agreed : goal.returns-clause-agreed
returns-clause-agreed c =
    let replayed = c.replay.ensures in
    let told : Told c.replay.result.outcome = rw replayed.value (replay_told _ _ _) in
    rw c.answered.ensures (λ z e. replayed.agrees (told z e))
