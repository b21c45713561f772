-- What a replay (document 02 a) answers to a client.
use Rattle.std.specs.Prelude.{◌≡◌}
use Rattle.capture.specs.declared.Outcome.{Outcome}
use Rattle.capture.specs.declared.Replayed.{Replayed}
use Rattle.capture.specs.Replay.{values_of}
use Rattle.client.specs.declared.Replay.{Replay}

-- the outcome as document 01's number and values, and the state
abbrev pub replay_answer : Replayed → Replay
replay_answer r = record { values = values_of r.outcome; state = r.state }

-- the values tell an outcome: number 0 and the same byte twice only where it agreed
abbrev pub Told : Outcome → Type 0
Told o = (values_of o).number ≡ 0 → (values_of o).seen ≡ (values_of o).model → o ≡ Outcome.Agreed
