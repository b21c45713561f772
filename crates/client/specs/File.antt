-- A capture's file that comes in parts, as a client carries it.
use Rattle.std.specs.Prelude.{ℕ, cond, List, eqb}
use Rattle.capture.specs.declared.Outcome.{Outcome}
use Rattle.capture.specs.declared.Values.{Values}
use Rattle.capture_file.specs.declared.Progress as parts
use Rattle.capture.specs.Replay.{refused, values_of}
use Rattle.capture_file.specs.File.{rest_of}
use Rattle.client.specs.declared.Replay.{Replay}
use Rattle.client.specs.declared.file.Progress.{Progress}
use Rattle.client.specs.Replay.{replay_answer, Told}

-- what stopped a replay: 0 nothing so far, 1 a read that differs, 2 a refusal
abbrev pub stopped_by : Outcome → ℕ
stopped_by Outcome.Agreed = 0
stopped_by (Outcome.Differs place seen model) = 1
stopped_by (Outcome.Refused number part place) = 2

-- the outcome of such a number and the values with it
abbrev pub outcome_of : ℕ → Values → Outcome
outcome_of stopped v =
    cond (eqb stopped 0) Outcome.Agreed
    (cond (eqb stopped 1)
    (Outcome.Differs v.place v.seen v.model)
    (Outcome.Refused v.number v.part v.place))

-- a client's progress as `capture_file` has it, and back

abbrev pub carried_of : Progress → parts.Progress
carried_of p =
    record {
      version = p.version;
      place = p.done;
      replayed = record { state = p.state; outcome = outcome_of p.stopped p.values };
    }

abbrev pub handed_of : parts.Progress → Progress
handed_of p =
    record {
      version = p.version;
      stopped = stopped_by p.replayed.outcome;
      done = p.place;
      values = values_of p.replayed.outcome;
      state = p.replayed.state;
    }

-- what a client has of the outcome so far tells it
abbrev pub ToldSoFar : Progress → Type 0
ToldSoFar p = Told (carried_of p).replayed.outcome

-- a file of more records than 2^62: refused with 1 at place 0, the state as it was, of which no part is bad
abbrev pub beyond_of : Progress → Progress
beyond_of p = handed_of (record { version = p.version; place = p.done; replayed = refused 1 p.state 0 })

-- the answer for the file, where these bytes are still to come
abbrev pub rest_answer : Progress → List ℕ → Replay
rest_answer p bytes = replay_answer (rest_of (carried_of p) bytes)
