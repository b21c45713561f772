-- Replay of a whole file, from the fresh state (document 02 a), and of a file that comes in parts.
use Rattle.std.specs.Prelude.{ℕ, ◌+◌, ◌/◌, ◌%◌, ◌≡◌, true, cond, not, ◌&&◌, List, eqb, length, drop, Result, Ok, Err}
use Rattle.recorder.specs.declared.file.HeaderError.{HeaderError}
use Rattle.recorder.specs.File.{words_of, known, bad_header, header_of}
use Rattle.device.specs.declared.State.{State}
use Rattle.device.specs.State.{fresh_of}
use Rattle.device.specs.Ranges.{well_formed}
use Rattle.capture.specs.declared.Outcome.{Outcome}
use Rattle.capture.specs.declared.Replayed.{Replayed}
use Rattle.capture_file.specs.declared.Progress.{Progress}
use Rattle.capture.specs.Replay.{refused, agreeing, replay_of}

-- one to three bytes left at the end of the records' bytes: 8 at their place, where every record before agrees
unfoldable pub ended : List ℕ → Replayed → Replayed
ended bytes r =
    cond (agreeing r.outcome && not (eqb (length bytes % 4) 0)) (refused 8 r.state (length bytes / 4)) r

-- the records that these bytes hold, to the end of the file
unfoldable pub records_of : ℕ → State → List ℕ → Replayed
records_of version s bytes = ended bytes (replay_of version s (words_of bytes))

-- a file by its header: the records behind a good one, or its refusal
abbrev pub headed : Result ℕ HeaderError → List ℕ → Replayed
headed (Ok version) bytes = records_of version fresh_of bytes
headed (Err error) bytes = refused (bad_header error) fresh_of 0

-- a file of these bytes: its header, and the records behind it
unfoldable pub capture_of : List ℕ → Replayed
capture_of bytes = headed (header_of bytes) (drop 8 bytes)

-- A file that comes in parts.

-- the place of an outcome, counted from n records earlier
abbrev pub later : ℕ → Outcome → Outcome
later n Outcome.Agreed = Outcome.Agreed
later n (Outcome.Differs place seen model) = Outcome.Differs (n + place) seen model
later n (Outcome.Refused number part place) = Outcome.Refused number part (n + place)

abbrev pub onward : ℕ → Replayed → Replayed
onward n r = record { state = r.state; outcome = later n r.outcome }

-- the answer for the file, where these bytes are still to come
unfoldable pub rest_of : Progress → List ℕ → Replayed
rest_of p bytes =
    cond (agreeing p.replayed.outcome)
    (onward p.place (records_of p.version p.replayed.state bytes))
    p.replayed

-- what the records still to come need: a well-formed state, and a known version
pub record Ready (p : Progress) : Type 0 where
  pub well : well_formed p.replayed.state ≡ true
  pub known-version : known p.version ≡ true
