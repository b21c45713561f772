-- Replay of a run of records from a state (document 02 a).
use Rattle.std.specs.Prelude.{ℕ, suc, ◌≡◌, Bool, true, false, cond, List, [], ◌∷◌, ◌++◌, ltb, length, get_or}
use Rattle.recorder.specs.Record.{byte, good, is_read}
use Rattle.recorder.specs.File.{known}
use Rattle.device.specs.declared.State.{State}
use Rattle.device.specs.Ranges.{well_formed, part_of}
use Rattle.recorded.specs.Record.{step_of, model_byte, differing}
use Rattle.capture.specs.declared.Outcome.{Outcome}
use Rattle.capture.specs.declared.Replayed.{Replayed}
use Rattle.capture.specs.declared.Values.{Values}

-- The answers: the state with "agreed", with the place, the byte seen and the model's byte, or with the number of a
-- refusal, the part of the state that is bad (document 02 b) and the place.

abbrev pub agreed : State → Replayed
agreed s = record { state = s; outcome = Outcome.Agreed }

abbrev pub differs : State → ℕ → ℕ → ℕ → Replayed
differs s place seen model = record { state = s; outcome = Outcome.Differs place seen model }

abbrev pub refused : ℕ → State → ℕ → Replayed
refused number s place = record { state = s; outcome = Outcome.Refused number 0 place }

-- a state that is not well formed
abbrev pub malformed : State → Replayed
malformed s = record { state = s; outcome = Outcome.Refused 1 (part_of s) 0 }

-- nothing has differed or been refused
abbrev pub agreeing : Outcome → Bool
agreeing Outcome.Agreed = true
agreeing (Outcome.Differs place seen model) = false
agreeing (Outcome.Refused number part place) = false

-- document 01's number and values for each outcome: 0 where nothing is refused, and 0 for what is not named
abbrev pub values_of : Outcome → Values
values_of Outcome.Agreed = record { number = 0; part = 0; place = 0; seen = 0; model = 0 }
values_of (Outcome.Differs place seen model) = record { number = 0; part = 0; place = place; seen = seen; model = model }
values_of (Outcome.Refused number part place) =
    record { number = number; part = part; place = place; seen = 0; model = 0 }

-- the records from a place on, which counts from 0 at the first: each is judged when it is reached, and the first that
-- is bad, or a read that differs, ends the replay with the state before it
unfoldable pub replay_from : ℕ → State → List ℕ → Replayed
replay_from place s [] = agreed s
replay_from place s (w ∷ ws) =
    cond (good w)
    (cond (differing s w) (differs s place (byte w) (model_byte s w)) (replay_from (suc place) (step_of s w).state ws))
    (refused 8 s place)

-- replay of records of a version: 1 for a state that is not well formed, then 7 for an unknown version
unfoldable pub replay_of : ℕ → State → List ℕ → Replayed
replay_of version s ws =
    cond (well_formed s) (cond (known version) (replay_from 0 s ws) (refused 7 s 0)) (malformed s)

-- Where a replay stops.

-- the answer at the place where it stops: behind the last record, at a bad one, or at a read that the model answers
-- otherwise
unfoldable pub stopped_at : State → List ℕ → ℕ → ℕ → Replayed
stopped_at s ws place model =
    cond (ltb place (length ws))
    (cond (good (get_or ws place 0)) (differs s place (byte (get_or ws place 0)) model) (refused 8 s place))
    (agreed s)

-- the records' steps one by one
abbrev pub steps_of : List ℕ → State → State
steps_of [] s = s
steps_of (w ∷ ws) s = steps_of ws (step_of s w).state

-- what a replay that agrees says: every read saw what the model answers there, and the end state is that of the steps,
-- and well formed
pub record Agrees (s : State) (words : List ℕ) (end : State) : Type 0 where
  pub reads : (before : List ℕ) (w : ℕ) (after : List ℕ) → words ≡ before ++ (w ∷ after) → is_read w ≡ true →
      byte w ≡ model_byte (steps_of before s) w
  pub steps : end ≡ steps_of words s
  pub well : well_formed end ≡ true
