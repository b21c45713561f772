-- Records followed one after the other from a state, which serves replay (document 02 a) and the writer of captures
-- (document 02 f).
use Rattle.std.specs.Prelude.{ℕ, suc, Bool, cond, not, ◌&&◌, List, [], ◌∷◌, ltb, length, get_or}
use Rattle.recorder.specs.Record.{good}
use Rattle.device.specs.declared.State.{State}
use Rattle.recorded.specs.Record.{step_of, differing, expected}

-- how many records were followed, the state that they lead to, and a run of words with the records that the model
-- expects in its first places
pub record Followed : Type 0 where
  pub count : ℕ
  pub state : State
  pub words : List ℕ

-- no record is followed
abbrev pub staying : State → List ℕ → Followed
staying s words = record { count = 0; state = s; words = words }

-- one record more before them, without a word and with one
abbrev pub onward : Followed → Followed
onward f = record { count = suc f.count; state = f.state; words = f.words }

abbrev pub writing : ℕ → Followed → Followed
writing v f = record { count = suc f.count; state = f.state; words = v ∷ f.words }

-- a record is followed where it is good and, if the bytes seen are compared, no read that differs
unfoldable pub follows : Bool → State → ℕ → Bool
follows compare s w = good w && not (compare && differing s w)

-- records followed up to the first that is not, each written as long as a word is left
unfoldable pub follow_of : Bool → State → List ℕ → List ℕ → Followed
follow_of compare s [] words = staying s words
follow_of compare s (w ∷ ws) [] =
    cond (follows compare s w) (onward (follow_of compare (step_of s w).state ws [])) (staying s [])
follow_of compare s (w ∷ ws) (x ∷ words) =
    cond (follows compare s w)
    (writing (expected s w) (follow_of compare (step_of s w).state ws words))
    (staying s (x ∷ words))

-- a good record stands at a place
unfoldable pub good_at : List ℕ → ℕ → Bool
good_at ws place = ltb place (length ws) && good (get_or ws place 0)
