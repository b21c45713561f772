-- The capture that is expected of an undisturbed chip (document 02 f): each record as it stands, but a read with the
-- model's byte in it, written into a second run of words.
use Rattle.std.specs.Prelude.{ℕ, suc, cond, List, [], ◌∷◌}
use Rattle.recorder.specs.Record.{good}
use Rattle.recorder.specs.File.{known}
use Rattle.device.specs.declared.State.{State}
use Rattle.device.specs.Ranges.{well_formed, part_of}
use Rattle.recorded.specs.Record.{step_of, expected}
use Rattle.expected.specs.declared.Expected.{Expected}

-- the answer, and the second run as it is afterwards
pub record Written : Type 0 where
  pub answer : Expected
  pub words : List ℕ

-- nothing more is written: with a number, the part of the state that is bad (document 02 b) and the state
abbrev pub stopping : ℕ → ℕ → State → List ℕ → Written
stopping number part s words =
    record { answer = record { number = number; part = part; count = 0; state = s }; words = words }

-- a word written before them
abbrev pub writing : ℕ → Written → Written
writing v r =
    record {
      answer =
          record {
            number = r.answer.number;
            part = r.answer.part;
            count = suc r.answer.count;
            state = r.answer.state;
          };
      words = v ∷ r.words;
    }

-- the records one by one: 8 for a bad one, then 16 where no word is left for it, with the state before it
unfoldable pub expect_from : State → List ℕ → List ℕ → Written
expect_from s [] words = stopping 0 0 s words
expect_from s (w ∷ ws) [] = stopping (cond (good w) 16 8) 0 s []
expect_from s (w ∷ ws) (x ∷ words) =
    cond (good w) (writing (expected s w) (expect_from (step_of s w).state ws words)) (stopping 8 0 s (x ∷ words))

-- the capture expected for records of a version: 1 for a state that is not well formed, then 7 for an unknown version
unfoldable pub expect_of : ℕ → State → List ℕ → List ℕ → Written
expect_of version s ws words =
    cond (well_formed s)
    (cond (known version) (expect_from s ws words) (stopping 7 0 s words))
    (stopping 1 (part_of s) s words)

-- Where the writing stops.

-- the number by the records that are not written: 0 where none is left, 8 for a bad one, 16 for a good one, which then
-- has no word
abbrev pub left_number : List ℕ → ℕ
left_number [] = 0
left_number (w ∷ ws) = cond (good w) 16 8
