-- The line that the program writes for a capture.
use Rattle.std.specs.Prelude.{ℕ, Bool, cond, List, [], ◌++◌}
use Rattle.text.specs.Text.{text}
use Rattle.capture.specs.declared.Outcome.{Outcome}
use Rattle.outcome.specs.Outcome.{outcome_line}

-- the line of an answer: its outcome, after the name of the capture where there are several
abbrev pub answer_line : Bool → List ℕ → Outcome → List ℕ
answer_line several name o = cond several (name ++ text ": ") [] ++ outcome_line o
