-- The line that says how a replay ended (document 02 a): agreed, or differs with place, byte seen and model's byte, or
-- refused with number and place, in decimal, one space between.
use Rattle.std.specs.Prelude.{ℕ, List, ◌++◌}
use Rattle.capture.specs.declared.Outcome.{Outcome}
use Rattle.text.specs.Text.{text}
use Rattle.text.specs.Decimal.{word_of}

-- the place of the record, the byte seen and the model's byte
abbrev pub differs_line : ℕ → ℕ → ℕ → List ℕ
differs_line place seen model = text "differs " ++ (word_of place 32 ++ (word_of seen 32 ++ word_of model 10))

-- the number of the refusal and its place
abbrev pub refused_line : ℕ → ℕ → List ℕ
refused_line number place = text "refused " ++ (word_of number 32 ++ word_of place 10)

unfoldable pub outcome_line : Outcome → List ℕ
outcome_line Outcome.Agreed = text "agreed\n"
outcome_line (Outcome.Differs place seen model) = differs_line place seen model
outcome_line (Outcome.Refused number part place) = refused_line number place
