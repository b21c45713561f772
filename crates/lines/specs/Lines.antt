-- A run of lines: what it leads to, and what is written for it.
use Rattle.std.specs.Prelude.{ℕ, suc, ◌≤◌, ◌<◌, ◌≡◌, Bool, true, false, cond, List, [], ◌∷◌, ◌++◌, length, take, drop, eqb}
use Rattle.text.specs.Text.{before}
use Rattle.command.specs.Command.{longest_line}
use Rattle.current.specs.Current.{longest_answer}
use Rattle.session.specs.Session.{Standing, line_said, line_next}

-- within a run of lines: where the lines so far leave it, and what is read of a line that has not ended
pub record Reading : Type 0 where
  pub stands : Standing
  pub line : List ℕ

abbrev pub reading : Standing → List ℕ → Reading
reading w line = record { stands = w; line = line }

-- where bytes lead, where `line` is read of a line: each line is made at its newline
unfoldable pub read_after : Standing → List ℕ → List ℕ → Reading
read_after w line [] = reading w line
read_after w line (c ∷ cs) =
    cond (eqb c 10) (read_after (line_next w line) [] cs) (read_after w (line ++ (c ∷ [])) cs)

-- what is written for them
unfoldable pub written_after : Standing → List ℕ → List ℕ → List ℕ
written_after w line [] = []
written_after w line (c ∷ cs) =
    cond (eqb c 10) (line_said w line ++ written_after (line_next w line) [] cs) (written_after w (line ++ (c ∷ [])) cs)

-- what is written at the end of the input: nothing, but that a last line may lack its newline
abbrev pub last_said : Standing → List ℕ → List ℕ
last_said w [] = []
last_said w (c ∷ cs) = line_said w (c ∷ cs)

-- The lines of a block from `from` on are made as far as `next`: the rest leads on from there; unless room was wanting
-- no line is left; and with room for the longest answer, one at least is made.
pub record Answered (w : Standing) (block : List ℕ) (from : ℕ) (w' : Standing) (next : ℕ) (full : Bool) (room : ℕ)
    : Type 0 where
  pub inside : next ≤ length block
  pub leads : read_after w [] (drop from block) ≡ read_after w' [] (drop next block)
  pub all : full ≡ false → before 10 (drop next block) ≡ length (drop next block)
  pub progress : full ≡ true → longest_answer ≤ room → from < next

-- Their answers: `out` holds them, and what is written for the rest comes after them.
abbrev pub Answers : Standing → List ℕ → ℕ → Standing → ℕ → List ℕ → Type 0
Answers w block from w' next out =
    written_after w [] (drop from block) ≡ out ++ written_after w' [] (drop next block)

-- Between two reads.

-- what is held of a line that has not ended: no more than shows that it is no command
abbrev pub held_of : List ℕ → List ℕ
held_of line = take (suc longest_line) line

abbrev pub held : Reading → Reading
held r = reading r.stands (held_of r.line)

-- an input leads from w₀ to w, where so much is held
abbrev pub Led : Standing → List ℕ → Standing → List ℕ → Type 0
Led w₀ input w line = held (read_after w₀ [] input) ≡ reading w line

-- an input and what came after it
pub record LedOn (w₀ : Standing) (input : List ℕ) (w : Standing) (line : List ℕ) : Type 0 where
  pub came : List ℕ
  pub leads : Led w₀ (input ++ came) w line
