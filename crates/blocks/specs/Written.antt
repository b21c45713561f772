-- What is handed to a write, where the lines found some numbers loaded before them.
use Rattle.std.specs.Prelude.{ℕ, ◌≡◌, List, [], ◌++◌, drop}
use Rattle.current.specs.declared.Session.{Session}
use Rattle.session.specs.Session.{Standing, standing}
use Rattle.lines.specs.Lines.{written_after, last_said}

-- the answers to the lines of a block from `from` on, as far as `next`
pub record AnswersOf (s : Session) (block : List ℕ) (from : ℕ) (w : Standing) (next : ℕ) (said : List ℕ) : Type 0 where
  pub kept : List ℕ
  pub written : written_after (standing s kept) [] (drop from block) ≡ said ++ written_after w [] (drop next block)

-- the answer to the last line
pub record LastOf (s : Session) (line said : List ℕ) : Type 0 where
  pub kept : List ℕ
  pub written : said ≡ last_said (standing s kept) line
