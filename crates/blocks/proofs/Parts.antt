-- A block answered part by part: each part makes a line at least, until none is left.
use Prim.Native.Nat.{ℕ, ◌≤◌}
use mathlib.Core.Path.{◌≡◌, ◌∙◌}
use mathlib.Core.Bool.{Bool, false}
use mathlib.Core.List.{List, []}
use lib.ListN.{length, drop, drop_of_length-le}
use native.Mathlib.Omega.{arith}
use Rattle.text.specs.Text.{before}
use Rattle.session.specs.Session.{Standing}
use Rattle.lines.specs.Lines.{reading, read_after, Answered}
use Rattle.lines.proofs.Blocks.{read_no_line}

-- Going on: the lines before `next` are made, one at least in each turn.
pub record Going (w₀ : Standing) (block : List ℕ) (w : Standing) (next turns : ℕ) : Type 0 where
  pub inside : next ≤ length block
  pub leads : read_after w₀ [] block ≡ read_after w [] (drop next block)
  pub enough : turns ≤ next

module _ {w₀ : Standing} {block : List ℕ} {w : Standing} {next turns : ℕ} (g : Going w₀ block w next turns) where
  -- no line is left
  pub going_stops : {w' : Standing} {next' : ℕ} {more : Bool} {room : ℕ} → more ≡ false → Answered w block next w' next' more room → read_after w₀ [] block ≡ reading w' (drop next' block)
  going_stops {w'} {next'} f a = g.leads ∙ a.leads ∙ read_no_line w' (drop next' block) (a.all f)

  -- no turn is left
  pub going_ends : length block ≤ turns → read_after w₀ [] block ≡ reading w (drop next block)
  unfolding before
  going_ends h = g.leads ∙ read_no_line w (drop next block) (rw (drop_of_length-le block {i = next} (omega (arith, g.enough))))
