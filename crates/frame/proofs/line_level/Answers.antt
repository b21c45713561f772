-- While a frame is sent, its first level of the last L is the one at the place that L leaves.
use Rattle.frame.specs.Frame.{line_level, frame_levels}
use Rattle.frame.proofs.Frames.{line-place}
use Prim.Native.Nat.{ℕ, ◌-◌}
use mathlib.Core.Path.{sym, ap, ◌∙◌}
use lib.ListN.{get_or}
use native.Mathlib.Omega.{arith}
use borrow.Author.Tests.{eq-eqb}
use Rattle.frame.proofs.line_level.Goals as goal

pub returns-then-left-eq0 : goal.returns-then-left-eq0
unfolding line_level
returns-then-left-eq0 c = (simp (eq-eqb _ _ c.if-left-eq0.true), omega arith)

pub returns : goal.returns
returns c =
    let a = c.args in
    let levels : ℕ → ℕ = λ n. get_or (frame_levels a.byte a.format) n 1 in
    let place = c.saturating_sub.ensures ∙ ap (λ (n : ℕ). n - a.left) c.frame_length.ensures.value in
    (c.frame_level.ensures.0 ∙ ap levels place ∙ sym (line-place a.left a.byte a.format c.if-left-eq0.false), c.frame_level.ensures.1)
