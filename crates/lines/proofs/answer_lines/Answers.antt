-- The lines before `next` are made, and `out` holds their answers.
use Rattle.lines.proofs.Blocks.{answer_turns}
use native.Mathlib.Omega.{arith}
use Rattle.lines.proofs.answer_lines.Goals as goal

pub loop-stop-preserved : goal.loop-stop-preserved
loop-stop-preserved g c =
    let a = c.answer_line-t in
    answer_turns _ _ _ c.loop-stop.invariant c.find-stop.ensures.value (omega (arith, c.find-stop.ensures.upper_bound, c.if-stop-block.false)) a.ensures.kept_after a.ensures.appended
