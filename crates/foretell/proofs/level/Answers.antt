-- The level at the place that the formula gives, which is that after the ticks.
use Rattle.device.specs.Forecast.{level_of}
use mathlib.Core.Path.{sym, ◌∙◌}
use borrow.Author.Tests.{eq-eqb, ne_eqb}
use Rattle.foretell.proofs.level.Goals as goal

pub returns-in-Some : goal.returns-in-Some
unfolding level_of
returns-in-Some c =
    let (some, number, part) = c.in-Some.ensures.refused in
    record { outcome = rw (number, part) (simp (ne_eqb _ _ some)); ticked = λ e. absurd (some (sym number ∙ e)) }

pub level_after-requires : goal.level_after-requires
level_after-requires c = c.in-None.ensures.asked

pub returns-in-None : goal.returns-in-None
unfolding level_of
returns-in-None c =
    let after = c.level_after.ensures in
    record { outcome = rw after.foretold (simp (eq-eqb _ _ c.in-None.ensures.asked)); ticked = λ _. after.ticked }
