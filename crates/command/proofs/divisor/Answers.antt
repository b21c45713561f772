-- The row of `divisor`, where the line has its two numbers.
use Rattle.command.specs.declared.Command.{Command}
use Rattle.command.specs.Command.{paired}
use Rattle.command.proofs.Pairs.{divisor-row}
use mathlib.Core.Path.{refl, sym, ap, ◌∙◌}
use Rattle.command.proofs.divisor.Goals as goal

pub returns-in-Some : goal.returns-in-Some
returns-in-Some c = record { value = ap (paired Command.Divisor) (sym c.in-Some.is) ∙ c.two_numbers.ensures.by_index Command.Divisor ∙ divisor-row _; result_value = refl }

pub returns-in-None : goal.returns-in-None
returns-in-None c = record { value = ap (paired Command.Divisor) (sym c.in-None.is) ∙ c.two_numbers.ensures.by_index Command.Divisor ∙ divisor-row _; result_value = refl }
