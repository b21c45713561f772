-- The row of `write`, where the line has its two numbers.
use Rattle.command.specs.declared.Call.{Call}
use Rattle.command.specs.declared.Command.{Command}
use Rattle.command.specs.Command.{paired}
use Rattle.command.proofs.Pairs.{small_numbers, write_row}
use mathlib.Core.Path.{refl, sym, ap, ◌∙◌}
use native.Mathlib.Omega.{arith}
use Rattle.command.proofs.write.Goals as goal

pub overflow_cast-result : goal.overflow_cast-result
overflow_cast-result c = omega (arith, (small_numbers c.in-Some.is c.two_numbers.ensures.result_value).0)

pub overflow_cast-result-in-Some : goal.overflow_cast-result-in-Some
overflow_cast-result-in-Some c = omega (arith, (small_numbers c.in-Some.is c.two_numbers.ensures.result_value).1)

pub returns-in-Some : goal.returns-in-Some
returns-in-Some c = record { value = ap (paired (λ a b. Command.Step (Call.Write a b))) (sym c.in-Some.is) ∙ c.two_numbers.ensures.by_index (λ a b. Command.Step (Call.Write a b)) ∙ write_row _; result_value = refl }

pub returns-in-None : goal.returns-in-None
returns-in-None c = record { value = ap (paired (λ a b. Command.Step (Call.Write a b))) (sym c.in-None.is) ∙ c.two_numbers.ensures.by_index (λ a b. Command.Step (Call.Write a b)) ∙ write_row _; result_value = refl }
