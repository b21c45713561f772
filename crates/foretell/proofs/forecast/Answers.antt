-- Number 0 gives the formula's value, of which demand 3 is proved.
use Rattle.device.specs.Forecast.{forecast_of}
use Rattle.forecast.proofs.Asked.{forecast_well, forecast_most}
use Rattle.forecast.proofs.Foretold.{foretold}
use Rattle.invariant.proofs.Settled.{Kept}
use Rattle.queue.proofs.Laws.{length_mapped}
use mathlib.Core.Path.{sym, ◌∙◌}
use borrow.Author.Tests.{eq-eqb, ne_eqb}
use borrow.Author.Rules.{rules}
use native.Mathlib.Omega.{arith}
use Rattle.foretell.proofs.forecast.Goals as goal

pub returns-in-Some : goal.returns-in-Some
unfolding forecast_of
returns-in-Some c =
    let (some, number, part) = c.in-Some.ensures.refused in
    record { outcome = rw (number, part) (simp (ne_eqb _ _ some)); every_tick = (λ e. absurd (some (sym number ∙ e))); at_most = omega arith }

pub ticks_to_come-requires : goal.ticks_to_come-requires
ticks_to_come-requires c = c.in-None.ensures.asked

pub returns-in-None : goal.returns-in-None
unfolding forecast_of
returns-in-None c =
    let none = c.in-None.ensures.asked in
    let ticks = c.ticks_to_come.ensures in
    let kept : Kept c.args.s =
    record { well = forecast_well c.args.s none; places = record { bytes_long = search rules; entries_long = search (length_mapped, c.well_formed, rules) } } in
    record { outcome = rw ticks (simp (eq-eqb _ _ none)); every_tick = (λ _ t. rw ticks (foretold _ kept none t)); at_most = rw ticks (forecast_most c.args.s none) }
