-- The formula, with the pulses to come.
use Rattle.forecast.proofs.Asked.{forecast_ranged}
use Rattle.forecast.proofs.ticks_to_come.Goals as goal

pub ticks_left-requires : goal.ticks_left-requires
ticks_left-requires c =
    let r = forecast_ranged c.args.s c.requires in
    (r.k, r.divisor, rw c.pulses_to_come.ensures r.pulses)

pub returns : goal.returns
returns c = rw (c.ticks_left.ensures, c.pulses_to_come.ensures)
