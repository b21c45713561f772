-- The level at the place that the formula gives, which is that after the ticks.
use Rattle.device.specs.Forecast.{level_to_come}
use Rattle.forecast.proofs.Asked.{forecast_well, forecast_ranged, forecast_clocked}
use Rattle.forecast.proofs.Foretold.{foretold}
use Rattle.invariant.proofs.Settled.{Kept}
use mathlib.Core.Path.{◌≡◌, sym, ◌∙◌}
use borrow.Author.Rules.{rules}
use Rattle.forecast.proofs.level_after.Goals as goal

pub place_after-q-requires : goal.place_after-q-requires
place_after-q-requires c =
    let clock = forecast_clocked c.args.s c.requires in
    let same = c.pulses_to_come-p.ensures in
    (λ n. (clock (λ e. n (same ∙ e))).0, λ n. (clock (λ e. n (same ∙ e))).1)

pub level_at-requires : goal.level_at-requires
level_at-requires c =
    let r = forecast_ranged c.args.s c.requires in
    (r.sent, r.count, c.pulses_to_come-p.ensures)

pub returns : goal.returns
returns c =
    let a = c.args in
    let kept : Kept a.s = record { well = forecast_well a.s c.requires; places = record { bytes_long = search rules; entries_long = search rules } } in
    let same : c.level_at.result ≡ level_to_come a.s a.t = rw (c.level_at.ensures, c.place_after-q.ensures, c.pulses_to_come-p.ensures) in
    record { foretold = same; ticked = same ∙ sym (foretold a.s kept c.requires a.t).level }
