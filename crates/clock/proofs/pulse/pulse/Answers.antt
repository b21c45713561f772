-- The parts of a pulse, in the definition's order.
use Rattle.device.specs.declared.State.{State}
use Rattle.device.specs.Tick.{pulsed}
use Rattle.device.specs.Receiver.{received, enters}
use Rattle.clock.proofs.Needed.{transmitted_hearing, transmitted_idle, received_idle}
use mathlib.Core.Path.{◌≡◌, ap, ◌∙◌}
use Rattle.clock.proofs.pulse.pulse.Goals as goal

pub hear-r-requires : goal.hear-r-requires
hear-r-requires c = rw c.transmit-t.ensures (transmitted_hearing _ c.requires.hearing)

pub idle-requires : goal.idle-requires
idle-requires c =
    let s = c.args.s in
    let same : c.accept-u.result.latches.idle ≡ s.latches.idle =
    ap (λ (t : State). t.latches.idle) c.accept-u.ensures ∙ received_idle c.transmit-t.result c.hear-r.result ∙ ap (λ (t : State). t.latches.idle) c.transmit-t.ensures ∙ transmitted_idle s in
    rw same c.requires.idle

pub returns : goal.returns
unfolding pulsed received enters
returns c = rw (c.settle.ensures, c.idle.ensures, c.accept-u.ensures, c.enters-entered.ensures, c.is_some.ensures, c.hear-r.ensures, c.transmit-t.ensures)
