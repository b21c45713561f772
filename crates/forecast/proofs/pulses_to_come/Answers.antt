-- The formula, with F from LCR.
use Rattle.forecast.proofs.Asked.{forecast_ranged}
use Rattle.frame.proofs.Frames.{frame_length_bounds}
use Rattle.frame.specs.Format.{format_of}
use native.Mathlib.Omega.{arith}
use Rattle.forecast.proofs.pulses_to_come.Goals as goal

pub pulses_left-requires : goal.pulses_left-requires
pulses_left-requires c =
    let s = c.args.s in
    let r = forecast_ranged s c.requires in
    let length = frame_length_bounds (format_of s.registers.lcr) in
    (r.left, r.count, omega arith)

pub returns : goal.returns
returns c = rw (c.pulses_left.ensures, c.frame_length-length.ensures.value)
