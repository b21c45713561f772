-- What a register read asks of the state, so that the byte it answers fits: ranges that every well-formed state has
-- (document 01, "The state").
use Rattle.std.specs.Prelude.{◌≤◌}
use Rattle.device.specs.declared.State.{State}

pub record Readable (s : State) : Type 0 where
  pub divisor : s.baud.divisor ≤ 65535
  pub changes : s.latches.changes ≤ 15
  pub modem : s.inputs.modem ≤ 15
