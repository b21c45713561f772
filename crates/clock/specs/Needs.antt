-- What a pulse asks of its caller; every well-formed state has it.
use Rattle.std.specs.Prelude.{◌≤◌}
use Rattle.device.specs.declared.Frame.{Frame}
use Rattle.device.specs.declared.Receiver.{Receiver}
use Rattle.device.specs.declared.Latches.{Latches}
use Rattle.device.specs.declared.State.{State}
use Rattle.receiver.specs.Needs.{Placed, Hearing}
use Rattle.clock.specs.declared.Setting.{Setting}

-- a quiet pulse
pub record Quieting (c : Setting) (x : Frame) (v : Receiver) (l : Latches) : Type 0 where
  pub sin : c.sin ≤ 1
  pub placed : Placed v
  pub idle : l.idle ≤ 769

-- a whole pulse
pub record Pulsing (s : State) : Type 0 where
  pub hearing : Hearing s
  pub idle : s.latches.idle ≤ 769
