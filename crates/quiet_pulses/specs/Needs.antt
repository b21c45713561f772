-- What the receiver's part of quiet pulses asks of its caller; a well-formed state has it up to its next event.
use Rattle.std.specs.Prelude.{ℕ, ◌≡◌, Bool}
use Rattle.device.specs.declared.Frame.{Frame}
use Rattle.device.specs.declared.Receiver.{Receiver}
use Rattle.device.specs.State.{character_phase}
use Rattle.receiver.specs.Needs.{Sampled}
use Rattle.quiet_pulses.specs.Quiet.{place_heard}

pub record Hearing (looped : Bool) (x : Frame) (m : ℕ) (v : Receiver) : Type 0 where
  pub character : v.phase ≡ character_phase → Sampled (place_heard looped x) m v
