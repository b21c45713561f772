-- The quiet pulse: no byte is loaded and no character ends. It changes numbers alone, and
-- leaves the queues where they are. What these definitions say of a pulse is proved against `Tick.antt`.
use Rattle.std.specs.Prelude.{ℕ, ◌+◌, ◌%◌, Bool, false, cond, not, ◌&&◌, eqb, Option, Some, None, is_some}
use Rattle.device.specs.declared.Frame.{Frame}
use Rattle.device.specs.declared.Receiver.{Receiver}
use Rattle.device.specs.declared.Latches.{Latches}
use Rattle.device.specs.declared.State.{State}
use Rattle.device.specs.State.{with_k, with_frame, with_receiver, with_latches, idle_phase, character_phase}
use Rattle.device.specs.Modem.{loopback}
use Rattle.device.specs.Transmitter.{line, ready, shifted_out}
use Rattle.device.specs.Receiver.{at_position, receiver_pulse}
use Rattle.device.specs.Idle.{counts, time_out_at, counted}
use Rattle.clock.specs.declared.Setting.{Setting}
use Rattle.clock.specs.declared.QuietPulse.{QuietPulse}

-- what a pulse looks at and does not change, while the queues stay as they are: whether a byte would be loaded, and
-- whether the idle count goes on
unfoldable pub setting_of : State → Setting
setting_of s =
    record {
      lcr = s.registers.lcr;
      sin = s.inputs.sin;
      loopback = loopback s.registers;
      ready = ready s;
      counts = counts s.fifo s.rx.count;
      limit = time_out_at s.registers.lcr;
    }

-- the state with these numbers in place of its own
abbrev pub assembled : State → ℕ → Frame → Receiver → Latches → State
assembled s k x v l = with_latches (with_receiver (with_frame (with_k s k) x) v) l

-- a pulse that only steps on, with so many pulses left of the frame: between two samples of a character, or idle on a
-- line that is high because nothing is sent, or because SIN is
unfoldable pub steady : Bool → ℕ → ℕ → Receiver → Bool
steady looped left sin v =
    cond (eqb v.phase character_phase)
    (not (eqb ((v.position + 1) % 16) 8))
    (cond (eqb v.phase idle_phase) (cond looped (eqb left 0) (eqb sin 1)) false)

-- the receiver after it
unfoldable pub stepped : Receiver → Receiver
stepped v = cond (eqb v.phase character_phase) (at_position (v.position + 1) v) v

-- what a quiet pulse leaves; none where a byte is loaded or a character ends
unfoldable pub quiet_of : Setting → Frame → Receiver → Latches → Option QuietPulse
quiet_of c x v l =
    let y = shifted_out x in
    let r = receiver_pulse (cond c.loopback (line y) c.sin) c.lcr v in
    cond (eqb y.left 0 && c.ready)
    None
    (cond (is_some r.entry)
    None
    (Some (record { frame = y; receiver = r.receiver; latches = cond c.counts (counted c.limit l) l })))
