-- The quiet pulses: those before the next event, in which a byte is loaded, or a character begins or ends. What
-- these definitions say of m of them is proved against `Tick.antt`.
use Rattle.std.specs.Prelude.{ℕ, zero, suc, ◌+◌, ◌-◌, ◌/◌, ◌%◌, ◌^◌, min, Bool, cond, not, ◌&&◌, leb, ltb, eqb}
use Rattle.frame.specs.Format.{frame_length}
use Rattle.frame.specs.Frame.{frame_bits}
use Rattle.frame.specs.Low.{low_bits}
use Rattle.device.specs.declared.FifoControl.{FifoControl}
use Rattle.device.specs.declared.Frame.{Frame}
use Rattle.device.specs.declared.Receiver.{Receiver}
use Rattle.device.specs.declared.Latches.{Latches}
use Rattle.device.specs.declared.State.{State}
use Rattle.device.specs.State.{with_timeout, with_idle, no_frame, waiting_phase, character_phase}
use Rattle.device.specs.Modem.{loopback}
use Rattle.device.specs.Autoflow.{settled}
use Rattle.device.specs.Transmitter.{ready}
use Rattle.device.specs.Receiver.{stop_position}
use Rattle.device.specs.Idle.{counts, time_out_at}
use Rattle.device.specs.Tick.{pulsed}
use Rattle.receiver.specs.Samples.{sampled_by}

-- m pulses, each with the rules that end a step
unfoldable pub pulses_of : ℕ → State → State
pulses_of zero s = s
pulses_of (suc m) s = settled (pulsed (pulses_of m s))

-- No event comes: as many pulses as a call can ask for.
abbrev pub never : ℕ
never = 4294967295

-- The transmitter: the pulses before one that loads, and the frame m of them later.

unfoldable pub sends : Bool → ℕ → ℕ
sends ready left = cond ready (left - 1) never

unfoldable pub shifted_by : ℕ → Frame → Frame
shifted_by m x =
    cond (leb x.left m) no_frame (record { left = x.left - m; byte = x.byte; format = x.format })

-- The line that the receiver hears, while nothing is loaded: its low bits, each of 16 pulses, and the place in them
-- now. In loopback they are those of the frame, else SIN's.

-- all of 32 bits low: a character has fewer
abbrev pub all_low : ℕ
all_low = 4294967295

unfoldable pub low_heard : Bool → Frame → ℕ → ℕ
low_heard looped x sin =
    cond looped (low_bits (frame_bits x.byte x.format)) (cond (eqb sin 1) 0 all_low)

unfoldable pub place_heard : Bool → Frame → ℕ
place_heard looped x = cond looped (frame_length x.format - x.left) 0

-- the low bits from i pulses on
abbrev pub low_from : Bool → Frame → ℕ → ℕ → ℕ
low_from looped x sin i = low_heard looped x sin / 2 ^ ((place_heard looped x + i) / 16)

-- The receiver: the pulses before a character begins or ends, and the receiver m of them later. In a character that is
-- the start sample, where it will be high, or the stop sample; idle it is the first low level, which never comes where
-- no bit is low any more; waiting for mark on a low SIN goes on.

unfoldable pub false_start : Bool → Frame → ℕ → ℕ → Bool
false_start looped x sin p = ltb p 8 && eqb (low_from looped x sin (8 - p) % 2) 0

unfoldable pub character_hears : Bool → Frame → ℕ → Receiver → ℕ
character_hears looped x sin v =
    cond (false_start looped x sin v.position) (7 - v.position) (stop_position v.format - 1 - v.position)

unfoldable pub hears : Bool → Frame → ℕ → Receiver → ℕ
hears looped x sin v =
    cond (eqb v.phase character_phase)
    (character_hears looped x sin v)
    (cond (eqb v.phase waiting_phase)
    (cond (not looped && eqb sin 0) never 0)
    (cond (eqb (low_from looped x sin 1) 0) never 0))

unfoldable pub heard_by : Bool → Frame → ℕ → ℕ → Receiver → Receiver
heard_by looped x sin m v =
    cond (eqb v.phase character_phase) (sampled_by (low_heard looped x sin) (place_heard looped x) m v) v

-- The idle count m pulses later: it rises by m and stops at 769, and above 4F it sets the time-out latch.

unfoldable pub counted_by : ℕ → ℕ → Latches → Latches
counted_by limit zero l = l
counted_by limit (suc m) l =
    let n = min (l.idle + suc m) 769 in
    with_idle (with_timeout l (cond (ltb limit n) 1 l.timeout)) n

-- with n characters received, where the count goes on or not
abbrev pub later_by : FifoControl → ℕ → ℕ → ℕ → Latches → Latches
later_by f n lcr m l = cond (counts f n) (counted_by (time_out_at lcr) m l) l

-- the pulses before the next event
unfoldable pub reach_of : State → ℕ
reach_of s =
    min (sends (ready s) s.frame.left) (hears (loopback s.registers) s.frame s.inputs.sin s.receiver)
