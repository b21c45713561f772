-- The transmitter's part of a pulse: the transmitter shift register, TSR, and its load from the queue (SLLS191C,
-- "transmitter holding register (THR)"; document 01, "A tick", 1).
use Rattle.std.specs.Prelude.{ℕ, ◌-◌, Bool, cond, not, ◌&&◌, eqb, get_or}
use Rattle.frame.specs.Format.{format_of, frame_length}
use Rattle.frame.specs.Frame.{line_level}
use Rattle.queue.specs.Queue.{take_byte}
use Rattle.device.specs.declared.Frame.{Frame}
use Rattle.device.specs.declared.State.{State}
use Rattle.device.specs.State.{with_tx, with_frame, with_latches, with_empty, no_frame}
use Rattle.device.specs.Autoflow.{held}

-- the transmitter's line
abbrev pub line : Frame → ℕ
line x = line_level x.left x.byte x.format

-- the frame of byte b in format f at its start: L = F
abbrev pub frame_of : ℕ → ℕ → Frame
frame_of b f = record { left = frame_length f; byte = b; format = f }

-- the oldest byte is taken with the present LCR as format and L = F. Emptying the queue sets the latch
unfoldable pub loaded : State → State
loaded s =
    let x = frame_of (get_or s.tx.bytes 0 0) (format_of s.registers.lcr) in
    let t = with_tx (with_frame s x) (take_byte s.tx) in
    cond (eqb s.tx.count 1) (with_latches t (with_empty s.latches 1)) t

-- a byte is queued and the transmitter isn't held
unfoldable pub ready : State → Bool
ready s = not (eqb s.tx.count 0) && not (held s.registers s.fifo s.inputs)

-- L falls by 1; a frame of which nothing is left has no byte and no format
unfoldable pub shifted_out : Frame → Frame
shifted_out x = cond (eqb (x.left - 1) 0) no_frame (record { left = x.left - 1; byte = x.byte; format = x.format })

-- if L > 0 it falls by 1; if L is now 0, a byte is queued and it isn't held, one is loaded (the pulse of loading: house
-- rule)
unfoldable pub transmitted : State → State
transmitted s =
    let x = shifted_out s.frame in
    cond (eqb x.left 0 && ready s) (loaded s) (with_frame s x)
