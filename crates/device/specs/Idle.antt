-- The idle count's part of a pulse, and the character time-out (SLLS191C, "FIFO interrupt mode operation", time-out;
-- document 01, "A tick", 3). RCLK, by which the sheet counts character times, is the transmitter's 16x clock here.
use Rattle.std.specs.Prelude.{ℕ, ◌+◌, ◌*◌, min, Bool, cond, not, ◌&&◌, ltb, eqb}
use Rattle.flag.specs.Flag.{on}
use Rattle.frame.specs.Format.{format_of, frame_length}
use Rattle.device.specs.declared.FifoControl.{FifoControl}
use Rattle.device.specs.declared.Latches.{Latches}
use Rattle.device.specs.declared.State.{State}
use Rattle.device.specs.State.{with_latches, with_timeout, with_idle}

-- the idle count goes on: FIFO on, and data waiting
abbrev pub counts : FifoControl → ℕ → Bool
counts f n = on f.enabled && not (eqb n 0)

-- 4F, F from the present LCR
abbrev pub time_out_at : ℕ → ℕ
time_out_at lcr = 4 * frame_length (format_of lcr)

-- one more, at most 769; above 4F it sets the time-out latch
unfoldable pub counted : ℕ → Latches → Latches
counted limit l =
    let n = min (l.idle + 1) 769 in
    with_idle (with_timeout l (cond (ltb limit n) 1 l.timeout)) n

-- with FIFO on: 0 if a character entered the queue in this pulse; else, data waiting, one more
unfoldable pub idled : Bool → State → State
idled new s =
    cond (counts s.fifo s.rx.count)
    (with_latches s (cond new (with_idle s.latches 0) (counted (time_out_at s.registers.lcr) s.latches)))
    s
