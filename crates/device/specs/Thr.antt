-- THR, transmitter holding register (SLLS191C, "transmitter holding register (THR)"; document 01, "THR write").
use Rattle.std.specs.Prelude.{ℕ}
use Rattle.queue.specs.Queue.{put_byte}
use Rattle.device.specs.declared.State.{State}
use Rattle.device.specs.State.{with_tx, with_latches, with_empty}
use Rattle.device.specs.Fifo.{capacity}

-- appended; the transmit-empty latch goes to 0. Full: in character mode it replaces the byte, with FIFO on it is
-- dropped (house rule)
unfoldable pub thr_write : State → ℕ → State
thr_write s b = with_latches (with_tx s (put_byte (capacity s.fifo) s.tx b)) (with_empty s.latches 0)
