-- FCR, FIFO control register (SLLS191C and SLLS597D, "FIFO control register (FCR)"; document 01, "FCR write").
use Rattle.std.specs.Prelude.{ℕ, ◌/◌, Bool, cond, ◌&&◌, ◌||◌, eqb}
use Rattle.flag.specs.Flag.{on, bit, bit_of, differ}
use Rattle.queue.specs.Queue.{no_bytes, no_entries, no_errors}
use Rattle.device.specs.declared.Registers.{Registers}
use Rattle.device.specs.declared.FifoControl.{FifoControl}
use Rattle.device.specs.declared.State.{State}
use Rattle.device.specs.State.{with_fifo, with_tx, with_rx, with_latches, with_kept, with_empty}
use Rattle.device.specs.Rbr.{restart_idle}

-- the settings after a write. Bit 0 clear turns the FIFO off, other bits ignored. Bit 0 set turns it on; bits 7, 6
-- give the trigger code, bit 3 the DMA bit, bit 5 the size, only when LCR7 (DLAB) = 1 (else it stays)
unfoldable pub fifo_after : Registers → FifoControl → ℕ → FifoControl
fifo_after r f b =
    cond (bit 0 b)
    (record {
      enabled = 1;
      size = cond (bit 7 r.lcr) (bit_of (bit 5 b)) f.size;
      dma = bit_of (bit 3 b);
      trigger = b / 64;
    })
    (record { enabled = 0; size = f.size; dma = f.dma; trigger = f.trigger })

-- FIFO on/off changes, which clears the kept errors (document 02 c)
unfoldable pub turned : FifoControl → FifoControl → Bool
turned f g = differ (on f.enabled) (on g.enabled)

-- FIFO on/off or size changes, which clears both queues (size: house rule)
unfoldable pub switched : FifoControl → FifoControl → Bool
switched f g = turned f g || differ (on f.size) (on g.size)

-- clearing the receive queue clears time-out latch and idle count, and not OE; the character being received goes on
unfoldable pub clear_receive : State → State
clear_receive s = with_latches (with_rx s no_entries) (restart_idle s.latches)

-- clearing a nonempty transmit queue sets its latch; the shift register and its frame go on
unfoldable pub clear_transmit : State → State
clear_transmit s =
    with_latches (with_tx s no_bytes) (cond (eqb s.tx.count 0) s.latches (with_empty s.latches 1))

-- with bit 0 set, bits 1 and 2 clear the receive and the transmit queue
unfoldable pub fcr_write : State → ℕ → State
fcr_write s b =
    let g = fifo_after s.registers s.fifo b in
    let both = switched s.fifo g in
    let t = with_kept (with_fifo s g) (cond (turned s.fifo g) no_errors s.kept) in
    let u = cond (both || (bit 0 b && bit 1 b)) (clear_receive t) t in
    cond (both || (bit 0 b && bit 2 b)) (clear_transmit u) u
