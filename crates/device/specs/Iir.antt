-- IIR, interrupt identification register (SLLS191C, "interrupt identification register (IIR)" and table 5; document 01,
-- "Interrupts" and "IIR read").
use Rattle.std.specs.Prelude.{ℕ, ◌+◌, Bool, cond, ◌&&◌, ◌||◌, leb, ltb, eqb}
use Rattle.flag.specs.Flag.{on, bit}
use Rattle.queue.specs.Queue.{any_error}
use Rattle.device.specs.declared.FifoControl.{FifoControl}
use Rattle.device.specs.declared.Reading.{Reading}
use Rattle.device.specs.declared.State.{State}
use Rattle.device.specs.State.{with_latches, with_empty}
use Rattle.device.specs.Fifo.{trigger_level}
use Rattle.device.specs.Lsr.{shown_errors}

-- receiver line status: IER2 (ELSI) and either OE or an error that shows (PE, FE, BI)
unfoldable pub line_status : State → Bool
line_status s = bit 2 s.registers.ier && (on s.latches.overrun || any_error (shown_errors s))

-- received data available: IER0 (ERBI) and count at or above the trigger, or in character mode data waiting
unfoldable pub data_available : State → Bool
data_available s =
    bit 0 s.registers.ier
    && cond (on s.fifo.enabled) (leb (trigger_level s.fifo) s.rx.count) (ltb 0 s.rx.count)

-- character time-out: IER0 (ERBI) and the time-out latch
unfoldable pub time_out : State → Bool
time_out s = bit 0 s.registers.ier && on s.latches.timeout

-- transmitter holding register empty: IER1 (ETBEI) and the transmit-empty latch. The latch is not LSR5 (THRE), which is
-- the queue itself
unfoldable pub thr_empty : State → Bool
thr_empty s = bit 1 s.registers.ier && on s.latches.empty

-- modem status: IER3 (EDSSI) and a change bit (DCTS, DDSR, TERI, DDCD)
unfoldable pub modem_status : State → Bool
modem_status s = bit 3 s.registers.ier && ltb 0 s.latches.changes

-- the code: the first that applies. Table 5 gives data available and time-out one priority; document 01 puts data first
unfoldable pub interrupt_code : State → ℕ
interrupt_code s =
    cond (line_status s) 0x06
    (cond (data_available s) 0x04
    (cond (time_out s) 0x0c
    (cond (thr_empty s) 0x02
    (cond (modem_status s) 0x00
    0x01))))

-- C0 hex with FIFO on, 20 hex more if the size is 64 too
unfoldable pub fifo_code : FifoControl → ℕ
fifo_code f = cond (on f.enabled) (cond (on f.size) 0xe0 0xc0) 0

-- the code and the FIFO's bits. Answering code 02 clears the transmit-empty latch
unfoldable pub iir_read : State → Reading
iir_read s =
    record {
      byte = interrupt_code s + fifo_code s.fifo;
      state = cond (eqb (interrupt_code s) 0x02) (with_latches s (with_empty s.latches 0)) s;
    }
