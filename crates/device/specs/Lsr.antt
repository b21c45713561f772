-- LSR, line status register (SLLS191C, "line status register (LSR)"; document 01, "LSR read"; document 02 c).
use Rattle.std.specs.Prelude.{ℕ, Bool, cond, ◌&&◌, [], ◌∷◌, ltb, eqb, set}
use Rattle.flag.specs.Flag.{on, byte_of}
use Rattle.queue.specs.declared.Entry.{Entry}
use Rattle.queue.specs.declared.EntryQueue.{EntryQueue}
use Rattle.queue.specs.declared.Errors.{Errors}
use Rattle.queue.specs.Queue.{no_errors, errors_of, entry_errors}
use Rattle.device.specs.declared.FifoControl.{FifoControl}
use Rattle.device.specs.declared.Reading.{Reading}
use Rattle.device.specs.declared.State.{State}
use Rattle.device.specs.State.{with_rx, with_latches, with_overrun, with_kept}
use Rattle.device.specs.Rbr.{oldest}

-- PE, FE and BI. With FIFO on each entry has its own, and those of the oldest show. In character mode they are kept
-- apart from the byte: an arriving character sets those that it has, a read of RBR leaves them, and a read of LSR clears
-- them: "PE is cleared every time the CPU reads the contents of the LSR" (SLLS191C, LSR bit 2, paper 004; bits 3 and 4
-- say so of FE and BI). So does a change of FIFO on/off, and reset. This is document 02 c); it replaces the last rule
-- under LSR in document 01, by which errors went with their entry in both modes.

-- an entry without its errors
abbrev pub without_errors : Entry → Entry
without_errors e = record { byte = e.byte; pe = 0; fe = 0; bi = 0 }

-- the entry of an arriving character: in character mode it has no errors of its own
unfoldable pub entering : FifoControl → Entry → Entry
entering f e = cond (on f.enabled) e (without_errors e)

-- the kept errors after it arrived: in character mode it sets those that it has and clears none
unfoldable pub kept_after : FifoControl → Entry → Errors → Errors
kept_after f e k =
    cond (on f.enabled)
    k
    (record { pe = cond (on e.pe) 1 k.pe; fe = cond (on e.fe) 1 k.fe; bi = cond (on e.bi) 1 k.bi })

-- the errors that show: with FIFO on those of the oldest entry, in character mode the kept ones
unfoldable pub shown_errors : State → Errors
shown_errors s = cond (on s.fifo.enabled) (errors_of (oldest s.rx)) s.kept

-- LSR6 (TEMT): transmit queue and shift register are both empty
unfoldable pub temt : State → Bool
temt s = eqb s.tx.count 0 && eqb s.frame.left 0

-- the register, bit by bit
unfoldable pub lsr : State → ℕ
lsr s =
    byte_of
    (ltb 0 s.rx.count  -- 0 DR, received data waiting
    ∷ on s.latches.overrun  -- 1 OE, overrun
    ∷ on (shown_errors s).pe  -- 2 PE
    ∷ on (shown_errors s).fe  -- 3 FE
    ∷ on (shown_errors s).bi  -- 4 BI
    ∷ eqb s.tx.count 0  -- 5 THRE, transmit queue empty
    ∷ temt s  -- 6 TEMT, that and L = 0
    ∷ (on s.fifo.enabled && entry_errors s.rx)  -- 7 FIFO on and some entry has an error
    ∷ [])

-- the queue with the oldest entry's errors cleared
unfoldable pub clear_errors : EntryQueue → EntryQueue
clear_errors q = record { entries = set q.entries 0 (without_errors (oldest q)); count = q.count }

-- then OE, the oldest entry's errors and the kept ones are cleared
unfoldable pub lsr_read : State → Reading
lsr_read s =
    record {
      byte = lsr s;
      state = with_kept (with_latches (with_rx s (clear_errors s.rx)) (with_overrun s.latches 0)) no_errors;
    }
