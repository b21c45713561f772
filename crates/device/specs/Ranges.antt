-- A well-formed state obeys these ranges; any other is refused (document 01, "The state"). They come in the five parts
-- of document 02 b); a range that joins two parts stands in the later one. That an array has 64 places and a byte is
-- below 256 is what the types of src/lib.rt say, and no range.
use Rattle.std.specs.Prelude.{ℕ, suc, ◌-◌, ◌^◌, min, Bool, cond, not, ◌&&◌, ◌||◌, List, [], ◌∷◌, ◌++◌, leb, ltb, eqb}
use Rattle.flag.specs.Flag.{on, bit, every, implies}
use Rattle.frame.specs.Format.{data_bits, parity_bits, frame_length}
use Rattle.queue.specs.declared.ByteQueue.{ByteQueue}
use Rattle.queue.specs.declared.EntryQueue.{EntryQueue}
use Rattle.queue.specs.declared.Errors.{Errors}
use Rattle.queue.specs.Queue.{byte_rest, entry_rest, errors_within, entries_within}
use Rattle.device.specs.declared.Registers.{Registers}
use Rattle.device.specs.declared.Baud.{Baud}
use Rattle.device.specs.declared.FifoControl.{FifoControl}
use Rattle.device.specs.declared.Inputs.{Inputs}
use Rattle.device.specs.declared.Frame.{Frame}
use Rattle.device.specs.declared.Receiver.{Receiver}
use Rattle.device.specs.declared.Latches.{Latches}
use Rattle.device.specs.declared.State.{State}
use Rattle.device.specs.State.{character_phase}
use Rattle.device.specs.Fifo.{capacity, trigger_level}
use Rattle.device.specs.Autoflow.{autoflow, auto_rts}
use Rattle.device.specs.Receiver.{stop_position, samples_taken}

-- Part 1: registers, divisor and k.
abbrev pub register_ranges : Registers → Baud → List Bool
register_ranges r b =
    leb r.ier 63  -- IER 0..63
    ∷ leb r.mcr 63  -- MCR 0..63
    ∷ leb r.lcr 255  -- LCR 0..255
    ∷ leb r.scr 255  -- SCR 0..255
    ∷ leb b.divisor 65535  -- D 0..65535
    ∷ cond (eqb b.divisor 0) (eqb b.k 0) (leb 1 b.k && leb b.k b.divisor)  -- k: 0 if D = 0, else 1..D
    ∷ []

-- Part 2: FIFO settings and pins.
abbrev pub setting_ranges : FifoControl → Inputs → List Bool
setting_ranges f i =
    leb f.enabled 1  -- FIFO on or off
    ∷ leb f.size 1  -- size bit
    ∷ leb f.dma 1  -- DMA bit
    ∷ leb f.trigger 3  -- trigger code 0..3
    ∷ leb i.modem 15  -- modem pins 0..15
    ∷ leb i.sin 1  -- SIN 0 or 1
    ∷ []

-- Part 3: transmit queue and frame.
abbrev pub transmit_ranges : FifoControl → ByteQueue → Frame → List Bool
transmit_ranges f q x =
    leb q.count (capacity f)  -- count within the capacity
    ∷ byte_rest q  -- places beyond the count are zero
    ∷ leb x.left 192  -- L 0..192
    ∷ leb x.format 63  -- format 0..63
    ∷ leb x.left (frame_length x.format)  -- L is at most that frame's length
    ∷ implies (eqb x.left 0) (eqb x.byte 0 && eqb x.format 0)  -- all zero if L = 0
    ∷ []

-- in a character
abbrev pub character_ranges : Receiver → List Bool
character_ranges v =
    leb v.format 63  -- format 0..63
    ∷ ltb v.position (stop_position v.format)  -- P is below its stop position
    ∷ ltb v.samples (2 ^ min (data_bits v.format) (samples_taken v.position))  -- not yet sampled: zero, data
    ∷ leb v.parity (min (parity_bits v.format) (samples_taken v.position - data_bits v.format))  -- and parity
    ∷ []

-- not in a character
abbrev pub outside_ranges : Receiver → List Bool
outside_ranges v = eqb v.format 0 ∷ eqb v.position 0 ∷ eqb v.samples 0 ∷ eqb v.parity 0 ∷ []

-- Part 4: receive queue, receiver and kept errors (document 02 c).
abbrev pub receive_ranges : FifoControl → EntryQueue → Receiver → Errors → List Bool
receive_ranges f q v k =
    leb q.count (capacity f)  -- count within the capacity
    ∷ entry_rest q  -- places beyond the count are zero
    ∷ entries_within (cond (on f.enabled) 1 0) q  -- PE, FE, BI of an entry 0 or 1; 0 with FIFO off
    ∷ errors_within (cond (on f.enabled) 0 1) k  -- kept PE, FE, BI 0 or 1; 0 with FIFO on
    ∷ leb v.phase character_phase  -- idle, waiting for mark, or in a character
    ∷ cond (eqb v.phase character_phase) (every (character_ranges v)) (every (outside_ranges v))
    ∷ []

-- Part 5: latches, idle count, change bits, hold; m bytes are queued to transmit, n received.

-- the latches of the queues and the idle count
abbrev pub queue_latch_ranges : FifoControl → ℕ → ℕ → Latches → List Bool
queue_latch_ranges f m n l =
    leb l.empty 1  -- transmit-empty latch
    ∷ implies (on l.empty) (eqb m 0)  -- only with an empty transmit queue
    ∷ leb l.overrun 1  -- OE
    ∷ leb l.timeout 1  -- time-out latch
    ∷ implies (on l.timeout) (on f.enabled && ltb 0 n)  -- only with FIFO on and received data waiting
    ∷ leb l.idle 769  -- idle count 0..769
    ∷ implies (not (on f.enabled) || eqb n 0) (eqb l.idle 0)  -- 0 if nothing is received or the FIFO is off
    ∷ []

-- the change bits and RTS hold
abbrev pub flow_latch_ranges : Registers → FifoControl → ℕ → Latches → List Bool
flow_latch_ranges r f n l =
    leb l.changes 15  -- four change bits
    ∷ implies (autoflow r f) (not (bit 0 l.changes))  -- the CTS change bit is 0 with autoflow on
    ∷ leb l.hold 1  -- RTS hold
    ∷ implies (not (auto_rts r f)) (eqb l.hold 0)  -- 0 without auto-RTS
    ∷ implies (auto_rts r f && leb (trigger_level f) n) (eqb l.hold 1)  -- 1 at or above the trigger
    ∷ implies (eqb n 0) (eqb l.hold 0)  -- 0 when the count is 0
    ∷ []

abbrev pub latch_ranges : Registers → FifoControl → ℕ → ℕ → Latches → List Bool
latch_ranges r f m n l = queue_latch_ranges f m n l ++ flow_latch_ranges r f n l

-- the five parts in their order: whether every range of the part holds
abbrev pub parts : State → List Bool
parts s =
    every (register_ranges s.registers s.baud)
    ∷ every (setting_ranges s.fifo s.inputs)
    ∷ every (transmit_ranges s.fifo s.tx s.frame)
    ∷ every (receive_ranges s.fifo s.rx s.receiver s.kept)
    ∷ every (latch_ranges s.registers s.fifo s.tx.count s.rx.count s.latches)
    ∷ []

-- every range of every part holds
unfoldable pub well_formed : State → Bool
well_formed s = every (parts s)

-- the place of the first test of a list that fails, counted from n; 0 where every one holds
abbrev pub first_failing : ℕ → List Bool → ℕ
first_failing n [] = 0
first_failing n (t ∷ ts) = cond t (first_failing (suc n) ts) n

-- the part that is bad (document 02 b): the lowest that breaks a range; 0 exactly where the state is well formed
unfoldable pub part_of : State → ℕ
part_of s = first_failing 1 (parts s)
