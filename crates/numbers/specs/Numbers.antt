-- The numbers of a state, in the protocol's order, and the state that such numbers make. Places count from 1.
use Rattle.std.specs.Prelude.{ℕ, zero, suc, ◌+◌, ◌-◌, ◌*◌, ◌%◌, Bool, ◌&&◌, List, [], ◌∷◌, ◌++◌, map, take, drop, get_or, leb}
use Rattle.flag.specs.Flag.{every, all_of}
use Rattle.queue.specs.declared.ByteQueue.{ByteQueue}
use Rattle.queue.specs.declared.Entry.{Entry}
use Rattle.queue.specs.declared.EntryQueue.{EntryQueue}
use Rattle.queue.specs.declared.Errors.{Errors}
use Rattle.device.specs.declared.Registers.{Registers}
use Rattle.device.specs.declared.Baud.{Baud}
use Rattle.device.specs.declared.FifoControl.{FifoControl}
use Rattle.device.specs.declared.Inputs.{Inputs}
use Rattle.device.specs.declared.Frame.{Frame}
use Rattle.device.specs.declared.Receiver.{Receiver}
use Rattle.device.specs.declared.Latches.{Latches}
use Rattle.device.specs.declared.State.{State}
use Rattle.device.specs.Ranges.{first_failing}

-- The numbers of a state.

-- How many numbers each group has.

abbrev pub settings_count : ℕ
settings_count = 13

abbrev pub transmit_count : ℕ
transmit_count = 64

abbrev pub frame_count : ℕ
frame_count = 4

abbrev pub receive_count : ℕ
receive_count = 4 * 64

abbrev pub receiver_count : ℕ
receiver_count = 14

-- how many a state has, 351
abbrev pub state_count : ℕ
state_count = settings_count + transmit_count + frame_count + receive_count + receiver_count

-- The groups.

-- places 1..6, IER, MCR, LCR, SCR, divisor, k; 7..12, FIFO on, size bit, DMA bit, trigger code, modem pins, SIN; 13,
-- the transmit count
abbrev pub settings_numbers : Registers → Baud → FifoControl → Inputs → ℕ → List ℕ
settings_numbers r b f i n =
    r.ier ∷ r.mcr ∷ r.lcr ∷ r.scr ∷ b.divisor ∷ b.k ∷ f.enabled ∷ f.size ∷ f.dma ∷ f.trigger ∷ i.modem
    ∷ i.sin ∷ n ∷ []

-- places 78..80, L, the byte and the format of the frame now sent; 81, the receive count
abbrev pub frame_numbers : State → List ℕ
frame_numbers s = s.frame.left ∷ s.frame.byte ∷ s.frame.format ∷ s.rx.count ∷ []

-- an entry: byte, PE, FE, BI
abbrev pub entry_numbers : Entry → List ℕ
entry_numbers e = e.byte ∷ e.pe ∷ e.fe ∷ e.bi ∷ []

unfoldable pub entries_numbers : List Entry → List ℕ
entries_numbers [] = []
entries_numbers (e ∷ es) = entry_numbers e ++ entries_numbers es

-- places 338..342, the receiver's phase, position, format, data samples and parity sample; 343..348, transmit-empty
-- latch, OE, time-out latch, idle count, change bits, RTS hold; 349..351, the kept PE, FE and BI
abbrev pub receiver_numbers : Receiver → Latches → Errors → List ℕ
receiver_numbers v l k =
    v.phase ∷ v.position ∷ v.format ∷ v.samples ∷ v.parity ∷ l.empty ∷ l.overrun ∷ l.timeout ∷ l.idle
    ∷ l.changes ∷ l.hold ∷ k.pe ∷ k.fe ∷ k.bi ∷ []

-- all of them: with places 14..77, the transmit queue, and 82..337, the receive queue
unfoldable pub numbers_of : State → List ℕ
numbers_of s =
    settings_numbers s.registers s.baud s.fifo s.inputs s.tx.count
    ++ (s.tx.bytes
    ++ (frame_numbers s ++ (entries_numbers s.rx.entries ++ receiver_numbers s.receiver s.latches s.kept)))

-- Numbers that fit.

-- the number at a place
abbrev pub place : ℕ → List ℕ → ℕ
place a ns = get_or ns (a - 1) 0

-- the numbers at the places a to b
abbrev pub places : ℕ → ℕ → List ℕ → List ℕ
places a b ns = take (b + 1 - a) (drop (a - 1) ns)

abbrev pub is_byte : ℕ → Bool
is_byte n = leb n 255

unfoldable pub bytes_in : ℕ → ℕ → List ℕ → Bool
bytes_in a b ns = all_of is_byte (places a b ns)

-- Whether the numbers of each part fit their places' types. Bytes are all but divisor, k, the counts, L, position and
-- idle count.

-- part 1: places 1..6
abbrev pub registers_fit : List ℕ → Bool
registers_fit ns = bytes_in 1 4 ns

-- part 2: places 7..12
abbrev pub settings_fit : List ℕ → Bool
settings_fit ns = bytes_in 7 12 ns

-- part 3: places 13..80
abbrev pub transmit_fits : List ℕ → Bool
transmit_fits ns = bytes_in 14 77 ns && bytes_in 79 80 ns

-- part 4: places 81..342 and 349..351
abbrev pub receive_fits : List ℕ → Bool
receive_fits ns = bytes_in 82 338 ns && (bytes_in 340 342 ns && bytes_in 349 351 ns)

-- part 5: places 343..348
abbrev pub latches_fit : List ℕ → Bool
latches_fit ns = bytes_in 343 345 ns && bytes_in 347 348 ns

-- the five parts in their order
abbrev pub fitting : List ℕ → List Bool
fitting ns = registers_fit ns ∷ settings_fit ns ∷ transmit_fits ns ∷ receive_fits ns ∷ latches_fit ns ∷ []

-- every number fits its place's type
unfoldable pub fits : List ℕ → Bool
fits ns = every (fitting ns)

-- the lowest part with a number that does not fit; 0 exactly where every number fits
unfoldable pub unfit_part : List ℕ → ℕ
unfit_part ns = first_failing 1 (fitting ns)

-- The state of numbers, each cut to its place's type.

abbrev pub low : ℕ → ℕ
low n = n % 256

abbrev pub byte_at : ℕ → List ℕ → ℕ
byte_at a ns = low (place a ns)

abbrev pub registers_of : List ℕ → Registers
registers_of ns = record { ier = byte_at 1 ns; mcr = byte_at 2 ns; lcr = byte_at 3 ns; scr = byte_at 4 ns }

abbrev pub baud_of : List ℕ → Baud
baud_of ns = record { divisor = place 5 ns; k = place 6 ns }

abbrev pub fifo_of : List ℕ → FifoControl
fifo_of ns = record { enabled = byte_at 7 ns; size = byte_at 8 ns; dma = byte_at 9 ns; trigger = byte_at 10 ns }

abbrev pub inputs_of : List ℕ → Inputs
inputs_of ns = record { modem = byte_at 11 ns; sin = byte_at 12 ns }

unfoldable pub transmit_of : List ℕ → ByteQueue
transmit_of ns = record { bytes = map low (places 14 77 ns); count = place 13 ns }

abbrev pub frame_of : List ℕ → Frame
frame_of ns = record { left = place 78 ns; byte = byte_at 79 ns; format = byte_at 80 ns }

-- the entry of the first four numbers
abbrev pub entry_of : List ℕ → Entry
entry_of ns = record { byte = byte_at 1 ns; pe = byte_at 2 ns; fe = byte_at 3 ns; bi = byte_at 4 ns }

-- k entries
unfoldable pub entries_of : ℕ → List ℕ → List Entry
entries_of zero ns = []
entries_of (suc k) ns = entry_of ns ∷ entries_of k (drop 4 ns)

unfoldable pub receive_of : List ℕ → EntryQueue
receive_of ns = record { entries = entries_of 64 (places 82 337 ns); count = place 81 ns }

abbrev pub receiver_of : List ℕ → Receiver
receiver_of ns =
    record {
      phase = byte_at 338 ns;
      position = place 339 ns;
      format = byte_at 340 ns;
      samples = byte_at 341 ns;
      parity = byte_at 342 ns;
    }

abbrev pub latches_of : List ℕ → Latches
latches_of ns =
    record {
      empty = byte_at 343 ns;
      overrun = byte_at 344 ns;
      timeout = byte_at 345 ns;
      idle = place 346 ns;
      changes = byte_at 347 ns;
      hold = byte_at 348 ns;
    }

abbrev pub kept_of : List ℕ → Errors
kept_of ns = record { pe = byte_at 349 ns; fe = byte_at 350 ns; bi = byte_at 351 ns }

unfoldable pub state_of : List ℕ → State
state_of ns =
    record {
      registers = registers_of ns;
      baud = baud_of ns;
      fifo = fifo_of ns;
      inputs = inputs_of ns;
      tx = transmit_of ns;
      frame = frame_of ns;
      rx = receive_of ns;
      receiver = receiver_of ns;
      latches = latches_of ns;
      kept = kept_of ns;
    }
