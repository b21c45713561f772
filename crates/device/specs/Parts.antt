-- The part that is bad (document 02 b), as claims about every state and about the ranges that join two parts; proved in
-- proofs/Parts.antt.
use Rattle.std.specs.Prelude.{ℕ, suc, ◌<◌, ◌≡◌, true, false, get_or, set, replicate}
use Rattle.queue.specs.Queue.{no_entry}
use Rattle.device.specs.declared.Latches.{Latches}
use Rattle.device.specs.declared.State.{State}
use Rattle.device.specs.State.{fresh_of, with_registers, with_mcr, with_fifo, with_tx, with_rx, with_latches, with_kept, with_empty, with_overrun, with_timeout, with_idle, with_changes, with_hold}
use Rattle.device.specs.Ranges.{parts, well_formed, part_of}

-- 0 exactly where the state is well formed; else the part that stands breaks a range, and no part before it does
pub record Lowest (s : State) : Type 0 where
  pub well : well_formed s ≡ true → part_of s ≡ 0
  pub none : part_of s ≡ 0 → well_formed s ≡ true
  pub stands : (p : ℕ) → part_of s ≡ suc p → get_or (parts s) p true ≡ false
  pub before : (p q : ℕ) → part_of s ≡ suc p → q < p → get_or (parts s) q false ≡ true

-- the fresh state with so many zero bytes queued to transmit
abbrev pub queued : ℕ → State
queued m = with_tx fresh_of (record { bytes = replicate 64 0; count = m })

-- with so many zero characters received
abbrev pub received : ℕ → State
received n = with_rx fresh_of (record { entries = replicate 64 no_entry; count = n })

-- with a zero character received whose PE is this
abbrev pub received_with : ℕ → State
received_with pe =
    with_rx fresh_of
    (record { entries = set (replicate 64 no_entry) 0 (record { byte = 0; pe = pe; fe = 0; bi = 0 }); count = 1 })

-- with this kept PE
abbrev pub keeping : ℕ → State
keeping pe = with_kept fresh_of (record { pe = pe; fe = 0; bi = 0 })

-- with other latches
abbrev pub latched : State → (Latches → Latches) → State
latched s f = with_latches s (f s.latches)

-- with FIFO on
abbrev pub fifo_on : State → State
fifo_on s = with_fifo s (record { enabled = 1; size = 0; dma = 0; trigger = 0 })

-- with FIFO on and MCR
abbrev pub flowing : State → ℕ → State
flowing s mcr = with_registers (fifo_on s) (with_mcr s.registers mcr)

-- Each range that joins two parts, broken alone, counts for the later one, and its legal neighbour is well formed. With
-- them OE, for which document 02 names no part.
pub record Joined : Type 0 where
  -- 3: the transmit count against the capacity
  pub transmit_fits : part_of (queued 1) ≡ 0
  pub transmit_count : part_of (queued 2) ≡ 3
  -- 4: the receive count against the capacity
  pub receive_fits : part_of (received 1) ≡ 0
  pub receive_count : part_of (received 2) ≡ 4
  -- 4: the errors of an entry and the kept ones against FIFO on
  pub entry_on : part_of (fifo_on (received_with 1)) ≡ 0
  pub entry_off : part_of (received_with 1) ≡ 4
  pub kept_off : part_of (keeping 1) ≡ 0
  pub kept_range : part_of (keeping 2) ≡ 4
  pub kept_on : part_of (fifo_on (keeping 1)) ≡ 4
  -- 5: the transmit-empty latch against the transmit count
  pub empty_alone : part_of (latched fresh_of (λ l. with_empty l 1)) ≡ 0
  pub empty_queued : part_of (latched (queued 1) (λ l. with_empty l 1)) ≡ 5
  -- 5: OE, as document 01 lists it between the latches
  pub overrun_set : part_of (latched fresh_of (λ l. with_overrun l 1)) ≡ 0
  pub overrun_range : part_of (latched fresh_of (λ l. with_overrun l 2)) ≡ 5
  -- 5: the time-out latch against FIFO on, and against the receive count
  pub timeout_waits : part_of (latched (fifo_on (received 1)) (λ l. with_timeout l 1)) ≡ 0
  pub timeout_off : part_of (latched (received 1) (λ l. with_timeout l 1)) ≡ 5
  pub timeout_none : part_of (latched (fifo_on fresh_of) (λ l. with_timeout l 1)) ≡ 5
  -- 5: the idle count against FIFO on, and against the receive count
  pub idle_waits : part_of (latched (fifo_on (received 1)) (λ l. with_idle l 1)) ≡ 0
  pub idle_off : part_of (latched (received 1) (λ l. with_idle l 1)) ≡ 5
  pub idle_none : part_of (latched (fifo_on fresh_of) (λ l. with_idle l 1)) ≡ 5
  -- 5: the CTS change bit against autoflow, which is on with MCR bit 5 and FIFO on
  pub cts_change : part_of (latched (fifo_on fresh_of) (λ l. with_changes l 1)) ≡ 0
  pub cts_autoflow : part_of (latched (flowing fresh_of 0x20) (λ l. with_changes l 1)) ≡ 5
  -- 5: hold against auto-RTS (MCR bits 5 and 1), and against the receive count: at the trigger level, and 0
  pub hold_trigger : part_of (latched (flowing (received 1) 0x22) (λ l. with_hold l 1)) ≡ 0
  pub hold_clear : part_of (flowing (received 1) 0x22) ≡ 5
  pub hold_without : part_of (latched (flowing (received 1) 0x20) (λ l. with_hold l 1)) ≡ 5
  pub hold_none : part_of (latched (flowing fresh_of 0x22) (λ l. with_hold l 1)) ≡ 5
