-- The receiver's part of a pulse: the receiver shift register, RSR, on SIN or the looped line (SLLS191C, "receiver
-- buffer register (RBR)", LCR bit 2 and LSR bits 1 to 4; document 01, "A tick", 2, and "Receiver"). RCLK is the
-- transmitter's 16x clock.
use Rattle.std.specs.Prelude.{ℕ, ◌+◌, ◌-◌, ◌*◌, ◌/◌, ◌%◌, ◌^◌, Bool, cond, not, ◌&&◌, ltb, eqb, Option, Some, None, is_some}
use Rattle.flag.specs.Flag.{bit_of}
use Rattle.frame.specs.Format.{format_of, data_bits, parity_bits, parity_bit}
use Rattle.queue.specs.declared.Entry.{Entry}
use Rattle.queue.specs.Queue.{put_entry, is_full}
use Rattle.device.specs.declared.Receiver.{Receiver}
use Rattle.device.specs.declared.Received.{Received}
use Rattle.device.specs.declared.State.{State}
use Rattle.device.specs.State.{with_rx, with_receiver, with_latches, with_overrun, with_kept}
use Rattle.device.specs.State.{waiting_phase, character_phase, idle_receiver}
use Rattle.device.specs.Fifo.{capacity}
use Rattle.device.specs.Modem.{loopback}
use Rattle.device.specs.Lsr.{entering, kept_after}
use Rattle.device.specs.Transmitter.{line}

-- the position of the first stop sample, which ends a character: samples fall at 8, 24, 40 and so on
abbrev pub stop_position : ℕ → ℕ
stop_position f = 8 + 16 * (1 + data_bits f + parity_bits f)

-- the data and parity samples taken up to position P: the first falls at 24
abbrev pub samples_taken : ℕ → ℕ
samples_taken p = (p - 8) / 16

-- no character ended
abbrev pub goes_on : Receiver → Received
goes_on v = record { receiver = v; entry = None }

-- a character begins at position p, its format from LCR
abbrev pub start_at : ℕ → ℕ → Receiver
start_at p lcr = record { phase = character_phase; format = format_of lcr; samples = 0; parity = 0; position = p }

-- the receiver waits until a pulse sees high
abbrev pub waiting : Receiver
waiting = record { phase = waiting_phase; format = 0; samples = 0; parity = 0; position = 0 }

-- a break: every sample is low, the stop sample h too (the start sample was)
abbrev pub is_break : Receiver → ℕ → Bool
is_break v h = eqb v.samples 0 && (eqb v.parity 0 && eqb h 0)

-- the entry of a character whose stop sample is h: PE where the parity differs, FE where the stop is low, BI for a
-- break
unfoldable pub entry_of : Receiver → ℕ → Entry
entry_of v h =
    record {
      byte = v.samples;
      pe = bit_of (eqb (parity_bits v.format) 1 && not (eqb v.parity (parity_bit v.samples v.format)));
      fe = bit_of (eqb h 0);
      bi = bit_of (is_break v h);
    }

-- the first stop sample h ends the character. After a break the receiver waits for mark; after FE without break the low
-- sample counts as the next start bit at P = 8, format taken anew (house rule); otherwise it is idle
unfoldable pub stop_sample : ℕ → ℕ → Receiver → Received
stop_sample h lcr v =
    record {
      receiver = cond (is_break v h) waiting (cond (eqb h 0) (start_at 8 lcr) idle_receiver);
      entry = Some (entry_of v h);
    }

-- the character at position p
abbrev pub at_position : ℕ → Receiver → Receiver
at_position p v =
    record { phase = v.phase; format = v.format; samples = v.samples; parity = v.parity; position = p }

-- the character with these data samples and this parity sample
abbrev pub with_samples : Receiver → ℕ → ℕ → Receiver
with_samples v d p =
    record { phase = v.phase; format = v.format; samples = d; parity = p; position = v.position }

-- the character with its next sample h: data from bit 0, then parity
unfoldable pub sampled : ℕ → Receiver → Receiver
sampled h v =
    let n = samples_taken v.position in
    cond (ltb n (data_bits v.format))
    (with_samples v (v.samples + h * 2 ^ n) v.parity)
    (with_samples v v.samples h)

-- in a character, at its next position p: samples fall at 8, 24, 40 and so on; high at 8 is a false start
unfoldable pub in_character : ℕ → ℕ → ℕ → Receiver → Received
in_character h lcr p v =
    cond (eqb (p % 16) 8)
    (cond (eqb p 8)
    (cond (eqb h 1) (goes_on idle_receiver) (goes_on (at_position p v)))
    (cond (eqb p (stop_position v.format)) (stop_sample h lcr v) (goes_on (at_position p (sampled h v)))))
    (goes_on (at_position p v))

-- what a pulse that hears the level h makes of the receiver. Idle and low begins a character, P = 0; each later pulse
-- adds 1 to P; waiting for mark ends on high
unfoldable pub receiver_pulse : ℕ → ℕ → Receiver → Received
receiver_pulse h lcr v =
    cond (eqb v.phase character_phase)
    (in_character h lcr (v.position + 1) v)
    (cond (eqb v.phase waiting_phase)
    (goes_on (cond (eqb h 1) idle_receiver v))
    (goes_on (cond (eqb h 0) (start_at 0 lcr) v)))

-- the level that the receiver hears: in loopback the transmitter's line, else SIN
unfoldable pub heard : State → ℕ
heard s = cond (loopback s.registers) (line s.frame) s.inputs.sin

-- what this pulse makes of the receiver
abbrev pub receiver_pulse_of : State → Received
receiver_pulse_of s = receiver_pulse (heard s) s.registers.lcr s.receiver

-- a character enters the queue in this pulse
unfoldable pub enters : State → Bool
enters s = is_some (receiver_pulse_of s).entry && not (is_full (capacity s.fifo) s.rx.count)

-- the state with an entry put into the queue. A full queue sets OE; with FIFO on the new character is lost, in
-- character mode it replaces the old, and its errors are kept apart
unfoldable pub with_entry : State → Entry → State
with_entry s e =
    let c = capacity s.fifo in
    let t = with_rx s (put_entry c s.rx (entering s.fifo e)) in
    let u = with_latches t (with_overrun s.latches (cond (is_full c s.rx.count) 1 s.latches.overrun)) in
    with_kept u (kept_after s.fifo e s.kept)

-- the state with the entry of a character, where one ended
abbrev pub with_ended : State → Option Entry → State
with_ended s None = s
with_ended s (Some e) = with_entry s e

-- the state with what a pulse made of the receiver, and with the entry of a character that ended
unfoldable pub with_received : State → Received → State
with_received s r = with_ended (with_receiver s r.receiver) r.entry

-- the receiver's part of a pulse
unfoldable pub received : State → State
received s = with_received s (receiver_pulse_of s)
