-- Every register read and write keeps a sound state sound.
use Prim.Native.Nat.{ℕ, zero, suc, ◌+◌, ◌*◌, ◌≤◌}
use mathlib.Core.Path.{◌≡◌, refl, sym, ◌∙◌}
use mathlib.Core.Bool.{Bool, true, false, cond, not, ◌&&◌, ◌||◌}
use mathlib.Core.List.{List, [], ◌∷◌}
use lib.Dec.{eqb}
use lib.ListN.{get_or, drop, set, length-set}
use native.Mathlib.Omega.{arith}
use borrow.Author.Tests.{eq-eqb, eqb-true}
use Rattle.flag.specs.Flag.{on, bit, bit_of, differ, all_of}
use Rattle.flag.proofs.Laws.{by_test, and_left, and_right, and_both}
use Rattle.queue.specs.declared.EntryQueue.{EntryQueue}
use Rattle.queue.specs.declared.Entry.{Entry}
use Rattle.queue.specs.declared.Errors.{Errors}
use Rattle.queue.specs.Queue.{put_byte, take_entry, no_bytes, no_entry, no_entries, zero_entry, entry_rest, no_errors, errors_within, entry_within, entries_within}
use Rattle.queue.proofs.Contents.{length_put, length-shifted, all_set, no_bytes_long, no_entries_long, no_entries-within}
use Rattle.device.specs.declared.Registers.{Registers}
use Rattle.device.specs.declared.FifoControl.{FifoControl}
use Rattle.device.specs.declared.Inputs.{Inputs}
use Rattle.device.specs.declared.Receiver.{Receiver}
use Rattle.device.specs.declared.Latches.{Latches}
use Rattle.device.specs.declared.Reading.{Reading}
use Rattle.device.specs.declared.State.{State}
use Rattle.device.specs.State.{with_fifo, with_rx, with_latches, with_kept, with_empty, with_divisor}
use Rattle.device.specs.Fifo.{capacity}
use Rattle.device.specs.Modem.{effective_levels, changes_after}
use Rattle.device.specs.Rbr.{restart_idle, rbr_read}
use Rattle.device.specs.Thr.{thr_write}
use Rattle.device.specs.Ier.{ier_write}
use Rattle.device.specs.Iir.{interrupt_code, iir_read}
use Rattle.device.specs.Fcr.{fifo_after, turned, switched, clear_receive, clear_transmit, fcr_write}
use Rattle.device.specs.Lcr.{divisor_access, lcr_write}
use Rattle.device.specs.Mcr.{mcr_write}
use Rattle.device.specs.Lsr.{without_errors, clear_errors, lsr_read}
use Rattle.device.specs.Msr.{with_levels, msr_read}
use Rattle.device.specs.Scr.{scr_write}
use Rattle.device.specs.Divisor.{divisor_low, divisor_high, divisor_low_write, divisor_high_write}
use Rattle.device.specs.Calls.{by_address, read_register, write_register}
use Rattle.invariant.proofs.Tests.{or_neither, not_differ, bit-most, byte_less}
use Rattle.invariant.proofs.Good.{SettingFacts, ErrorFacts, ReceiveFacts, entry_most, kept_most, LatchFacts, latches_empty, latches_overrun, latches-changes}
use Rattle.invariant.proofs.Settled.{Sound}
use Rattle.invariant.proofs.Parts.{sound_registers, sound_written, sound_transmit, sound_receive, sound_settings, sound_latches, transmit_put, transmit-none, none_within, receive_taken, receive_none, latches_restarted}

-- the latches of a sound state
abbrev Latched : State → Latches → Type 0
Latched s l = LatchFacts s.fifo s.tx.count s.rx.count l

-- RBR read, THR write, IER write, IIR read.

taken_sound : (s : State) → Sound s → Sound (with_latches (with_rx s (take_entry s.rx)) (restart_idle s.latches))
unfolding take_entry
taken_sound s w =
    sound_receive w (take_entry s.rx) s.receiver (restart_idle s.latches) s.kept
    (length-shifted no_entry s.rx.entries (omega arith) ∙ w.entries_long)
    (receive_taken w.receive)
    (latches_restarted w.latches)

pub rbr_read_sound : (s : State) → Sound s → Sound (rbr_read s).state
unfolding rbr_read
rbr_read_sound s w = by_test (λ (r : Reading). Sound r.state) (eqb s.rx.count 0) _ _ (λ _. w) (λ _. taken_sound s w)

pub thr_write_sound : (s : State) (b : ℕ) → Sound s → Sound (thr_write s b)
unfolding thr_write put_byte
thr_write_sound s b w =
    sound_transmit w (put_byte (capacity s.fifo) s.tx b) s.frame (with_empty s.latches 0)
    (length_put (capacity s.fifo) s.tx.count s.tx.bytes b ∙ w.bytes_long)
    (transmit_put b w.transmit)
    (latches_empty w.latches (omega arith))

pub ier_write_sound : (s : State) (b : ℕ) → Sound s → Sound (ier_write s b)
unfolding ier_write
ier_write_sound s b w = sound_latches (sound_written w _ (omega arith)) _ (by_test (Latched s) (raised && (bit 1 b && none)) _ _ set (λ _. w.latches))
  where
    raised : Bool
    raised = not (bit 1 s.registers.ier)

    none : Bool
    none = eqb s.tx.count 0

    set : (raised && (bit 1 b && none)) ≡ true → Latched s (with_empty s.latches 1)
    set e =
        let z = eqb-true s.tx.count 0 (and_right (bit 1 b) none (and_right raised (bit 1 b && none) e)) in
        latches_empty w.latches (omega arith)

pub iir_read_sound : (s : State) → Sound s → Sound (iir_read s).state
unfolding iir_read
iir_read_sound s w =
    by_test Sound (eqb (interrupt_code s) 0x02) _ _ (λ _. sound_latches w _ (latches_empty w.latches (omega arith))) (λ _. w)

-- FCR write.

pub clear_receive_sound : (s : State) → Sound s → Sound (clear_receive s)
unfolding clear_receive
clear_receive_sound s w =
    sound_receive w no_entries s.receiver (restart_idle s.latches) s.kept no_entries_long
    (receive_none w.receive.receiver w.receive.errors.kept)
    (latches_restarted w.latches)

pub clear_transmit_sound : (s : State) → Sound s → Sound (clear_transmit s)
unfolding clear_transmit no_bytes
clear_transmit_sound s w =
    sound_transmit w no_bytes s.frame _ no_bytes_long (transmit-none w.transmit.frame)
    (by_test (LatchFacts s.fifo 0 s.rx.count) (eqb s.tx.count 0) _ _
    (λ e. rw (eqb-true s.tx.count 0 e) at w.latches)
    (λ _. latches_empty w.latches (omega arith)))

-- the settings after a write are in range
settings_after : (r : Registers) (f : FifoControl) (i : Inputs) (b : ℕ) → b ≤ 255 → SettingFacts f i → SettingFacts (fifo_after r f b) i
unfolding fifo_after
settings_after r f i b h g =
    by_test (λ (f' : FifoControl). SettingFacts f' i) (bit 0 b) _ _ (λ _. omega (arith, size, bit-most (bit 3 b))) (λ _. omega arith)
  where
    size : cond (bit 7 r.lcr) (bit_of (bit 5 b)) f.size ≤ 1
    size = by_test (λ (n : ℕ). n ≤ 1) (bit 7 r.lcr) _ _ (λ _. bit-most (bit 5 b)) (λ _. g.size-most)

-- where FIFO on/off stays, so do the ranges of the errors
module _ (f g : FifoControl) (e : turned f g ≡ false) where
  on_same : on f.enabled ≡ on g.enabled
  unfolding turned
  on_same = not_differ (on f.enabled) (on g.enabled) e

  errors_same : (q : EntryQueue) (k : Errors) → ErrorFacts f q k → ErrorFacts g q k
  errors_same q k h = record { entries = rw (← on_same) h.entries; kept = rw (← on_same) h.kept }

-- where the size stays too, the capacity does
module _ (f g : FifoControl) (e : switched f g ≡ false) where
  neither : (turned f g ≡ false) × (differ (on f.size) (on g.size) ≡ false)
  unfolding switched
  neither = or_neither (turned f g) (differ (on f.size) (on g.size)) e

  capacity-same : capacity f ≡ capacity g
  unfolding capacity
  capacity-same = rw (on_same f g neither.0, not_differ (on f.size) (on g.size) neither.1)

-- the kept errors after a write of FCR
abbrev kept_then : FifoControl → FifoControl → Errors → Errors
kept_then f g k = cond (turned f g) no_errors k

-- and their ranges, with no entry queued
kept_then_lem : (f g : FifoControl) (q : EntryQueue) (k : Errors) → ErrorFacts f q k → errors_within (kept_most g) (kept_then f g k) ≡ true
kept_then_lem f g q k h =
    by_test (λ (x : Errors). errors_within (kept_most g) x ≡ true) (turned f g) _ _
    (λ _. none_within (kept_most g))
    (λ e. (errors_same f g e q k h).kept)

pub fcr_write_sound : (s : State) (b : ℕ) → b ≤ 255 → Sound s → Sound (fcr_write s b)
unfolding fcr_write clear_receive clear_transmit no_bytes no_entries
fcr_write_sound s b h w = go (switched s.fifo g) refl
  where
    g : FifoControl
    g = fifo_after s.registers s.fifo b

    k : Errors
    k = kept_then s.fifo g s.kept

    set : State
    set = with_kept (with_fifo s g) k

    facts : SettingFacts g s.inputs
    facts = settings_after s.registers s.fifo s.inputs b h w.settings

    kept : errors_within (kept_most g) k ≡ true
    kept = kept_then_lem s.fifo g s.rx s.kept w.receive.errors

    -- the settings where neither FIFO on/off nor the size changes
    same : switched s.fifo g ≡ false → Sound set
    same e =
        let c = capacity-same s.fifo g e in
        let t = (neither s.fifo g e).0 in
        sound_settings w g s.inputs k facts (rw (← c) w.transmit.count_most) (rw (← c) w.receive.count_most)
        (record { entries = (errors_same s.fifo g t s.rx s.kept w.receive.errors).entries; kept = kept })
        (λ _ one. eqb-true g.enabled 1 (sym (on_same s.fifo g t) ∙ eq-eqb s.fifo.enabled 1 one))

    -- the receive queue cleared where bit 1 says so, or both change
    first : Bool → State
    first both = cond (both || (bit 0 b && bit 1 b)) (clear_receive set) set

    first_sound : switched s.fifo g ≡ false → Sound (first false)
    first_sound e = by_test Sound (bit 0 b && bit 1 b) _ _ (λ _. clear_receive_sound _ (same e)) (λ _. same e)

    go : (both : Bool) → switched s.fifo g ≡ both → Sound (cond (both || (bit 0 b && bit 2 b)) (clear_transmit (first both)) (first both))
    go true e =
        let cleared = clear_transmit_sound (clear_receive s) (clear_receive_sound s w) in
        sound_settings cleared g s.inputs k facts (omega arith) (omega arith)
        (record { entries = no_entries-within (entry_most g); kept = kept })
        (λ n. absurd (omega arith))
    go false e = by_test Sound (bit 0 b && bit 2 b) _ _ (λ _. clear_transmit_sound _ (first_sound e)) (λ _. first_sound e)

-- LCR, SCR and MCR write.

pub lcr_write_sound : (s : State) (b : ℕ) → b ≤ 255 → Sound s → Sound (lcr_write s b)
unfolding lcr_write
lcr_write_sound s b h w = sound_written w _ (omega arith)

pub scr_write_sound : (s : State) (b : ℕ) → b ≤ 255 → Sound s → Sound (scr_write s b)
unfolding scr_write
scr_write_sound s b h w = sound_written w _ (omega arith)

-- the change bits are four
changes_after-most : (c a b : ℕ) → changes_after c a b ≤ 15
unfolding changes_after
changes_after-most c a b =
    omega (
      arith,
      byte_less
          ((bit 0 c || differ (bit 0 a) (bit 0 b))
          ∷ (bit 1 c || differ (bit 1 a) (bit 1 b))
          ∷ (bit 2 c || (bit 2 a && not (bit 2 b)))
          ∷ (bit 3 c || differ (bit 3 a) (bit 3 b))
          ∷ []),
    )

-- the changes of the effective levels between s and t
pub levels_sound : (s t : State) → Sound t → Sound (with_levels s t)
unfolding with_levels
levels_sound s t w =
    sound_latches w _
    (latches-changes w.latches
    (changes_after-most t.latches.changes (effective_levels s.registers s.inputs) (effective_levels t.registers t.inputs)))

pub mcr_write_sound : (s : State) (b : ℕ) → Sound s → Sound (mcr_write s b)
unfolding mcr_write
mcr_write_sound s b w = levels_sound s _ (sound_written w _ (omega arith))

-- LSR and MSR read.

-- the oldest entry without its errors, where none is queued, is zero still
rest_cleared : (n : ℕ) (xs : List Entry) → all_of zero_entry (drop n xs) ≡ true → all_of zero_entry (drop n (set xs 0 (without_errors (get_or xs 0 no_entry)))) ≡ true
rest_cleared n [] e = e
rest_cleared zero (x ∷ xs) e =
    let byte = and_left (eqb x.byte 0) _ (and_left (zero_entry x) (all_of zero_entry xs) e) in
    and_both (eqb x.byte 0 && true) (all_of zero_entry xs) (and_both (eqb x.byte 0) true byte refl) (and_right (zero_entry x) (all_of zero_entry xs) e)
rest_cleared (suc n) (x ∷ xs) e = e

errors_cleared : {f : FifoControl} {q : EntryQueue} {v : Receiver} {k : Errors} → ReceiveFacts f q v k → ReceiveFacts f (clear_errors q) v no_errors
unfolding clear_errors entry_rest entries_within
errors_cleared {f = f} {q = q} g =
    record {
      count_most = g.count_most;
      rest = rest_cleared q.count q.entries g.rest;
      errors =
          record {
            entries = all_set (entry_within (entry_most f)) q.entries 0 (without_errors (get_or q.entries 0 no_entry)) g.errors.entries (none_within (entry_most f));
            kept = none_within (kept_most f);
          };
      receiver = g.receiver;
    }

pub lsr_read_sound : (s : State) → Sound s → Sound (lsr_read s).state
unfolding lsr_read clear_errors
lsr_read_sound s w =
    sound_receive w (clear_errors s.rx) s.receiver _ no_errors
    (length-set s.rx.entries 0 _ ∙ w.entries_long)
    (errors_cleared w.receive)
    (latches_overrun w.latches (omega arith))

pub msr_read_sound : (s : State) → Sound s → Sound (msr_read s).state
unfolding msr_read
msr_read_sound s w = sound_latches w _ (latches-changes w.latches (omega arith))

-- The divisor: k = the new D.

divisor_sound : (s : State) (d : ℕ) → d ≤ 65535 → Sound s → Sound (with_divisor s d)
divisor_sound s d h w = sound_registers w s.registers _ (omega arith)

pub divisor_low_sound : (s : State) (b : ℕ) → b ≤ 255 → Sound s → Sound (divisor_low_write s b)
unfolding divisor_low_write
divisor_low_sound s b h w = divisor_sound s (256 * divisor_high s + b) (omega arith) w

pub divisor_high_sound : (s : State) (b : ℕ) → b ≤ 255 → Sound s → Sound (divisor_high_write s b)
unfolding divisor_high_write
divisor_high_sound s b h w = divisor_sound s (256 * b + divisor_low s) (omega arith) w

-- By address.

-- a claim about what the address picks, from the claim about each of the eight
pub by_address_lem : {A : Type 0} (P : A → Type 0) (a : ℕ) (r0 r1 r2 r3 r4 r5 r6 r7 : A)
    → (eqb a 0 ≡ true → P r0) → P r1 → (eqb a 0 ≡ false → eqb a 2 ≡ true → P r2) → P r3 → P r4 → P r5 → P r6 → P r7
    → P (by_address a r0 r1 r2 r3 r4 r5 r6 r7)
by_address_lem P a r0 r1 r2 r3 r4 r5 r6 r7 p0 p1 p2 p3 p4 p5 p6 p7 =
    by_test P (eqb a 0) _ _ p0
    (λ e.
    by_test P (eqb a 1) _ _ (λ _. p1)
    (λ _.
    by_test P (eqb a 2) _ _ (p2 e)
    (λ _.
    by_test P (eqb a 3) _ _ (λ _. p3)
    (λ _.
    by_test P (eqb a 4) _ _ (λ _. p4)
    (λ _. by_test P (eqb a 5) _ _ (λ _. p5) (λ _. by_test P (eqb a 6) _ _ (λ _. p6) (λ _. p7)))))))

pub read_sound : (s : State) (a : ℕ) → Sound s → Sound (read_register s a).state
unfolding read_register
read_sound s a w =
    by_address_lem (λ (r : Reading). Sound r.state) a _ _ _ _ _ _ _ _
    (λ _. by_test (λ (r : Reading). Sound r.state) (divisor_access s.registers) _ _ (λ _. w) (λ _. rbr_read_sound s w))
    w
    (λ _ _. iir_read_sound s w)
    w
    w
    (lsr_read_sound s w)
    (msr_read_sound s w)
    w

pub write_sound : (s : State) (a b : ℕ) → b ≤ 255 → Sound s → Sound (write_register s a b)
unfolding write_register
write_sound s a b h w =
    by_address_lem Sound a _ _ _ _ _ _ _ _
    (λ _. by_test Sound (divisor_access s.registers) _ _ (λ _. divisor_low_sound s b h w) (λ _. thr_write_sound s b w))
    (by_test Sound (divisor_access s.registers) _ _ (λ _. divisor_high_sound s b h w) (λ _. ier_write_sound s b w))
    (λ _ _. fcr_write_sound s b h w)
    (lcr_write_sound s b h w)
    (mcr_write_sound s b w)
    w
    w
    (scr_write_sound s b h w)
