-- A tick keeps a sound state sound.
use Prim.Native.Nat.{ℕ, zero, suc, ◌+◌, ◌-◌, ◌/◌, min, ◌≤◌}
use mathlib.Core.Path.{◌≡◌, refl, ◌∙◌}
use mathlib.Core.Bool.{Bool, true, false, cond, not, ◌&&◌}
use lib.Dec.{leb, ltb, eqb}
use lib.ListN.{get_or, length}
use lib.Seq.{get_or-drop}
use native.Mathlib.Decide.{dec_lt}
use native.Mathlib.Omega.{arith}
use borrow.Author.Tests.{eqb-true, eqb-false, not-true}
use Rattle.std.specs.Prelude.{Option, Some, None, IfSome}
use Rattle.flag.specs.Flag.{on}
use Rattle.flag.proofs.Laws.{by_test, and_left, and_right, and_both}
use Rattle.frame.specs.Format.{format_of, data_bits, parity_bits, frame_length, has_parity, parity_bit}
use Rattle.frame.specs.Frame.{frame_levels, line_level}
use Rattle.frame.proofs.Frames.{frame_length_bounds, level_start, level_data, level-parity, level_stop}
use Rattle.queue.specs.declared.Entry.{Entry}
use Rattle.queue.specs.declared.Errors.{Errors}
use Rattle.queue.specs.Queue.{count_put, is_full, take_byte, put_entry, errors_within, entry_within}
use Rattle.queue.proofs.Contents.{length_put, length-shifted}
use Rattle.device.specs.declared.FifoControl.{FifoControl}
use Rattle.device.specs.declared.Frame.{Frame}
use Rattle.device.specs.declared.State.{State}
use Rattle.device.specs.State.{with_frame, with_tx, with_latches, with_empty, with_timeout, with_idle, with_k}
use Rattle.device.specs.Fifo.{capacity}
use Rattle.device.specs.Modem.{loopback}
use Rattle.device.specs.Lsr.{without_errors, entering, kept_after}
use Rattle.device.specs.Transmitter.{loaded, ready, shifted_out, transmitted}
use Rattle.device.specs.Receiver.{heard, receiver_pulse_of, enters, with_entry, with_ended, with_received, received}
use Rattle.device.specs.Idle.{counts, time_out_at, counted, idled}
use Rattle.device.specs.Tick.{pulsed, ticked}
use Rattle.invariant.proofs.Tests.{bit-most}
use Rattle.invariant.proofs.Good.{FrameFacts, entry_most, kept_most, EmptyFacts, LatchFacts, latches_empty, latches_wait, latches_overrun}
use Rattle.invariant.proofs.Settled.{Sound}
use Rattle.invariant.proofs.Parts.{sound_registers, sound_transmit, sound_receive, sound_frame, sound_receiver, sound_latches, transmit_taken, receive_put, receive_kept, latches_more}
use Rattle.invariant.proofs.Reception.{receiver_pulse_facts}

-- The levels of a line are 0 or 1.

parity_bit-most : (x f : ℕ) → parity_bit x f ≤ 1
unfolding parity_bit
parity_bit-most x f = bit-most (has_parity x f 1)

level-most : (x f i : ℕ) → get_or (frame_levels x f) i 1 ≤ 1
level-most x f i = go (i / 16) refl
  where
    behind : (j : ℕ) → i / 16 ≡ suc j → data_bits f ≤ j → get_or (frame_levels x f) i 1 ≤ 1
    behind j e l =
        elim (dec_lt (i / 16) (1 + data_bits f + parity_bits f)) [
          | yes h ↦ rw (level-parity x f i (omega arith) (omega arith)) (parity_bit-most x f)
          | no h ↦ rw (level_stop x f i (omega arith)) (omega arith)
        ]

    go : (k : ℕ) → i / 16 ≡ k → get_or (frame_levels x f) i 1 ≤ 1
    go zero e = rw (level_start x f i e) (omega arith)
    go (suc j) e =
        elim (dec_lt j (data_bits f)) [
          | yes h ↦ rw (level_data x f i j e h) (omega arith)
          | no h ↦ behind j e (omega arith)
        ]

pub line-most : (l x f : ℕ) → line_level l x f ≤ 1
unfolding line_level
line-most l x f =
    by_test (λ (n : ℕ). n ≤ 1) (eqb l 0) _ _ (λ _. omega arith)
    (λ _. rw (get_or-drop (length (frame_levels x f) - l) (frame_levels x f) 0 1) (level-most x f (length (frame_levels x f) - l + 0)))

-- what the receiver hears is 0 or 1
pub heard-most : (s : State) → Sound s → heard s ≤ 1
unfolding heard
heard-most s w =
    by_test (λ (n : ℕ). n ≤ 1) (loopback s.registers) _ _
    (λ _. line-most s.frame.left s.frame.byte s.frame.format)
    (λ _. w.settings.sin-most)

-- The transmitter.

loaded_sound : (s : State) → Sound s → Sound (loaded s)
unfolding loaded take_byte
loaded_sound s w =
    by_test Sound (eqb s.tx.count 1) _ _ (λ e. taken 1 (omega (arith, eqb-true s.tx.count 1 e))) (λ _. taken s.latches.empty same)
  where
    f : ℕ
    f = format_of s.registers.lcr

    x : Frame
    x = record { left = frame_length f; byte = get_or s.tx.bytes 0 0; format = f }

    framed : Sound (with_frame s x)
    framed = sound_frame w x (omega (arith, frame_length_bounds f))

    -- with the transmit-empty latch e
    taken : (e : ℕ) → EmptyFacts (s.tx.count - 1) e → Sound (with_latches (with_tx (with_frame s x) (take_byte s.tx)) (with_empty s.latches e))
    taken e g =
        sound_transmit framed (take_byte s.tx) x (with_empty s.latches e)
        (length-shifted 0 s.tx.bytes (omega arith) ∙ w.bytes_long)
        (transmit_taken framed.transmit)
        (latches_empty w.latches g)

    same : EmptyFacts (s.tx.count - 1) s.latches.empty
    same = record { empty_most = w.latches.empty.empty_most; empty_none = λ h. omega (arith, w.latches.empty.empty_none h) }

-- L falls
shifted_facts : (x : Frame) → FrameFacts x → FrameFacts (shifted_out x)
unfolding shifted_out
shifted_facts x g = by_test FrameFacts (eqb (x.left - 1) 0) _ _ (λ _. omega arith) (λ e. falls (eqb-false (x.left - 1) 0 e))
  where
    falls : (x.left - 1 ≡ 0 → ⊥) → FrameFacts (record { left = x.left - 1; byte = x.byte; format = x.format })
    falls more =
        record { left_most = omega arith; format_most = g.format_most; byte-none = λ h. absurd (more h); format_none = λ h. absurd (more h) }

pub transmitted_sound : (s : State) → Sound s → Sound (transmitted s)
unfolding transmitted
transmitted_sound s w =
    by_test Sound (eqb (shifted_out s.frame).left 0 && ready s) _ _ (λ _. loaded_sound s w)
    (λ _. sound_frame w _ (shifted_facts s.frame w.transmit.frame))

-- The receiver.

count_more : (c n : ℕ) → n ≤ count_put c n
unfolding count_put
count_more c n = by_test (λ (m : ℕ). n ≤ m) (ltb n c) _ _ (λ _. omega arith) (λ _. omega arith)

-- in character mode an entry has no errors of its own
entering-within : (f : FifoControl) (e : Entry) → entry_within 1 e ≡ true → entry_within (entry_most f) (entering f e) ≡ true
unfolding entering
entering-within f e t = go (on f.enabled)
  where
    go : (b : Bool) → entry_within (cond b 1 0) (cond b e (without_errors e)) ≡ true
    go true = t
    go false = refl

-- a flag that is set or as it was
set-most : (b : Bool) (x : ℕ) → leb x 1 ≡ true → leb (cond b 1 x) 1 ≡ true
set-most true x t = refl
set-most false x t = t

kept-within : (f : FifoControl) (e : Entry) (k : Errors) → errors_within (kept_most f) k ≡ true → errors_within (kept_most f) (kept_after f e k) ≡ true
unfolding kept_after
kept-within f e k = go (on f.enabled)
  where
    after : Errors
    after = record { pe = cond (on e.pe) 1 k.pe; fe = cond (on e.fe) 1 k.fe; bi = cond (on e.bi) 1 k.bi }

    go : (b : Bool) → errors_within (cond b 0 1) k ≡ true → errors_within (cond b 0 1) (cond b k after) ≡ true
    go true t = t
    go false t =
        let t' = and_right (leb k.pe 1) (leb k.fe 1 && leb k.bi 1) t in
        and_both (leb after.pe 1) (leb after.fe 1 && leb after.bi 1)
        (set-most (on e.pe) k.pe (and_left (leb k.pe 1) (leb k.fe 1 && leb k.bi 1) t))
        (and_both (leb after.fe 1) (leb after.bi 1)
        (set-most (on e.fe) k.fe (and_left (leb k.fe 1) (leb k.bi 1) t'))
        (set-most (on e.bi) k.bi (and_right (leb k.fe 1) (leb k.bi 1) t')))

pub entry_sound : (s : State) (e : Entry) → entry_within 1 e ≡ true → Sound s → Sound (with_entry s e)
unfolding with_entry put_entry
entry_sound s e t w =
    sound_receive w (put_entry c s.rx (entering s.fifo e)) s.receiver _ (kept_after s.fifo e s.kept)
    (length_put c n s.rx.entries (entering s.fifo e) ∙ w.entries_long)
    (receive_kept (receive_put w.receive (entering s.fifo e) (entering-within s.fifo e t)) (kept-within s.fifo e s.kept w.receive.errors.kept))
    (latches_overrun (latches_more w.latches (count_more c n)) overrun)
  where
    c : ℕ
    c = capacity s.fifo

    n : ℕ
    n = s.rx.count

    overrun : cond (is_full c n) 1 s.latches.overrun ≤ 1
    overrun = by_test (λ (o : ℕ). o ≤ 1) (is_full c n) _ _ (λ _. omega arith) (λ _. w.latches.overrun_most)

ended_sound : (s : State) (o : Option Entry) → IfSome o (λ e. entry_within 1 e ≡ true) → Sound s → Sound (with_ended s o)
ended_sound s None t w = w
ended_sound s (Some e) t w = entry_sound s e t w

pub received_sound : (s : State) → Sound s → Sound (received s)
unfolding received with_received
received_sound s w =
    let g = receiver_pulse_facts (heard s) s.registers.lcr s.receiver (heard-most s w) w.receive.receiver in
    let kept = sound_receiver w (receiver_pulse_of s).receiver g.receiver in
    ended_sound _ (receiver_pulse_of s).entry g.flags kept

-- The idle count.

pub idled_sound : (new : Bool) (s : State) → Sound s → Sound (idled new s)
unfolding idled counted
idled_sound new s w =
    by_test Sound (counts s.fifo n) _ _
    (λ e. sound_latches w _ (by_test (LatchFacts s.fifo s.tx.count n) new _ _ (λ _. waits e s.latches.timeout 0 w.latches.wait.timeout_most (omega arith)) (λ _. waits e _ _ timeout (omega arith))))
    (λ _. w)
  where
    n : ℕ
    n = s.rx.count

    -- with FIFO on and data waiting
    waits : counts s.fifo n ≡ true → (t i : ℕ) → t ≤ 1 → i ≤ 769 → LatchFacts s.fifo s.tx.count n (with_idle (with_timeout s.latches t) i)
    waits e t i h k =
        let one : s.fifo.enabled ≡ 1 = eqb-true s.fifo.enabled 1 (and_left (on s.fifo.enabled) (not (eqb n 0)) e) in
        let some : n ≡ 0 → ⊥ = eqb-false n 0 (not-true (eqb n 0) (and_right (on s.fifo.enabled) (not (eqb n 0)) e)) in
        latches_wait w.latches (omega arith)

    late : Bool
    late = ltb (time_out_at s.registers.lcr) (min (s.latches.idle + 1) 769)

    timeout : cond late 1 s.latches.timeout ≤ 1
    timeout = by_test (λ (t : ℕ). t ≤ 1) late _ _ (λ _. omega arith) (λ _. w.latches.wait.timeout_most)

-- The pulse and the tick.

pub pulsed_sound : (s : State) → Sound s → Sound (pulsed s)
unfolding pulsed
pulsed_sound s w = idled_sound (enters (transmitted s)) _ (received_sound _ (transmitted_sound s w))

-- k falls by 1, or becomes D
k_falls : (s : State) → Sound s → (s.baud.k - 1 ≡ 0 → ⊥) → Sound (with_k s (s.baud.k - 1))
k_falls s w more = sound_registers w s.registers _ (omega arith)

k_again : (s : State) → Sound s → Sound (with_k s s.baud.divisor)
k_again s w = sound_registers w s.registers _ (omega arith)

pub ticked_sound : (s : State) → Sound s → Sound (ticked s)
unfolding ticked
ticked_sound s w =
    by_test Sound (eqb s.baud.divisor 0) _ _ (λ _. w)
    (λ _. by_test Sound (eqb (s.baud.k - 1) 0) _ _ (λ _. pulsed_sound _ (k_again s w)) (λ e. k_falls s w (eqb-false (s.baud.k - 1) 0 e)))
