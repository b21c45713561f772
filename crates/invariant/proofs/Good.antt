-- What the ranges of a well-formed state say, as plain facts: a record for each part's ranges, and laws both ways.
use Prim.Native.Nat.{ℕ, ◌-◌, ◌/◌, ◌%◌, ◌^◌, min, ◌≤◌, ◌<◌}
use mathlib.Core.Path.{◌≡◌}
use mathlib.Core.Bool.{Bool, true, false, cond, not, ◌&&◌, ◌||◌}
use lib.Dec.{leb, ltb, eqb}
use lib.ListN.{length}
use native.Mathlib.Omega.{arith}
use borrow.Author.Tests.{lt-ltb, le-leb, eq-eqb, ne_eqb, leb-true, ltb-true, eqb-true, eqb-false, not-true}
use Rattle.flag.specs.Flag.{every, implies, on, bit}
use Rattle.flag.proofs.Laws.{each_of, of_each, and_left, and_right, and_both, by_test}
use Rattle.frame.specs.Format.{data_bits, parity_bits, frame_length}
use Rattle.frame.proofs.Frames.{frame_length_bounds}
use Rattle.queue.specs.declared.ByteQueue.{ByteQueue}
use Rattle.queue.specs.declared.EntryQueue.{EntryQueue}
use Rattle.queue.specs.declared.Errors.{Errors}
use Rattle.queue.specs.Queue.{byte_rest, entry_rest, errors_within, entries_within}
use Rattle.device.specs.declared.Registers.{Registers}
use Rattle.device.specs.declared.Baud.{Baud}
use Rattle.device.specs.declared.FifoControl.{FifoControl}
use Rattle.device.specs.declared.Inputs.{Inputs}
use Rattle.device.specs.declared.Frame.{Frame}
use Rattle.device.specs.declared.Receiver.{Receiver}
use Rattle.device.specs.declared.Latches.{Latches}
use Rattle.device.specs.declared.State.{State}
use Rattle.device.specs.State.{with_empty, with_overrun, with_timeout, with_changes, with_hold, with_idle}
use Rattle.device.specs.Fifo.{capacity, by_code, trigger_level}
use Rattle.device.specs.Autoflow.{autoflow, auto_rts}
use Rattle.device.specs.Receiver.{stop_position, samples_taken}
use Rattle.device.specs.Ranges.{register_ranges, setting_ranges, transmit_ranges, character_ranges, outside_ranges, receive_ranges, latch_ranges, parts, well_formed}
use Rattle.invariant.proofs.Tests.{end, ◌&◌, all_hold, implies-holds, holds-implies, picked_yes, picked_no, or_left, or_right, or_either, false_not}

-- bit 0 of x is clear where x is even
even_of : (x : ℕ) → not (bit 0 x) ≡ true → x % 2 ≡ 0
even_of x e = omega (arith, eqb-false (x / 2 ^ 0 % 2) 1 (not-true (bit 0 x) e))

of_even : (x : ℕ) → x % 2 ≡ 0 → not (bit 0 x) ≡ true
of_even x h = false_not (bit 0 x) (ne_eqb (x / 2 ^ 0 % 2) 1 (omega arith))

-- Part 1: registers, divisor and k.

pub record RegisterFacts (r : Registers) (b : Baud) : Type 0 where
  pub ier_most : r.ier ≤ 63
  pub mcr_most : r.mcr ≤ 63
  pub lcr_most : r.lcr ≤ 255
  pub scr_most : r.scr ≤ 255
  pub divisor-most : b.divisor ≤ 65535
  pub k_most : b.k ≤ b.divisor
  pub k_least : 1 ≤ b.divisor → 1 ≤ b.k

k_of : (d k : ℕ) → cond (eqb d 0) (eqb k 0) (leb 1 k && leb k d) ≡ true → (k ≤ d) × (1 ≤ d → 1 ≤ k)
k_of d k =
    by_test (λ (t : Bool). t ≡ true → (k ≤ d) × (1 ≤ d → 1 ≤ k)) (eqb d 0) _ _
    (λ e h. omega (arith, eqb-true))
    (λ e h. omega (arith, leb-true 1 k (and_left (leb 1 k) (leb k d) h), leb-true k d (and_right (leb 1 k) (leb k d) h)))

of_k : (d k : ℕ) → k ≤ d → (1 ≤ d → 1 ≤ k) → cond (eqb d 0) (eqb k 0) (leb 1 k && leb k d) ≡ true
of_k d k h least =
    by_test (λ (t : Bool). t ≡ true) (eqb d 0) _ _
    (λ e. omega (arith, eqb-true, eq-eqb))
    (λ e. and_both (leb 1 k) (leb k d) (le-leb 1 k (least (omega (arith, eqb-false d 0 e)))) (le-leb k d h))

pub registers_of_lem : (r : Registers) (b : Baud) → every (register_ranges r b) ≡ true → RegisterFacts r b
registers_of_lem r b w =
    let e = each_of (register_ranges r b) w in
    let k = k_of b.divisor b.k e.1.1.1.1.1.0 in
    record {
      ier_most = omega (arith, leb-true);
      mcr_most = omega (arith, leb-true);
      lcr_most = omega (arith, leb-true);
      scr_most = omega (arith, leb-true);
      divisor-most = omega (arith, leb-true);
      k_most = k.0;
      k_least = k.1;
    }

pub of_registers : (r : Registers) (b : Baud) → RegisterFacts r b → every (register_ranges r b) ≡ true
of_registers r b g =
    all_hold
    (le-leb r.ier 63 g.ier_most
    & le-leb r.mcr 63 g.mcr_most
    & le-leb r.lcr 255 g.lcr_most
    & le-leb r.scr 255 g.scr_most
    & le-leb b.divisor 65535 g.divisor-most
    & of_k b.divisor b.k g.k_most g.k_least
    & end)

-- Part 2: FIFO settings and pins.

pub record SettingFacts (f : FifoControl) (i : Inputs) : Type 0 where
  pub enabled_most : f.enabled ≤ 1
  pub size-most : f.size ≤ 1
  pub dma_most : f.dma ≤ 1
  pub trigger_most : f.trigger ≤ 3
  pub modem-most : i.modem ≤ 15
  pub sin-most : i.sin ≤ 1

pub settings_of : (f : FifoControl) (i : Inputs) → every (setting_ranges f i) ≡ true → SettingFacts f i
settings_of f i w =
    let e = each_of (setting_ranges f i) w in
    omega (arith, leb-true)

pub of_settings : (f : FifoControl) (i : Inputs) → SettingFacts f i → every (setting_ranges f i) ≡ true
of_settings f i g = of_each (setting_ranges f i) (omega (arith, le-leb))

-- Part 3: transmit queue and frame.

pub record FrameFacts (x : Frame) : Type 0 where
  pub left_most : x.left ≤ frame_length x.format
  pub format_most : x.format ≤ 63
  pub byte-none : x.left ≡ 0 → x.byte ≡ 0
  pub format_none : x.left ≡ 0 → x.format ≡ 0

pub record TransmitFacts (f : FifoControl) (q : ByteQueue) (x : Frame) : Type 0 where
  pub count_most : q.count ≤ capacity f
  pub rest : byte_rest q ≡ true
  pub frame : FrameFacts x

-- L is 0..192
pub left_short : (x : Frame) → FrameFacts x → x.left ≤ 192
left_short x g = omega (arith, frame_length_bounds x.format)

-- all zero if L = 0
none_of : (l b f : ℕ) → implies (eqb l 0) (eqb b 0 && eqb f 0) ≡ true → l ≡ 0 → (b ≡ 0) × (f ≡ 0)
none_of l b f e h =
    let z = implies-holds (eqb l 0) (eqb b 0 && eqb f 0) e (eq-eqb l 0 h) in
    (eqb-true b 0 (and_left (eqb b 0) (eqb f 0) z), eqb-true f 0 (and_right (eqb b 0) (eqb f 0) z))

of_none : (l b f : ℕ) → (l ≡ 0 → b ≡ 0) → (l ≡ 0 → f ≡ 0) → implies (eqb l 0) (eqb b 0 && eqb f 0) ≡ true
of_none l b f y z =
    holds-implies (eqb l 0) (eqb b 0 && eqb f 0)
    (λ e. and_both (eqb b 0) (eqb f 0) (eq-eqb b 0 (y (eqb-true l 0 e))) (eq-eqb f 0 (z (eqb-true l 0 e))))

pub transmit_of_lem : (f : FifoControl) (q : ByteQueue) (x : Frame) → every (transmit_ranges f q x) ≡ true → TransmitFacts f q x
transmit_of_lem f q x w =
    let e = each_of (transmit_ranges f q x) w in
    let none = none_of x.left x.byte x.format e.1.1.1.1.1.0 in
    record {
      count_most = leb-true q.count (capacity f) e.0;
      rest = e.1.0;
      frame =
          record {
            left_most = leb-true x.left (frame_length x.format) e.1.1.1.1.0;
            format_most = leb-true x.format 63 e.1.1.1.0;
            byte-none = λ h. (none h).0;
            format_none = λ h. (none h).1;
          };
    }

pub of_transmit : (f : FifoControl) (q : ByteQueue) (x : Frame) → TransmitFacts f q x → every (transmit_ranges f q x) ≡ true
of_transmit f q x g =
    let y = g.frame in
    all_hold
    (le-leb q.count (capacity f) g.count_most
    & g.rest
    & le-leb x.left 192 (left_short x y)
    & le-leb x.format 63 y.format_most
    & le-leb x.left (frame_length x.format) y.left_most
    & of_none x.left x.byte x.format y.byte-none y.format_none
    & end)

-- Part 4: receive queue and receiver.

-- in a character at position P: P is below the stop position; data and parity not yet sampled are zero
pub record CharacterFacts (v : Receiver) : Type 0 where
  pub format_most : v.format ≤ 63
  pub position_less : v.position < stop_position v.format
  pub samples_less : v.samples < 2 ^ min (data_bits v.format) (samples_taken v.position)
  pub parity-most : v.parity ≤ min (parity_bits v.format) (samples_taken v.position - data_bits v.format)

pub record OutsideFacts (v : Receiver) : Type 0 where
  pub format_none : v.format ≡ 0
  pub position_none : v.position ≡ 0
  pub samples-none : v.samples ≡ 0
  pub parity-none : v.parity ≡ 0

pub record ReceiverFacts (v : Receiver) : Type 0 where
  pub phase_most : v.phase ≤ 2
  pub character : v.phase ≡ 2 → CharacterFacts v
  pub outside : (v.phase ≡ 2 → ⊥) → OutsideFacts v

-- the highest value of an error flag, of an entry and of the kept ones
abbrev pub entry_most : FifoControl → ℕ
entry_most f = cond (on f.enabled) 1 0

abbrev pub kept_most : FifoControl → ℕ
kept_most f = cond (on f.enabled) 0 1

pub record ErrorFacts (f : FifoControl) (q : EntryQueue) (k : Errors) : Type 0 where
  pub entries : entries_within (entry_most f) q ≡ true
  pub kept : errors_within (kept_most f) k ≡ true

pub record ReceiveFacts (f : FifoControl) (q : EntryQueue) (v : Receiver) (k : Errors) : Type 0 where
  pub count_most : q.count ≤ capacity f
  pub rest : entry_rest q ≡ true
  pub errors : ErrorFacts f q k
  pub receiver : ReceiverFacts v

character_of_lem : (v : Receiver) → every (character_ranges v) ≡ true → CharacterFacts v
character_of_lem v w =
    let e = each_of (character_ranges v) w in
    omega (arith, leb-true, ltb-true)

of_character : (v : Receiver) → CharacterFacts v → every (character_ranges v) ≡ true
of_character v g = of_each (character_ranges v) (omega (arith, le-leb, lt-ltb))

outside_of : (v : Receiver) → every (outside_ranges v) ≡ true → OutsideFacts v
outside_of v w =
    let e = each_of (outside_ranges v) w in
    omega (arith, eqb-true)

of_outside : (v : Receiver) → OutsideFacts v → every (outside_ranges v) ≡ true
of_outside v g = of_each (outside_ranges v) (omega (arith, eq-eqb))

pub receive_of_lem : (f : FifoControl) (q : EntryQueue) (v : Receiver) (k : Errors) → every (receive_ranges f q v k) ≡ true → ReceiveFacts f q v k
receive_of_lem f q v k w =
    let e = each_of (receive_ranges f q v k) w in
    let e' = e.1.1.1.1 in
    record {
      count_most = leb-true q.count (capacity f) e.0;
      rest = e.1.0;
      errors = record { entries = e.1.1.0; kept = e.1.1.1.0 };
      receiver =
          record {
            phase_most = leb-true v.phase 2 e'.0;
            character = λ h. character_of_lem v (picked_yes (eqb v.phase 2) _ _ e'.1.0 (eq-eqb v.phase 2 h));
            outside = λ h. outside_of v (picked_no (eqb v.phase 2) _ _ e'.1.0 (ne_eqb v.phase 2 h));
          };
    }

pub of_receive : (f : FifoControl) (q : EntryQueue) (v : Receiver) (k : Errors) → ReceiveFacts f q v k → every (receive_ranges f q v k) ≡ true
of_receive f q v k g =
    all_hold
    (le-leb q.count (capacity f) g.count_most
    & g.rest
    & g.errors.entries
    & g.errors.kept
    & le-leb v.phase 2 g.receiver.phase_most
    & picked
    & end)
  where
    picked : cond (eqb v.phase 2) (every (character_ranges v)) (every (outside_ranges v)) ≡ true
    picked =
        by_test (λ (t : Bool). t ≡ true) (eqb v.phase 2) _ _
        (λ e. of_character v (g.receiver.character (eqb-true v.phase 2 e)))
        (λ e. of_outside v (g.receiver.outside (eqb-false v.phase 2 e)))

-- Part 5: latches, idle count, change bits, hold; m bytes are queued to transmit, n received.

-- the transmit-empty latch e: only with an empty queue
pub record EmptyFacts (m e : ℕ) : Type 0 where
  pub empty_most : e ≤ 1
  pub empty_none : e ≡ 1 → m ≡ 0

-- the time-out latch t: only with FIFO on and data waiting; the idle count i: 0 without
pub record WaitFacts (f : FifoControl) (n t i : ℕ) : Type 0 where
  pub timeout_most : t ≤ 1
  pub timeout_on : t ≡ 1 → f.enabled ≡ 1
  pub timeout_waiting : t ≡ 1 → 0 < n
  pub idle_most : i ≤ 769
  pub idle_off : (f.enabled ≡ 1 → ⊥) → i ≡ 0
  pub idle_none : n ≡ 0 → i ≡ 0

pub record LatchFacts (f : FifoControl) (m n : ℕ) (l : Latches) : Type 0 where
  pub empty : EmptyFacts m l.empty
  pub wait : WaitFacts f n l.timeout l.idle
  pub overrun_most : l.overrun ≤ 1
  pub changes-most : l.changes ≤ 15
  pub hold_most : l.hold ≤ 1

-- A latch put in place of another that keeps its facts; the transmit-empty latch with m' bytes queued, the time-out latch
-- and the idle count with other settings and another number of characters received.

module _ {f : FifoControl} {m n : ℕ} {l : Latches} (g : LatchFacts f m n l) where
  pub latches_empty : {m' e : ℕ} → EmptyFacts m' e → LatchFacts f m' n (with_empty l e)
  latches_empty h =
      record { empty = h; wait = g.wait; overrun_most = g.overrun_most; changes-most = g.changes-most; hold_most = g.hold_most }

  pub latches_wait : {f' : FifoControl} {n' t i : ℕ} → WaitFacts f' n' t i → LatchFacts f' m n' (with_idle (with_timeout l t) i)
  latches_wait h =
      record { empty = g.empty; wait = h; overrun_most = g.overrun_most; changes-most = g.changes-most; hold_most = g.hold_most }

  pub latches_overrun : {o : ℕ} → o ≤ 1 → LatchFacts f m n (with_overrun l o)
  latches_overrun h =
      record { empty = g.empty; wait = g.wait; overrun_most = h; changes-most = g.changes-most; hold_most = g.hold_most }

  pub latches-changes : {c : ℕ} → c ≤ 15 → LatchFacts f m n (with_changes l c)
  latches-changes h =
      record { empty = g.empty; wait = g.wait; overrun_most = g.overrun_most; changes-most = h; hold_most = g.hold_most }

  pub latches_hold : {o : ℕ} → o ≤ 1 → LatchFacts f m n (with_hold l o)
  latches_hold h =
      record { empty = g.empty; wait = g.wait; overrun_most = g.overrun_most; changes-most = g.changes-most; hold_most = h }

-- the rules that end every step: the CTS change bit is 0 with autoflow on; hold is 0 without auto-RTS, with it 1 at or
-- above the trigger, 0 when no data is waiting
pub record FlowFacts (r : Registers) (f : FifoControl) (n : ℕ) (l : Latches) : Type 0 where
  pub cts_none : autoflow r f ≡ true → l.changes % 2 ≡ 0
  pub hold_off : auto_rts r f ≡ false → l.hold ≡ 0
  pub hold_on : auto_rts r f ≡ true → trigger_level f ≤ n → l.hold ≡ 1
  pub hold_none : n ≡ 0 → l.hold ≡ 0

empty_of : (m e : ℕ) → leb e 1 ≡ true → implies (on e) (eqb m 0) ≡ true → EmptyFacts m e
empty_of m e p q =
    record { empty_most = leb-true e 1 p; empty_none = λ h. eqb-true m 0 (implies-holds (on e) (eqb m 0) q (eq-eqb e 1 h)) }

of_empty : (m e : ℕ) → EmptyFacts m e → implies (on e) (eqb m 0) ≡ true
of_empty m e g = holds-implies (on e) (eqb m 0) (λ h. eq-eqb m 0 (g.empty_none (eqb-true e 1 h)))

-- the two rules as tested
abbrev timeout_rule : FifoControl → ℕ → ℕ → Bool
timeout_rule f n t = implies (on t) (on f.enabled && ltb 0 n)

abbrev idle_rule : FifoControl → ℕ → ℕ → Bool
idle_rule f n i = implies (not (on f.enabled) || eqb n 0) (eqb i 0)

wait_of : (f : FifoControl) (n t i : ℕ) → leb t 1 ≡ true → timeout_rule f n t ≡ true → leb i 769 ≡ true → idle_rule f n i ≡ true → WaitFacts f n t i
wait_of f n t i p q p' q' =
    record {
      timeout_most = leb-true t 1 p;
      timeout_on = λ h. eqb-true f.enabled 1 (and_left (on f.enabled) (ltb 0 n) (waits h));
      timeout_waiting = λ h. ltb-true 0 n (and_right (on f.enabled) (ltb 0 n) (waits h));
      idle_most = leb-true i 769 p';
      idle_off = λ h. rests (or_left (not (on f.enabled)) (eqb n 0) (false_not (on f.enabled) (ne_eqb f.enabled 1 h)));
      idle_none = λ h. rests (or_right (not (on f.enabled)) (eqb n 0) (eq-eqb n 0 h));
    }
  where
    waits : t ≡ 1 → (on f.enabled && ltb 0 n) ≡ true
    waits h = implies-holds (on t) (on f.enabled && ltb 0 n) q (eq-eqb t 1 h)

    rests : (not (on f.enabled) || eqb n 0) ≡ true → i ≡ 0
    rests h = eqb-true i 0 (implies-holds (not (on f.enabled) || eqb n 0) (eqb i 0) q' h)

of_timeout : (f : FifoControl) (n t i : ℕ) → WaitFacts f n t i → timeout_rule f n t ≡ true
of_timeout f n t i g =
    holds-implies (on t) (on f.enabled && ltb 0 n)
    (λ e. and_both (on f.enabled) (ltb 0 n) (eq-eqb f.enabled 1 (g.timeout_on (eqb-true t 1 e))) (lt-ltb 0 n (g.timeout_waiting (eqb-true t 1 e))))

of_idle : (f : FifoControl) (n t i : ℕ) → WaitFacts f n t i → idle_rule f n i ≡ true
of_idle f n t i g = holds-implies (not (on f.enabled) || eqb n 0) (eqb i 0) (λ e. eq-eqb i 0 (or_either (not (on f.enabled)) (eqb n 0) e off none))
  where
    off : not (on f.enabled) ≡ true → i ≡ 0
    off a = g.idle_off (eqb-false f.enabled 1 (not-true (on f.enabled) a))

    none : eqb n 0 ≡ true → i ≡ 0
    none a = g.idle_none (eqb-true n 0 a)

pub latches_of_lem : (r : Registers) (f : FifoControl) (m n : ℕ) (l : Latches) → every (latch_ranges r f m n l) ≡ true → LatchFacts f m n l
latches_of_lem r f m n l w =
    let e = each_of (latch_ranges r f m n l) w in
    let e' = e.1.1.1.1.1.1.1 in
    record {
      empty = empty_of m l.empty e.0 e.1.0;
      wait = wait_of f n l.timeout l.idle e.1.1.1.0 e.1.1.1.1.0 e.1.1.1.1.1.0 e.1.1.1.1.1.1.0;
      overrun_most = leb-true l.overrun 1 e.1.1.0;
      changes-most = leb-true l.changes 15 e'.0;
      hold_most = leb-true l.hold 1 e'.1.1.0;
    }

pub flow_of : (r : Registers) (f : FifoControl) (m n : ℕ) (l : Latches) → every (latch_ranges r f m n l) ≡ true → FlowFacts r f n l
flow_of r f m n l w =
    let e = (each_of (latch_ranges r f m n l) w).1.1.1.1.1.1.1.1 in
    let on = auto_rts r f && leb (trigger_level f) n in
    record {
      cts_none = λ h. even_of l.changes (implies-holds (autoflow r f) _ e.0 h);
      hold_off = λ h. eqb-true l.hold 0 (implies-holds (not (auto_rts r f)) _ e.1.1.0 (false_not (auto_rts r f) h));
      hold_on = λ h k. eqb-true l.hold 1 (implies-holds on _ e.1.1.1.0 (and_both (auto_rts r f) _ h (le-leb (trigger_level f) n k)));
      hold_none = λ h. eqb-true l.hold 0 (implies-holds (eqb n 0) _ e.1.1.1.1.0 (eq-eqb n 0 h));
    }

pub of_latches : (r : Registers) (f : FifoControl) (m n : ℕ) (l : Latches) → LatchFacts f m n l → FlowFacts r f n l → every (latch_ranges r f m n l) ≡ true
of_latches r f m n l g h =
    all_hold
    (le-leb l.empty 1 g.empty.empty_most
    & of_empty m l.empty g.empty
    & le-leb l.overrun 1 g.overrun_most
    & le-leb l.timeout 1 g.wait.timeout_most
    & of_timeout f n l.timeout l.idle g.wait
    & le-leb l.idle 769 g.wait.idle_most
    & of_idle f n l.timeout l.idle g.wait
    & le-leb l.changes 15 g.changes-most
    & holds-implies (autoflow r f) _ (λ e. of_even l.changes (h.cts_none e))
    & le-leb l.hold 1 g.hold_most
    & holds-implies (not (auto_rts r f)) _ (λ e. eq-eqb l.hold 0 (h.hold_off (not-true (auto_rts r f) e)))
    & holds-implies (auto_rts r f && full) _ (λ e. eq-eqb l.hold 1 (h.hold_on (and_left (auto_rts r f) full e) (at (and_right (auto_rts r f) full e))))
    & holds-implies (eqb n 0) _ (λ e. eq-eqb l.hold 0 (h.hold_none (eqb-true n 0 e)))
    & end)
  where
    full : Bool
    full = leb (trigger_level f) n

    at : full ≡ true → trigger_level f ≤ n
    at = leb-true (trigger_level f) n

-- The whole state.

pub record Good (s : State) : Type 0 where
  pub registers : RegisterFacts s.registers s.baud
  pub settings : SettingFacts s.fifo s.inputs
  pub transmit : TransmitFacts s.fifo s.tx s.frame
  pub receive : ReceiveFacts s.fifo s.rx s.receiver s.kept
  pub latches : LatchFacts s.fifo s.tx.count s.rx.count s.latches
  pub flow : FlowFacts s.registers s.fifo s.rx.count s.latches

pub good_of : (s : State) → well_formed s ≡ true → Good s
unfolding well_formed
good_of s w =
    let e = each_of (parts s) w in
    record {
      registers = registers_of_lem _ _ e.0;
      settings = settings_of _ _ e.1.0;
      transmit = transmit_of_lem _ _ _ e.1.1.0;
      receive = receive_of_lem _ _ _ _ e.1.1.1.0;
      latches = latches_of_lem s.registers _ _ _ _ e.1.1.1.1.0;
      flow = flow_of _ _ s.tx.count _ _ e.1.1.1.1.0;
    }

pub of_good : (s : State) → Good s → well_formed s ≡ true
unfolding well_formed
of_good s g =
    all_hold
    (of_registers s.registers s.baud g.registers
    & of_settings s.fifo s.inputs g.settings
    & of_transmit s.fifo s.tx s.frame g.transmit
    & of_receive s.fifo s.rx s.receiver s.kept g.receive
    & of_latches s.registers s.fifo s.tx.count s.rx.count s.latches g.latches g.flow
    & end)

-- The two arrays have 64 places: what the types of the code say, and the records don't.
pub record Places (s : State) : Type 0 where
  pub bytes_long : length s.tx.bytes ≡ 64
  pub entries_long : length s.rx.entries ≡ 64

-- The capacity and the trigger level.

pub capacity_bounds : (f : FifoControl) → (1 ≤ capacity f) × (capacity f ≤ 64)
unfolding capacity
capacity_bounds f =
    by_test (λ (n : ℕ). (1 ≤ n) × (n ≤ 64)) (on f.enabled) _ _
    (λ _. by_test (λ (n : ℕ). (1 ≤ n) × (n ≤ 64)) (on f.size) _ _ (λ _. omega arith) (λ _. omega arith))
    (λ _. omega arith)

pub code_least : (code a b c d : ℕ) → 1 ≤ a → 1 ≤ b → 1 ≤ c → 1 ≤ d → 1 ≤ by_code code a b c d
code_least code a b c d h i j k =
    by_test (λ (n : ℕ). 1 ≤ n) (eqb code 0) _ _ (λ _. h)
    (λ _. by_test (λ (n : ℕ). 1 ≤ n) (eqb code 1) _ _ (λ _. i) (λ _. by_test (λ (n : ℕ). 1 ≤ n) (eqb code 2) _ _ (λ _. j) (λ _. k)))

pub trigger_least : (f : FifoControl) → 1 ≤ trigger_level f
unfolding trigger_level
trigger_least f =
    by_test (λ (n : ℕ). 1 ≤ n) (on f.size) _ _
    (λ _. code_least f.trigger 1 16 32 56 (omega arith) (omega arith) (omega arith) (omega arith))
    (λ _. code_least f.trigger 1 4 8 14 (omega arith) (omega arith) (omega arith) (omega arith))
