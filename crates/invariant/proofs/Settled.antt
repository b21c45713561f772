-- The rules that end every step: they turn a sound state into a good one, and leave a good one as it is.
use Prim.Native.Nat.{ℕ, ◌≤◌}
use mathlib.Core.Path.{◌≡◌, refl, sym}
use mathlib.Core.Bool.{true}
use lib.Dec.{leb, eqb}
use lib.ListN.{length}
use native.Mathlib.Omega.{arith}
use borrow.Author.Tests.{le-leb, lt-leb, eq-eqb, leb-true, eqb-true}
use Rattle.flag.proofs.Laws.{by_test}
use Rattle.device.specs.declared.Registers.{Registers}
use Rattle.device.specs.declared.FifoControl.{FifoControl}
use Rattle.device.specs.declared.Latches.{Latches}
use Rattle.device.specs.declared.State.{State}
use Rattle.device.specs.Fifo.{trigger_level}
use Rattle.device.specs.Autoflow.{autoflow, auto_rts, settled_changes, settled_hold, settled_latches, settled}
use Rattle.device.specs.Ranges.{well_formed}
use Rattle.invariant.proofs.Good.{RegisterFacts, SettingFacts, TransmitFacts, ReceiveFacts, LatchFacts, FlowFacts, Good, Places, of_good, trigger_least, latches-changes, latches_hold}

-- A sound state obeys every range but the rules that end a step, and has all its places.
pub record Sound (s : State) : Type 0 where
  pub bytes_long : length s.tx.bytes ≡ 64
  pub entries_long : length s.rx.entries ≡ 64
  pub registers : RegisterFacts s.registers s.baud
  pub settings : SettingFacts s.fifo s.inputs
  pub transmit : TransmitFacts s.fifo s.tx s.frame
  pub receive : ReceiveFacts s.fifo s.rx s.receiver s.kept
  pub latches : LatchFacts s.fifo s.tx.count s.rx.count s.latches

pub sound_of : (s : State) → Places s → Good s → Sound s
sound_of s p g =
    record {
      bytes_long = p.bytes_long;
      entries_long = p.entries_long;
      registers = g.registers;
      settings = g.settings;
      transmit = g.transmit;
      receive = g.receive;
      latches = g.latches;
    }

-- What every step leaves: a well-formed state with all its places.
pub record Kept (s : State) : Type 0 where
  pub well : well_formed s ≡ true
  pub places : Places s

-- The settled change bits and hold.

changes-most : (r : Registers) (f : FifoControl) (c : ℕ) → c ≤ 15 → settled_changes r f c ≤ 15
unfolding settled_changes
changes-most r f c h = by_test (λ (x : ℕ). x ≤ 15) (autoflow r f) _ _ (λ _. omega arith) (λ _. h)

hold_most : (r : Registers) (f : FifoControl) (n h : ℕ) → h ≤ 1 → settled_hold r f n h ≤ 1
unfolding settled_hold
hold_most r f n h most =
    by_test (λ (x : ℕ). x ≤ 1) (auto_rts r f) _ _
    (λ _.
    by_test (λ (x : ℕ). x ≤ 1) (leb (trigger_level f) n) _ _ (λ _. omega arith)
    (λ _. by_test (λ (x : ℕ). x ≤ 1) (eqb n 0) _ _ (λ _. omega arith) (λ _. most)))
    (λ _. omega arith)

latches-settled : (r : Registers) (f : FifoControl) (m n : ℕ) (l : Latches) → LatchFacts f m n l → LatchFacts f m n (settled_latches r f n l)
unfolding settled_latches
latches-settled r f m n l g =
    latches_hold (latches-changes g (changes-most r f l.changes g.changes-most)) (hold_most r f n l.hold g.hold_most)

flow_settled : (r : Registers) (f : FifoControl) (n : ℕ) (l : Latches) → FlowFacts r f n (settled_latches r f n l)
unfolding settled_latches settled_changes settled_hold
flow_settled r f n l =
    record {
      cts_none = λ h. rw h (omega arith);
      hold_off = λ h. rw h;
      hold_on = λ h k. rw (h, le-leb (trigger_level f) n k);
      hold_none = λ h. by_test (λ (x : ℕ). x ≡ 0) (auto_rts r f) _ _ (λ _. rw (lt-leb (trigger_level f) n (omega (arith, trigger_least f)), eq-eqb n 0 h)) (λ _. refl);
    }

-- the rules that end a step make a sound state good
pub settled-good : (s : State) → Sound s → Good (settled s)
unfolding settled
settled-good s w =
    record {
      registers = w.registers;
      settings = w.settings;
      transmit = w.transmit;
      receive = w.receive;
      latches = latches-settled s.registers s.fifo s.tx.count s.rx.count s.latches w.latches;
      flow = flow_settled s.registers s.fifo s.rx.count s.latches;
    }

-- and so well formed
pub settled-kept : (s : State) → Sound s → Kept (settled s)
unfolding settled
settled-kept s w =
    record {
      well = of_good (settled s) (settled-good s w);
      places = record { bytes_long = w.bytes_long; entries_long = w.entries_long };
    }

-- A good state stays as it is.

changes-same : (r : Registers) (f : FifoControl) (n : ℕ) (l : Latches) → FlowFacts r f n l → settled_changes r f l.changes ≡ l.changes
unfolding settled_changes
changes-same r f n l g =
    by_test (λ (x : ℕ). x ≡ l.changes) (autoflow r f) _ _ (λ e. omega (arith, g.cts_none e)) (λ _. refl)

hold_same : (r : Registers) (f : FifoControl) (n : ℕ) (l : Latches) → FlowFacts r f n l → settled_hold r f n l.hold ≡ l.hold
unfolding settled_hold
hold_same r f n l g =
    by_test (λ (x : ℕ). x ≡ l.hold) (auto_rts r f) _ _
    (λ e.
    by_test (λ (x : ℕ). x ≡ l.hold) (leb (trigger_level f) n) _ _
    (λ a. sym (g.hold_on e (leb-true (trigger_level f) n a)))
    (λ _. by_test (λ (x : ℕ). x ≡ l.hold) (eqb n 0) _ _ (λ a. sym (g.hold_none (eqb-true n 0 a))) (λ _. refl)))
    (λ e. sym (g.hold_off e))

pub settled_same : (s : State) → Good s → settled s ≡ s
unfolding settled settled_latches
settled_same s g =
    rw (
      changes-same s.registers s.fifo s.rx.count s.latches g.flow,
      hold_same s.registers s.fifo s.rx.count s.latches g.flow,
    )
