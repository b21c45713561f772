-- Which parts of the state each step touches: one table, and that its rows hold of the definitions.
use Prim.Native.Nat.{ℕ}
use mathlib.Core.Path.{◌≡◌, refl, sym, ap, ◌∙◌}
use mathlib.Core.Bool.{Bool, false, ◌&&◌, true≢false}
use lib.Dec.{eqb}
use borrow.Author.Tests.{not-false}
use Rattle.std.specs.Prelude.{Option, Some, None}
use Rattle.flag.proofs.Laws.{by_test}
use Rattle.queue.specs.declared.Entry.{Entry}
use Rattle.device.specs.declared.State.{State}
use Rattle.device.specs.State.{with_registers, with_baud, with_tx, with_frame, with_rx, with_receiver, with_latches, with_kept}
use Rattle.device.specs.Autoflow.{settled}
use Rattle.device.specs.Thr.{thr_write}
use Rattle.device.specs.Ier.{ier_write}
use Rattle.device.specs.Lcr.{divisor_access, lcr_write}
use Rattle.device.specs.Mcr.{mcr_write}
use Rattle.device.specs.Msr.{with_levels}
use Rattle.device.specs.Scr.{scr_write}
use Rattle.device.specs.Divisor.{divisor_low_write, divisor_high_write}
use Rattle.device.specs.Transmitter.{loaded, ready, shifted_out, transmitted}
use Rattle.device.specs.Receiver.{receiver_pulse_of, enters, with_entry, with_ended, with_received, received}
use Rattle.device.specs.Idle.{counts, idled}
use Rattle.device.specs.Tick.{pulsed}
use Rattle.device.specs.Calls.{write_register}
use Rattle.invariant.specs.Touch.{reaches_queue}
use Rattle.invariant.proofs.Registers.{by_address_lem}

-- The table: the state s with those parts of t in place of its own that the step may touch. The rules that end a step
-- touch the latches, so every row has them.

-- a write that reaches no queue
abbrev pub by_numbers : State → State → State
by_numbers s t = with_latches (with_baud (with_registers s t.registers) t.baud) t.latches

-- a write to THR
abbrev pub by_transmit : State → State → State
by_transmit s t = with_latches (with_tx s t.tx) t.latches

-- a pulse
abbrev pub by_pulse : State → State → State
by_pulse s t =
    let u = with_receiver (with_rx (with_frame (with_tx s t.tx) t.frame) t.rx) t.receiver in
    with_kept (with_latches u t.latches) t.kept

-- t follows s, and only these parts differ
abbrev pub Touches : (State → State → State) → State → State → Type 0
Touches row s t = t ≡ row s t

-- A write that reaches no queue.

low_touches : (s : State) (b : ℕ) → Touches by_numbers s (divisor_low_write s b)
unfolding divisor_low_write
low_touches s b = refl

high_touches : (s : State) (b : ℕ) → Touches by_numbers s (divisor_high_write s b)
unfolding divisor_high_write
high_touches s b = refl

ier_touches : (s : State) (b : ℕ) → Touches by_numbers s (ier_write s b)
unfolding ier_write
ier_touches s b = refl

lcr_touches : (s : State) (b : ℕ) → Touches by_numbers s (lcr_write s b)
unfolding lcr_write
lcr_touches s b = refl

mcr_touches : (s : State) (b : ℕ) → Touches by_numbers s (mcr_write s b)
unfolding mcr_write with_levels
mcr_touches s b = refl

scr_touches : (s : State) (b : ℕ) → Touches by_numbers s (scr_write s b)
unfolding scr_write
scr_touches s b = refl

pub numbers_touched : (s : State) (a b : ℕ) → reaches_queue s a ≡ false → Touches by_numbers s (write_register s a b)
unfolding write_register
numbers_touched s a b h =
    let access = divisor_access s.registers in
    by_address_lem (Touches by_numbers s) a _ _ _ _ _ _ _ _
    (λ e. by_test (Touches by_numbers s) access _ _ (λ _. low_touches s b) (λ d. absurd (true≢false (sym (not-false access (simp e at h)) ∙ d))))
    (by_test (Touches by_numbers s) access _ _ (λ _. high_touches s b) (λ _. ier_touches s b))
    (λ e f. absurd (true≢false (sym f ∙ simp e at h)))
    (lcr_touches s b)
    (mcr_touches s b)
    refl
    refl
    (scr_touches s b)

-- and the rules that end it
pub numbers-settled : (s : State) (a b : ℕ) → reaches_queue s a ≡ false → Touches by_numbers s (settled (write_register s a b))
unfolding settled
numbers-settled s a b h =
    ap (λ (t : State). with_latches t (settled (write_register s a b)).latches) (numbers_touched s a b h)

-- A write to THR.
pub thr_touches : (s : State) (b : ℕ) → Touches by_transmit s (thr_write s b)
unfolding thr_write
thr_touches s b = refl

-- A pulse: its parts one after the other.

then : (s t u : State) → Touches by_pulse s t → Touches by_pulse t u → Touches by_pulse s u
then s t u e f = f ∙ ap (λ (v : State). by_pulse v u) e

loaded_touches : (s : State) → Touches by_pulse s (loaded s)
unfolding loaded
loaded_touches s = by_test (Touches by_pulse s) (eqb s.tx.count 1) _ _ (λ _. refl) (λ _. refl)

transmitted_touches : (s : State) → Touches by_pulse s (transmitted s)
unfolding transmitted
transmitted_touches s =
    by_test (Touches by_pulse s) (eqb (shifted_out s.frame).left 0 && ready s) _ _ (λ _. loaded_touches s) (λ _. refl)

received_touches : (s : State) → Touches by_pulse s (received s)
unfolding received with_received with_entry
received_touches s = go (receiver_pulse_of s).entry
  where
    go : (o : Option Entry) → Touches by_pulse s (with_ended (with_receiver s (receiver_pulse_of s).receiver) o)
    go None = refl
    go (Some e) = refl

idled_touches : (new : Bool) (s : State) → Touches by_pulse s (idled new s)
unfolding idled
idled_touches new s = by_test (Touches by_pulse s) (counts s.fifo s.rx.count) _ _ (λ _. refl) (λ _. refl)

pub pulsed_touches : (s : State) → Touches by_pulse s (pulsed s)
unfolding pulsed
pulsed_touches s =
    let t = transmitted s in
    then s t _ (transmitted_touches s) (then t (received t) _ (received_touches t) (idled_touches (enters t) (received t)))
