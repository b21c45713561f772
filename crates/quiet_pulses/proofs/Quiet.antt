-- The law of quiet pulses: m of them, no more than are before the next event, are m pulses of `Tick.antt`.
use Prim.Native.Nat.{ℕ, zero, suc, ◌≤◌}
use native.Mathlib.Omega.{arith}
use mathlib.Core.Path.{◌≡◌, refl, sym, ap, subst, ◌∙◌}
use mathlib.Core.Bool.{Bool, true, false, cond, ◌&&◌}
use lib.Dec.{eqb}
use Rattle.std.specs.Prelude.{None}
use Rattle.flag.proofs.Laws.{by_test, cond_map}
use Rattle.device.specs.declared.Registers.{Registers}
use Rattle.device.specs.declared.FifoControl.{FifoControl}
use Rattle.device.specs.declared.Frame.{Frame}
use Rattle.device.specs.declared.Receiver.{Receiver}
use Rattle.device.specs.declared.Received.{Received}
use Rattle.device.specs.declared.Latches.{Latches}
use Rattle.device.specs.declared.State.{State}
use Rattle.device.specs.State.{with_frame, with_receiver, with_latches}
use Rattle.device.specs.Autoflow.{settled_latches, settled}
use Rattle.device.specs.Transmitter.{line, ready, shifted_out, transmitted}
use Rattle.device.specs.Modem.{loopback}
use Rattle.device.specs.Receiver.{receiver_pulse_of, heard, goes_on, receiver_pulse, enters, with_received, received}
use Rattle.device.specs.Idle.{counts, time_out_at, counted, idled}
use Rattle.device.specs.Tick.{pulsed}
use Rattle.invariant.proofs.Good.{good_of}
use Rattle.invariant.proofs.Settled.{Kept}
use Rattle.quiet_pulses.specs.Needs.{Hearing}
use Rattle.quiet_pulses.specs.Quiet.{pulses_of, shifted_by, heard_by, counted_by, later_by, reach_of}
use Rattle.quiet_pulses.proofs.Kept.{kept-settled, pulses_kept}
use Rattle.quiet_pulses.proofs.Sent.{shifted_none, shifted_next, nothing-loaded}
use Rattle.quiet_pulses.proofs.Counted.{counted_next}
use Rattle.quiet_pulses.proofs.Heard.{heard-none, heard-within, heard_next}

-- A pulse in which nothing is loaded and no character ends.

transmitted_quiet : (s : State) → (eqb (shifted_out s.frame).left 0 && ready s) ≡ false → transmitted s ≡ with_frame s (shifted_out s.frame)
unfolding transmitted
transmitted_quiet s e = simp e

received_quiet : (t : State) → (receiver_pulse_of t).entry ≡ None → received t ≡ with_receiver t (receiver_pulse_of t).receiver
unfolding received with_received
received_quiet t e = simp e

enters_not : (t : State) → (receiver_pulse_of t).entry ≡ None → enters t ≡ false
unfolding enters
enters_not t e = simp e

-- the idle count goes on, or not
abbrev pub later : State → Latches
later s =
    cond (counts s.fifo s.rx.count) (counted (time_out_at s.registers.lcr) s.latches) s.latches

idled_quiet : (u : State) → idled false u ≡ with_latches u (later u)
unfolding idled
idled_quiet u = sym (cond_map (λ (l : Latches). with_latches u l) (counts u.fifo u.rx.count) _ _ _ _ refl refl)

-- The rules that end a step and the idle count look at different latches.
settled-later : (r : Registers) (f : FifoControl) (n limit : ℕ) (b : Bool) (l : Latches)
    → settled_latches r f n l ≡ l → settled_latches r f n (cond b (counted limit l) l) ≡ cond b (counted limit l) l
unfolding settled_latches counted
settled-later r f n limit b l e =
    by_test (λ (m : Latches). settled_latches r f n m ≡ m) b _ _ (λ _. ap (counted limit) e) (λ _. e)

-- the receiver after the transmitter's part of such a pulse
abbrev pub heard_quietly : State → Received
heard_quietly s =
    receiver_pulse (cond (loopback s.registers) (line (shifted_out s.frame)) s.inputs.sin) s.registers.lcr s.receiver

-- the state with these parts
abbrev pub parts : State → Frame → Receiver → Latches → State
parts s x v l = with_latches (with_receiver (with_frame s x) v) l

-- the whole pulse
pub pulsed_quiet : (s : State) → settled s ≡ s
    → (eqb (shifted_out s.frame).left 0 && ready s) ≡ false
    → (heard_quietly s).entry ≡ None
    → settled (pulsed s) ≡ parts s (shifted_out s.frame) (heard_quietly s).receiver (later s)
unfolding pulsed heard settled
pulsed_quiet s e none on =
    let t = with_frame s (shifted_out s.frame) in
    let u = with_receiver t (heard_quietly s).receiver in
    ap (λ (w : State). settled (idled (enters w) (received w))) (transmitted_quiet s none)
    ∙ ap (λ (b : Bool). settled (idled b (received t))) (enters_not t on)
    ∙ ap (λ (w : State). settled (idled false w)) (received_quiet t on)
    ∙ ap settled (idled_quiet u)
    ∙ ap (λ (l : Latches). with_latches u l)
    (settled-later s.registers s.fifo s.rx.count (time_out_at s.registers.lcr) (counts s.fifo s.rx.count) s.latches
    (ap (λ (w : State). w.latches) e))

-- The parts of the state m quiet pulses later.

abbrev receiver_by : ℕ → State → Receiver
receiver_by m s = heard_by (loopback s.registers) s.frame s.inputs.sin m s.receiver

abbrev latches_by : ℕ → State → Latches
latches_by m s = later_by s.fifo s.rx.count s.registers.lcr m s.latches

-- the state then
unfoldable pub quiet_by : ℕ → State → State
quiet_by m s = parts s (shifted_by m s.frame) (receiver_by m s) (latches_by m s)

latches-none : (s : State) → latches_by 0 s ≡ s.latches
unfolding counted_by
latches-none s = by_test (λ (l : Latches). l ≡ s.latches) (counts s.fifo s.rx.count) _ _ (λ _. refl) (λ _. refl)

latches_next : (b : Bool) (limit m : ℕ) (l : Latches)
    → cond b (counted limit (cond b (counted_by limit m l) l)) (cond b (counted_by limit m l) l) ≡ cond b (counted_by limit (suc m) l) l
latches_next true limit m l = counted_next limit m l
latches_next false limit m l = refl

-- no pulse
quiet_none : (s : State) → Kept s → quiet_by 0 s ≡ s
unfolding quiet_by
quiet_none s w =
    let g = good_of s w.well in
    let receiver = heard-none (loopback s.registers) s.frame s.inputs.sin s.receiver g.receive.receiver in
    ap (λ (x : Frame). parts s x (receiver_by 0 s) (latches_by 0 s)) (shifted_none s.frame g.transmit.frame)
    ∙ ap (λ (v : Receiver). parts s s.frame v (latches_by 0 s)) receiver
    ∙ ap (λ (l : Latches). parts s s.frame s.receiver l) (latches-none s)

-- one pulse more
quiet_next : (m : ℕ) (s : State) → Kept s → Kept (quiet_by m s) → suc m ≤ reach_of s → settled (pulsed (quiet_by m s)) ≡ quiet_by (suc m) s
unfolding quiet_by reach_of ready
quiet_next m s w kept within =
    pulsed_quiet t (kept-settled t kept) (ap (λ (x : Frame). eqb x.left 0 && ready s) next ∙ nothing-loaded (ready s) m s.frame (omega arith)) (ap (λ (r : Received). r.entry) receiver)
    ∙ ap (λ (x : Frame). parts s x (heard_quietly t).receiver (later t)) next
    ∙ ap (λ (r : Received). parts s (shifted_by (suc m) s.frame) r.receiver (later t)) receiver
    ∙ ap (λ (l : Latches). parts s (shifted_by (suc m) s.frame) (receiver_by (suc m) s) l) (latches_next (counts s.fifo s.rx.count) (time_out_at s.registers.lcr) m s.latches)
  where
    t : State
    t = quiet_by m s

    b : Bool
    b = loopback s.registers

    next : shifted_out (shifted_by m s.frame) ≡ shifted_by (suc m) s.frame
    next = shifted_next m s.frame

    receiver : heard_quietly t ≡ goes_on (receiver_by (suc m) s)
    receiver =
        let g = good_of s w.well in
        ap (λ (x : Frame). receiver_pulse (cond b (line x) s.inputs.sin) s.registers.lcr (receiver_by m s)) next
        ∙ heard_next b s.frame s.inputs.sin s.registers.lcr m s.receiver g.transmit.frame g.settings.sin-most g.receive.receiver (omega arith)

pub quiet_pulses : (m : ℕ) (s : State) → Kept s → m ≤ reach_of s → pulses_of m s ≡ quiet_by m s
unfolding pulses_of
quiet_pulses zero s w within = sym (quiet_none s w)
quiet_pulses (suc m) s w within =
    let before = quiet_pulses m s w (omega arith) in
    ap (λ (t : State). settled (pulsed t)) before ∙ quiet_next m s w (subst Kept before (pulses_kept m s w)) within

-- what the receiver's part of them needs
pub quiet_hearing : (m : ℕ) (s : State) → Kept s → m ≤ reach_of s → Hearing (loopback s.registers) s.frame m s.receiver
unfolding reach_of
quiet_hearing m s w within =
    heard-within (loopback s.registers) s.frame s.inputs.sin m s.receiver (good_of s w.well).receive.receiver (omega arith)
