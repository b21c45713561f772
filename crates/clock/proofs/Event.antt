-- The pulse in which an event happens, by its parts: transmitter, receiver, idle count, the rules that end a step.
use Prim.Native.Nat.{ℕ, ◌<◌}
use native.Mathlib.Omega.{arith}
use mathlib.Core.Path.{◌≡◌, refl, sym, ap, ◌∙◌}
use mathlib.Core.Bool.{Bool, true, false, cond, not, ◌&&◌}
use lib.ListN.{get_or}
use lib.Dec.{eqb}
use borrow.Author.Tests.{not-true, eqb-false}
use Rattle.std.specs.Prelude.{Option, Some, None, is_some, unwrap_or, option_map}
use Rattle.flag.proofs.Laws.{cond_map, cond_same, and_left, and_right}
use Rattle.frame.specs.Format.{format_of}
use Rattle.queue.specs.declared.Entry.{Entry}
use Rattle.queue.specs.Queue.{take_byte, put_entry, is_full}
use Rattle.device.specs.declared.Latches.{Latches}
use Rattle.device.specs.declared.Receiver.{Receiver}
use Rattle.device.specs.declared.Received.{Received}
use Rattle.device.specs.declared.State.{State}
use Rattle.device.specs.State.{with_tx, with_frame, with_rx, with_receiver, with_latches, with_kept, with_k, with_empty, with_overrun, with_idle}
use Rattle.device.specs.Fifo.{capacity}
use Rattle.device.specs.Lsr.{entering, kept_after}
use Rattle.device.specs.Autoflow.{settled}
use Rattle.device.specs.Transmitter.{frame_of, ready, shifted_out, loaded, transmitted}
use Rattle.device.specs.Receiver.{heard, receiver_pulse_of, enters, with_entry, with_ended, with_received, received}
use Rattle.device.specs.Idle.{counts, time_out_at, counted, idled}
use Rattle.device.specs.Tick.{pulsed}

-- a byte is loaded
abbrev pub loads : State → Bool
loads s = eqb (shifted_out s.frame).left 0 && ready s

pub loads_some : (s : State) → loads s ≡ true → 0 < s.tx.count
unfolding ready
loads_some s e =
    let some = and_left (not (eqb s.tx.count 0)) _ (and_right (eqb (shifted_out s.frame).left 0) (ready s) e) in
    omega (arith, eqb-false s.tx.count 0 (not-true _ some))

-- the state after the transmitter's part
abbrev pub sent : Bool → State → State
sent load s =
    let x = cond load (frame_of (get_or s.tx.bytes 0 0) (format_of s.registers.lcr)) (shifted_out s.frame) in
    let l = cond load (cond (eqb s.tx.count 1) (with_empty s.latches 1) s.latches) s.latches in
    with_latches (with_tx (with_frame s x) (cond load (take_byte s.tx) s.tx)) l

transmitted-sent : (s : State) → transmitted s ≡ sent (loads s) s
unfolding transmitted loaded
transmitted-sent s = go (loads s)
  where
    go : (b : Bool) → cond b (loaded s) (with_frame s (shifted_out s.frame)) ≡ sent b s
    go false = refl
    go true =
        sym (cond_map (λ (l : Latches). with_latches (with_tx (with_frame s (frame_of (get_or s.tx.bytes 0 0) (format_of s.registers.lcr))) (take_byte s.tx)) l)
        (eqb s.tx.count 1) _ _ _ _ refl refl)

-- the state after the receiver's part, which made v of the receiver and ended a character, with this entry, or not
abbrev pub heard_by : Option Entry → State → Receiver → State
heard_by ended s v =
    let c = capacity s.fifo in
    let q = unwrap_or (option_map (λ e. put_entry c s.rx (entering s.fifo e)) ended) s.rx in
    let l = cond (is_some ended) (with_overrun s.latches (cond (is_full c s.rx.count) 1 s.latches.overrun)) s.latches in
    let k = unwrap_or (option_map (λ e. kept_after s.fifo e s.kept) ended) s.kept in
    with_kept (with_latches (with_rx (with_receiver s v) q) l) k

received-heard : (s : State) (r : Received) → with_received s r ≡ heard_by r.entry s r.receiver
unfolding with_received with_entry
received-heard s r = go r.entry
  where
    go : (ended : Option Entry) → with_ended (with_receiver s r.receiver) ended ≡ heard_by ended s r.receiver
    go None = refl
    go (Some e) = refl

-- the latches after the idle count's part
abbrev pub idled_latches : Bool → State → Latches
idled_latches b s =
    cond (counts s.fifo s.rx.count)
    (cond b (with_idle s.latches 0) (counted (time_out_at s.registers.lcr) s.latches))
    s.latches

idled-latches : (b : Bool) (s : State) → idled b s ≡ with_latches s (idled_latches b s)
unfolding idled
idled-latches b s = sym (cond_map (λ (l : Latches). with_latches s l) (counts s.fifo s.rx.count) _ _ _ _ refl refl)

-- the state after the whole pulse, where u is that after the transmitter's part
abbrev pub after_event : State → Received → State
after_event u r =
    let w = heard_by r.entry u r.receiver in
    settled (with_latches w (idled_latches (is_some r.entry && not (is_full (capacity u.fifo) u.rx.count)) w))

pub pulsed_event : (s : State) (r : Received) → r ≡ receiver_pulse_of (sent (loads s) s) → settled (pulsed s) ≡ after_event (sent (loads s) s) r
unfolding pulsed received enters
pulsed_event s r q =
    let u = sent (loads s) s in
    let entered : Received → Bool = λ h. is_some h.entry && not (is_full (capacity u.fifo) u.rx.count) in
    ap (λ (t : State). settled (idled (enters t) (received t))) (transmitted-sent s)
    ∙ ap (λ (h : Received). settled (idled (entered h) (with_received u h))) (sym q)
    ∙ ap (λ (w : State). settled (idled (entered r) w)) (received-heard u r)
    ∙ ap settled (idled-latches (entered r) (heard_by r.entry u r.receiver))

-- transmitter and receiver leave the idle count as it is
pub event_idle : (ended : Option Entry) (s : State) (v : Receiver) → (heard_by ended (sent (loads s) s) v).latches.idle ≡ s.latches.idle
event_idle ended s v =
    cond_same (λ (l : Latches). l.idle) (is_some ended) _ _ _ sent_idle sent_idle
  where
    sent_idle : (sent (loads s) s).latches.idle ≡ s.latches.idle
    sent_idle =
        cond_same (λ (l : Latches). l.idle) (loads s) _ _ _
        (cond_same (λ (l : Latches). l.idle) (eqb s.tx.count 1) _ _ _ refl refl)
        refl

-- no pulse looks at k
pub pulse_k : (s : State) (k : ℕ) → settled (pulsed (with_k s k)) ≡ with_k (settled (pulsed s)) k
unfolding settled ready heard
pulse_k s k =
    let r = receiver_pulse_of (sent (loads s) s) in
    pulsed_event (with_k s k) r refl ∙ ap (λ (t : State). with_k t k) (sym (pulsed_event s r refl))
