-- Each turn makes the quiet pulses before the next event, or the pulse in which it happens, part by part.
use Rattle.std.proofs.Common.{◌≡◌, sym, ap, subst, ◌∙◌, Bool, cond, not, ◌&&◌, arith, rules}
use lib.Dec.{eqb}
use Rattle.std.specs.Prelude.{Option, None, is_some}
use Rattle.queue.specs.declared.Entry.{Entry}
use Rattle.queue.specs.Queue.{put_entry, is_full}
use Rattle.queue.proofs.Laws.{length_mapped}
use Rattle.device.specs.declared.Frame.{Frame}
use Rattle.device.specs.declared.Receiver.{Receiver}
use Rattle.device.specs.declared.State.{State}
use Rattle.device.specs.declared.Latches.{Latches}
use Rattle.device.specs.State.{with_k, with_frame, with_rx, with_receiver, with_latches, with_kept, with_overrun, with_idle}
use Rattle.device.specs.Modem.{loopback}
use Rattle.device.specs.Fifo.{capacity}
use Rattle.device.specs.Lsr.{entering, kept_after}
use Rattle.device.specs.Autoflow.{settled_latches, settled}
use Rattle.device.specs.Idle.{counts, time_out_at, counted}
use Rattle.device.specs.Receiver.{heard, receiver_pulse, receiver_pulse_of}
use Rattle.device.specs.Transmitter.{line, ready, shifted_out}
use Rattle.invariant.proofs.Settled.{Kept}
use Rattle.receiver.specs.Needs.{Sampling}
use Rattle.quiet_pulses.specs.Needs.{Hearing}
use Rattle.quiet_pulses.specs.Quiet.{shifted_by, heard_by as heard_quietly}
use Rattle.quiet_pulses.proofs.Quiet.{quiet_by, quiet_hearing, quiet_pulses}
use Rattle.clock.proofs.Event.{loads, sent, heard_by, pulsed_event, event_idle}
use Rattle.clock.proofs.Going.{going_start, going_on, going_once}
use Rattle.clock.proofs.Needed.{state_sampling, state_idle}
use Rattle.clock.proofs.pulse.pulses.Goals.{Joined-loads, After-listen-h, Joined-h, then-loads, else-loads, in-Some, in_default}
use Rattle.clock.proofs.pulse.pulses.Goals as goal

-- the transmitter's part
sent-by : (c : Joined-loads) → c.if-loads.t ≡ sent (loads c.loop-left.t) c.loop-left.t
unfolding ready
sent-by c =
    let t = c.loop-left.t in
    let is : (eqb c.shift_out-x.result.left 0 && c.ready.result) ≡ loads t =
    ap (λ (x : Frame). eqb x.left 0 && c.ready.result) c.shift_out-x.ensures
    ∙ ap (λ (d : Bool). eqb (shifted_out t.frame).left 0 && d) c.ready.ensures in
    elim c.if-loads.branch [
      | then-loads w ↦
          w.t-is
          ∙ rw (w.take-t.ensures, w.emptied-t.ensures, w.next_frame-t.ensures) (ap (λ (b : Bool). sent b t) (sym w.if-loads.true ∙ is))
      | else-loads w ↦
          w.t-is
          ∙ ap (λ (x : Frame). with_frame t x) c.shift_out-x.ensures
          ∙ ap (λ (b : Bool). sent b t) (sym w.if-loads.false ∙ is)
    ]

-- what the receiver makes of it
heard-is : (c : After-listen-h) → c.if-loads.t ≡ sent (loads c.loop-left.t) c.loop-left.t
    → c.listen-h.result ≡ receiver_pulse_of (sent (loads c.loop-left.t) c.loop-left.t)
unfolding heard
heard-is c e =
    let t = c.loop-left.t in
    let u = c.if-loads.t in
    c.listen-h.ensures
    ∙ ap (λ (b : Bool). receiver_pulse (cond b (line u.frame) t.inputs.sin) t.registers.lcr u.receiver) c.loopback-looped.ensures
    ∙ ap (λ (r : State). receiver_pulse (cond (loopback t.registers) (line r.frame) t.inputs.sin) t.registers.lcr r.receiver) e

-- the receiver's part
heard-by : (c : Joined-h) → c.if-loads.t ≡ sent (loads c.loop-left.t) c.loop-left.t
    → c.match-h.t ≡ heard_by c.listen-h.result.entry (sent (loads c.loop-left.t) c.loop-left.t) c.listen-h.result.receiver
heard-by c e =
    let t = c.loop-left.t in
    let s = sent (loads t) t in
    let h = c.listen-h.result in
    let f = t.fifo in
    let u = c.if-loads.t in
    let put : Entry → Bool → State → State =
    λ e full u. with_kept
    (with_latches (with_rx (with_receiver u h.receiver) (put_entry (capacity f) u.rx (entering f e)))
    (with_overrun u.latches (cond full 1 u.latches.overrun)))
    (kept_after f e u.kept) in
    elim c.match-h.branch [
      | in-Some w ↦
          w.t-is
          ∙ rw (w.kept_after-t.ensures, w.put-t.ensures, w.entering.ensures, w.capacity.ensures.0, w.overrun-t.ensures)
          (ap (λ (full : Bool). put w.in-Some.e full u) c.is_full-full.ensures
          ∙ ap (λ (v : State). put w.in-Some.e (is_full (capacity f) v.rx.count) v) e
          ∙ ap (λ (o : Option Entry). heard_by o s h.receiver) (sym w.in-Some.is))
      | in_default w ↦
          w.t-is ∙ ap (λ (u : State). heard_by None u h.receiver) e ∙ ap (λ (o : Option Entry). heard_by o s h.receiver) (sym w.in_default.is)
    ]

pub loop-left-init : goal.loop-left-init
loop-left-init c =
    let kept : Kept (with_k c.args.s c.args.k) =
    record { well = c.requires; places = record { bytes_long = search rules; entries_long = search (length_mapped, c.well_formed, rules) } } in
    going_start _ _ kept

pub hear_by-t-requires : goal.hear_by-t-requires
hear_by-t-requires c =
    let t = c.loop-left.t in
    let m = c.reach-m.result in
    subst (λ (b : Bool). Hearing b t.frame m t.receiver) (sym c.loopback-looped.ensures)
    (quiet_hearing m t c.loop-left.invariant.kept (omega (arith, c.reach-m.ensures)))

pub later_by-t-requires : goal.later_by-t-requires
later_by-t-requires c = (omega arith, state_idle c.loop-left.t c.loop-left.invariant.kept)

pub loop-left-preserved-then-m-gt0 : goal.loop-left-preserved-then-m-gt0
unfolding quiet_by
loop-left-preserved-then-m-gt0 c =
    let t = c.loop-left.t in
    let m = c.reach-m.result in
    let x = shifted_by m t.frame in
    let v : Bool → Receiver = λ b. heard_quietly b t.frame t.inputs.sin m t.receiver in
    let parts : Frame → Receiver → Latches → State = λ y w l. with_latches (with_receiver (with_frame t y) w) l in
    going_on _ _ _ _ c.loop-left.invariant m _ (omega (arith, c.reach-m.ensures))
    (ap (λ (y : Frame). parts y c.hear_by-t.result c.later_by-t.result) c.shift_by-t.ensures
    ∙ ap (λ (w : Receiver). parts x w c.later_by-t.result) c.hear_by-t.ensures
    ∙ ap (λ (b : Bool). parts x (v b) c.later_by-t.result) c.loopback-looped.ensures
    ∙ ap (λ (l : Latches). parts x (v (loopback t.registers)) l) c.later_by-t.ensures
    ∙ sym (quiet_pulses m t c.loop-left.invariant.kept (omega (arith, c.reach-m.ensures))))

pub listen-h-requires : goal.listen-h-requires
listen-h-requires c =
    let t = c.loop-left.t in
    let same : c.if-loads.t.receiver ≡ t.receiver = ap (λ (u : State). u.receiver) (sent-by (goal.at.listen-h-requires c).Joined-loads) in
    subst (λ (v : Receiver). Sampling t.inputs.sin v) (sym same) (state_sampling t c.loop-left.invariant.kept)

pub later-l-requires : goal.later-l-requires
later-l-requires c =
    let t = c.loop-left.t in
    let h = c.listen-h.result in
    let at = goal.at.later-l-requires c in
    let same = ap (λ (w : State). w.latches.idle) (heard-by at.Joined-h (sent-by at.Joined-loads)) ∙ event_idle h.entry t h.receiver in
    omega (arith, same, state_idle t c.loop-left.invariant.kept)

pub loop-left-preserved : goal.loop-left-preserved
unfolding settled
loop-left-preserved c =
    let at = goal.at.loop-left-preserved c in
    let e = sent-by at.Joined-loads in
    let t = c.loop-left.t in
    let h = c.listen-h.result in
    let w = c.match-h.t in
    let settles : State → Latches → State = λ x l. with_latches x (settled_latches t.registers t.fifo x.rx.count l) in
    let idles : Bool → State → Latches =
    λ b x.
    cond (counts t.fifo x.rx.count) (cond b (with_idle x.latches 0) (counted (time_out_at t.registers.lcr) x.latches)) x.latches in
    let entered : Bool → Bool = λ b. is_some h.entry && not b in
    going_once _ _ _ _ c.loop-left.invariant _ c.loop-left-test.true
    (ap (λ (l : Latches). with_latches w l) c.settle_latches-t.ensures
    ∙ ap (λ (l : Latches). settles w l) c.later-l.ensures
    ∙ ap (λ (b : Bool). settles w (idles (b && not c.is_full-full.result) w)) c.is_some.ensures
    ∙ ap (λ (b : Bool). settles w (idles (entered b) w)) c.is_full-full.ensures
    ∙ ap (λ (u : State). settles w (idles (entered (is_full (capacity t.fifo) u.rx.count)) w)) e
    ∙ ap (λ (x : State). settles x (idles (entered (is_full (capacity t.fifo) t.rx.count)) x)) (heard-by at.Joined-h e)
    ∙ sym (pulsed_event t h (heard-is at.After-listen-h e)))
