-- The device's tick is the tick of its transmitter: what of the state decides what is sent goes on by itself.
use Prim.Native.Nat.{ℕ, zero, suc, ◌-◌, ◌≤◌, ◌<◌}
use native.Mathlib.Omega.{arith}
use mathlib.Core.Path.{◌≡◌, refl, ap, ◌∙◌}
use mathlib.Core.Bool.{Bool, true, false, cond, not, ◌&&◌, ◌||◌}
use mathlib.Core.List.{List}
use lib.Dec.{eqb}
use lib.ListN.{length, get_or, drop}
use lib.Seq.{length-take-le}
use borrow.Author.Tests.{eqb-false}
use Rattle.std.specs.Prelude.{Option, Some, None}
use Rattle.flag.proofs.Laws.{cond_map, cond_same}
use Rattle.frame.specs.Format.{format_of, frame_length}
use Rattle.frame.proofs.Transmitter.{Transmitter, with_frame as atFrame, pulse, tick, ticks}
use Rattle.queue.specs.declared.ByteQueue.{ByteQueue}
use Rattle.queue.specs.declared.Entry.{Entry}
use Rattle.queue.specs.Queue.{contents, take_byte}
use Rattle.queue.proofs.Contents.{take-oldest, take-contents}
use Rattle.device.specs.declared.Answer.{Answer}
use Rattle.device.specs.declared.Frame.{Frame}
use Rattle.device.specs.declared.State.{State}
use Rattle.device.specs.State.{with_frame, with_receiver, no_frame, with_k}
use Rattle.device.specs.Autoflow.{held, settled}
use Rattle.device.specs.Transmitter.{loaded, ready, shifted_out, transmitted}
use Rattle.device.specs.Receiver.{receiver_pulse_of, enters, with_entry, with_ended, with_received, received}
use Rattle.device.specs.Idle.{counts, idled}
use Rattle.device.specs.Tick.{pulsed, ticked}
use Rattle.device.specs.Calls.{done, tick_of, ticks_of}
use Rattle.invariant.proofs.Good.{capacity_bounds, good_of}
use Rattle.invariant.proofs.Settled.{Kept}
use Rattle.invariant.proofs.Steps.{tick_kept}

-- what of the state decides what is sent, and when
abbrev pub transmitter_of : State → Transmitter
transmitter_of s =
    record {
      divisor = s.baud.divisor;
      k = s.baud.k;
      left = s.frame.left;
      byte = s.frame.byte;
      format = s.frame.format;
      next = format_of s.registers.lcr;
      held = held s.registers s.fifo s.inputs;
      queue = contents s.tx.count s.tx.bytes;
    }

-- the bytes queued lie within their places
pub record Within (q : ByteQueue) : Type 0 where
  pub within : q.count ≤ length q.bytes

pub kept-within : (s : State) → Kept s → Within s.tx
kept-within s w =
    let g = good_of s w.well in
    record { within = omega (arith, capacity_bounds s.fifo, g.transmit.count_most, w.places.bytes_long) }

pub count-queued : (q : ByteQueue) → Within q → length (contents q.count q.bytes) ≡ q.count
count-queued q w = length-take-le q.count q.bytes w.within

-- the transmitter's part of a pulse

loaded_transmitter : (s : State) → Within s.tx → (s.tx.count ≡ 0 → ⊥)
    → transmitter_of (loaded s) ≡ atFrame (transmitter_of s) (frame_length (format_of s.registers.lcr)) (get_or (contents s.tx.count s.tx.bytes) 0 0) (format_of s.registers.lcr) (drop 1 (contents s.tx.count s.tx.bytes))
unfolding loaded take_byte
loaded_transmitter s w n =
    let some : 0 < s.tx.count = omega arith in
    let oldest : get_or (contents s.tx.count s.tx.bytes) 0 0 ≡ get_or s.tx.bytes 0 0 =
    ap (λ (xs : List ℕ). get_or xs 0 0) (take-oldest 0 s.tx.count s.tx.bytes some w.within) in
    let rest = take-contents 0 s.tx.count s.tx.bytes some w.within in
    cond_same transmitter_of (eqb s.tx.count 1) _ _ _ (rw (oldest, rest)) (rw (oldest, rest))

transmitted_transmitter : (s : State) → Within s.tx → transmitter_of (transmitted s) ≡ pulse (transmitter_of s)
unfolding transmitted shifted_out ready pulse
transmitted_transmitter s w =
    rw (count-queued s.tx w) (go (eqb (s.frame.left - 1) 0) refl (eqb s.tx.count 0) refl (held s.registers s.fifo s.inputs))
  where
    lower : Frame
    lower = record { left = s.frame.left - 1; byte = s.frame.byte; format = s.frame.format }

    queued : List ℕ
    queued = contents s.tx.count s.tx.bytes

    next : ℕ
    next = format_of s.registers.lcr

    go : (z : Bool) → eqb (s.frame.left - 1) 0 ≡ z → (n : Bool) → eqb s.tx.count 0 ≡ n → (h : Bool)
        → transmitter_of (cond (eqb (cond z no_frame lower).left 0 && (not n && not h)) (loaded s) (with_frame s (cond z no_frame lower)))
        ≡ cond z
        (cond (n || h) (atFrame (transmitter_of s) 0 0 0 queued) (atFrame (transmitter_of s) (frame_length next) (get_or queued 0 0) next (drop 1 queued)))
        (atFrame (transmitter_of s) (s.frame.left - 1) s.frame.byte s.frame.format queued)
    go true p true q h = refl
    go true p false q true = refl
    go true p false q false = loaded_transmitter s w (eqb-false s.tx.count 0 q)
    go false p n q h = simp p

-- the other parts do not touch it
received_transmitter : (s : State) → transmitter_of (received s) ≡ transmitter_of s
unfolding received with_received with_entry
received_transmitter s = go (receiver_pulse_of s).entry
  where
    go : (o : Option Entry) → transmitter_of (with_ended (with_receiver s (receiver_pulse_of s).receiver) o) ≡ transmitter_of s
    go None = refl
    go (Some e) = refl

idled_transmitter : (new : Bool) (s : State) → transmitter_of (idled new s) ≡ transmitter_of s
unfolding idled
idled_transmitter new s = cond_same transmitter_of (counts s.fifo s.rx.count) _ _ _ refl refl

pulsed_transmitter : (s : State) → Within s.tx → transmitter_of (pulsed s) ≡ pulse (transmitter_of s)
unfolding pulsed
pulsed_transmitter s w =
    let t = transmitted s in
    idled_transmitter (enters t) (received t) ∙ received_transmitter t ∙ transmitted_transmitter s w

ticked_transmitter : (s : State) → Within s.tx → transmitter_of (ticked s) ≡ tick (transmitter_of s)
unfolding ticked tick
ticked_transmitter s w =
    cond_map transmitter_of (eqb s.baud.divisor 0) _ _ _ _ refl
    (cond_map transmitter_of (eqb (s.baud.k - 1) 0) _ _ _ _ (pulsed_transmitter (with_k s s.baud.divisor) (record { within = w.within })) refl)

settled_transmitter : (s : State) → transmitter_of (settled s) ≡ transmitter_of s
unfolding settled
settled_transmitter s = refl

-- a tick of the device is a tick of its transmitter
tick_transmitter : (s : State) → Kept s → transmitter_of (tick_of s).state ≡ tick (transmitter_of s)
unfolding tick_of done
tick_transmitter s w =
    let same : tick_of s ≡ done (ticked s) 0 = simp w.well in
    ap (λ (r : Answer). transmitter_of r.state) same ∙ settled_transmitter (ticked s) ∙ ticked_transmitter s (kept-within s w)

-- and so are many
pub ticks_transmitter : (t : ℕ) (s : State) → Kept s → transmitter_of (ticks_of t s) ≡ ticks t (transmitter_of s)
ticks_transmitter zero s w = refl
ticks_transmitter (suc t) s w =
    ticks_transmitter t (tick_of s).state (tick_kept s w.places w.well) ∙ ap (λ (x : Transmitter). ticks t x) (tick_transmitter s w)
