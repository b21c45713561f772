-- A step on a well-formed state.
use Prim.Native.Nat.{ℕ}
use mathlib.Core.Path.{◌≡◌, refl, sym, ap, ◌∙◌}
use lib.Dec.{eqb}
use mathlib.Core.Bool.{true, false}
use Rattle.device.specs.declared.Inputs.{Inputs}
use Rattle.device.specs.declared.Latches.{Latches}
use Rattle.device.specs.declared.Reading.{Reading}
use Rattle.device.specs.declared.State.{State}
use Rattle.device.specs.State.{with_inputs, with_tx, with_latches, with_empty}
use Rattle.device.specs.Fifo.{capacity}
use Rattle.device.specs.Ranges.{well_formed}
use Rattle.device.specs.Autoflow.{settled_latches, settled}
use Rattle.device.specs.Rbr.{rbr_read}
use Rattle.device.specs.Thr.{thr_write}
use Rattle.device.specs.Calls.{read_register, write_register}
use Rattle.flag.proofs.Laws.{by_test}
use Rattle.queue.specs.Queue.{put_byte}
use Rattle.invariant.specs.Touch.{reaches_queue, numbers_of}
use Rattle.invariant.proofs.Good.{good_of}
use Rattle.invariant.proofs.Settled.{settled_same}
use Rattle.invariant.proofs.Touched.{numbers_touched}
use Rattle.bus.specs.Readable.{Readable}

-- What a read needs of the state.
pub readable : (s : State) → well_formed s ≡ true → Readable s
readable s f =
    let g = good_of s f in
    record { divisor = g.registers.divisor-most; changes = g.latches.changes-most; modem = g.settings.modem-most }

-- A read that leaves the registers' state leaves a well-formed state as it is.
pub read_stays : (s : State) (a : ℕ) → well_formed s ≡ true → (read_register s a).state ≡ s → settled (read_register s a).state ≡ s
read_stays s a f e = ap settled e ∙ settled_same s (good_of s f)

-- The rules that end a step do not look at the pins.
pub settled_inputs : (s : State) (i : Inputs) → well_formed s ≡ true → with_inputs s i ≡ settled (with_inputs s i)
unfolding settled
settled_inputs s i f = ap (λ (t : State). with_inputs t i) (sym (settled_same s (good_of s f)))

-- nor at the transmit queue and its latch
pub settled_thr : (s : State) (b : ℕ) → well_formed s ≡ true → settled (thr_write s b) ≡ thr_write s b
unfolding settled settled_latches thr_write
settled_thr s b f =
    ap (λ (t : State). with_latches (with_tx s (put_byte (capacity s.fifo) s.tx b)) (with_empty t.latches 0)) (settled_same s (good_of s f))

-- A write that reaches no queue sets numbers alone.

pub numbers-set : (s : State) (a b : ℕ) → reaches_queue s a ≡ false →
    (let n = numbers_of (write_register s a b) in
    record { registers = n.registers; baud = n.baud; latches = settled_latches n.registers s.fifo s.rx.count n.latches } ≡ numbers_of (settled (write_register s a b)))
unfolding settled
numbers-set s a b e =
    let t = write_register s a b in
    ap (λ (u : State). record { registers = t.registers; baud = t.baud; latches = settled_latches t.registers u.fifo u.rx.count t.latches }) (sym (numbers_touched s a b e))

-- A read of RBR leaves what the rules that end a step look at beside the receive queue and the latches.
pub taken_settled : (s : State) (n : ℕ) (l : Latches) →
    (let t = (rbr_read s).state in
    settled_latches s.registers s.fifo n l ≡ settled_latches t.registers t.fifo n l)
unfolding rbr_read
taken_settled s n l =
    by_test (λ (r : Reading). settled_latches s.registers s.fifo n l ≡ settled_latches r.state.registers r.state.fifo n l)
    (eqb s.rx.count 0) _ _ (λ e. refl) (λ e. refl)
