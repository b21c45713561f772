-- One tick of many is the tick; those before a pulse lower k.
use Prim.Native.Nat.{ℕ, ◌-◌, ◌≤◌, ◌<◌}
use native.Mathlib.Omega.{arith}
use mathlib.Core.Path.{◌≡◌, refl, sym, ap, ◌∙◌}
use mathlib.Core.Bool.{Bool, true, false, not, ◌&&◌}
use lib.Dec.{ltb, eqb}
use borrow.Author.Tests.{eq-eqb, ltb-true, not-true}
use Rattle.flag.proofs.Laws.{and_left, and_right, by_test}
use Rattle.device.specs.declared.Answer.{Answer}
use Rattle.device.specs.declared.Reading.{Reading}
use Rattle.device.specs.declared.State.{State}
use Rattle.device.specs.State.{with_k, with_tx, with_rx, with_latches}
use Rattle.device.specs.Lcr.{divisor_access}
use Rattle.device.specs.Autoflow.{settled}
use Rattle.device.specs.Rbr.{rbr_read}
use Rattle.device.specs.Thr.{thr_write}
use Rattle.device.specs.Ranges.{well_formed}
use Rattle.device.specs.Tick.{ticked}
use Rattle.device.specs.Pins.{outputs}
use Rattle.device.specs.Calls.{done, malformed, tick_of, ticks_of, ticks_answer, read_register, write_register}
use Rattle.invariant.specs.Touch.{reaches_queue}
use Rattle.invariant.proofs.Good.{good_of}
use Rattle.invariant.proofs.Settled.{Kept}
use Rattle.clock.proofs.Ticked.{ticks-count}

-- the answer of a step that leaves t and reads nothing
abbrev pub answered : State → Answer
answered t = record { number = 0; part = 0; byte = 0; outputs = outputs t; state = t }

tick_answered : (s : State) → well_formed s ≡ true → answered (tick_of s).state ≡ tick_of s
unfolding tick_of done
tick_answered s w =
    let same : tick_of s ≡ done (ticked s) 0 = simp w in
    ap (λ (r : Answer). answered r.state) same ∙ sym same

tick_refused : (s : State) → well_formed s ≡ false → malformed s ≡ tick_of s
unfolding tick_of
tick_refused s w = simp w

pub ticks_one : (s : State) → ticks_answer s 1 ≡ tick_of s
unfolding ticks_answer
ticks_one s = go (well_formed s) refl
  where
    go : (w : Bool) → well_formed s ≡ w → ticks_answer s 1 ≡ tick_of s
    go true e = rw e (tick_answered s e)
    go false e = rw e (tick_refused s e)

-- Fewer ticks than k lower it: a state with k above 0 has a divisor.
pub counts_down : (n : ℕ) (s : State) → Kept s → n < s.baud.k → with_k s (s.baud.k - n) ≡ ticks_of n s
counts_down n s w h =
    let some : 1 ≤ s.baud.divisor = omega (arith, (good_of s w.well).registers.k_most) in
    sym (ticks-count n s w some h)

-- A read of RBR that takes a character changes the receive queue and the latches.

read_apart : (s : State) → (let t = settled (rbr_read s).state in with_latches (with_rx s t.rx) t.latches ≡ t)
unfolding rbr_read settled
read_apart s =
    by_test (λ (r : Reading). let t = settled r.state in with_latches (with_rx s t.rx) t.latches ≡ t)
    (eqb s.rx.count 0) _ _ (λ e. refl) (λ e. refl)

pub taken : (s : State) (a : ℕ) → (eqb a 0 && (not (divisor_access s.registers) && ltb 0 s.rx.count)) ≡ true →
    (let t = settled (rbr_read s).state in with_latches (with_rx s t.rx) t.latches ≡ settled (read_register s a).state)
unfolding read_register
taken s a h =
    let rest = not (divisor_access s.registers) && ltb 0 s.rx.count in
    let off : divisor_access s.registers ≡ false = not-true _ (and_left (not (divisor_access s.registers)) (ltb 0 s.rx.count) (and_right (eqb a 0) rest h)) in
    let same : rbr_read s ≡ read_register s a = simp (and_left (eqb a 0) rest h, off) in
    read_apart s ∙ ap (λ (r : Reading). settled r.state) same

-- A write to THR changes the transmit queue and the latches.
pub queued : (s : State) (a b : ℕ) → reaches_queue s a ≡ true → a ≡ 0 →
    (let t = settled (thr_write s b) in with_latches (with_tx s t.tx) t.latches ≡ settled (write_register s a b))
unfolding write_register settled thr_write
queued s a b h e =
    let here : eqb a 0 ≡ true = eq-eqb a 0 e in
    let off : divisor_access s.registers ≡ false = not-true _ (rw here at h) in
    let same : thr_write s b ≡ write_register s a b = simp (here, off) in
    ap settled same

-- Such a read finds a character.
pub some_taken : (s : State) (a : ℕ) → (eqb a 0 && (not (divisor_access s.registers) && ltb 0 s.rx.count)) ≡ true → 0 < s.rx.count
some_taken s a h =
    let rest = not (divisor_access s.registers) && ltb 0 s.rx.count in
    ltb-true 0 s.rx.count (and_right (not (divisor_access s.registers)) (ltb 0 s.rx.count) (and_right (eqb a 0) rest h))
