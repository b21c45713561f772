-- What a tick does to a well-formed state, by the way that it goes.
use Prim.Native.Nat.{ℕ, zero, suc, ◌+◌, ◌-◌, ◌≤◌, ◌<◌}
use native.Mathlib.Omega.{arith}
use mathlib.Core.Path.{◌≡◌, refl, sym, ap, subst, ◌∙◌}
use borrow.Author.Tests.{eq-eqb, ne_eqb}
use Rattle.device.specs.declared.State.{State}
use Rattle.device.specs.State.{with_latches, with_k}
use Rattle.device.specs.Autoflow.{settled}
use Rattle.device.specs.Tick.{pulsed, ticked}
use Rattle.device.specs.Calls.{done, tick_of, ticks_of}
use Rattle.invariant.proofs.Good.{good_of}
use Rattle.invariant.proofs.Settled.{sound_of, Kept, settled-kept}
use Rattle.invariant.proofs.Parts.{sound_registers}
use Rattle.invariant.proofs.Steps.{tick_kept, ticks-kept}
use Rattle.quiet_pulses.proofs.Kept.{kept-settled}

-- some ticks, and then some more
pub ticks-sum : (a b : ℕ) (s : State) → ticks_of (a + b) s ≡ ticks_of b (ticks_of a s)
ticks-sum zero b s =
    let none : 0 + b ≡ b = omega arith in
    ap (λ (n : ℕ). ticks_of n s) none
ticks-sum (suc a) b s =
    let first : suc a + b ≡ suc (a + b) = omega arith in
    ap (λ (n : ℕ). ticks_of n s) first ∙ ticks-sum a b (tick_of s).state

-- the last of t + 1 ticks
ticks-last : (t : ℕ) (s : State) → ticks_of (suc t) s ≡ (tick_of (ticks_of t s)).state
ticks-last zero s = refl
ticks-last (suc t) s = ticks-last t (tick_of s).state

-- the rules that end a step leave it as it is with any k
settled_k : (s : State) → Kept s → (k : ℕ) → settled (with_k s k) ≡ with_k s k
unfolding settled
settled_k s w k = ap (λ (t : State). with_latches (with_k s k) t.latches) (kept-settled s w)

tick_state : (s : State) → Kept s → (tick_of s).state ≡ settled (ticked s)
unfolding tick_of done
tick_state s w = simp w.well

-- with no divisor nothing changes
tick_stopped : (s : State) → Kept s → s.baud.divisor ≡ 0 → (tick_of s).state ≡ s
unfolding ticked
tick_stopped s w z = tick_state s w ∙ simp (eq-eqb s.baud.divisor 0 z) (kept-settled s w)

pub ticks_stopped : (n : ℕ) (s : State) → Kept s → s.baud.divisor ≡ 0 → s ≡ ticks_of n s
ticks_stopped zero s w z = refl
ticks_stopped (suc n) s w z = ticks_stopped n s w z ∙ ap (λ (t : State). ticks_of n t) (sym (tick_stopped s w z))

-- above 1, k falls
tick_counts : (s : State) → Kept s → 1 ≤ s.baud.divisor → 1 < s.baud.k → (tick_of s).state ≡ with_k s (s.baud.k - 1)
unfolding ticked
tick_counts s w d h =
    let d' : s.baud.divisor ≡ 0 → ⊥ = λ z. absurd (omega arith) in
    let k' : s.baud.k - 1 ≡ 0 → ⊥ = λ z. absurd (omega arith) in
    tick_state s w
    ∙ simp (ne_eqb s.baud.divisor 0 d', ne_eqb (s.baud.k - 1) 0 k') (settled_k s w (s.baud.k - 1))

-- at 1 it becomes D and a pulse happens
tick_pulses : (s : State) → Kept s → 1 ≤ s.baud.divisor → s.baud.k ≤ 1 → (tick_of s).state ≡ settled (pulsed (with_k s s.baud.divisor))
unfolding ticked
tick_pulses s w d h =
    let d' : s.baud.divisor ≡ 0 → ⊥ = λ z. absurd (omega arith) in
    let k' : s.baud.k - 1 ≡ 0 = omega arith in
    tick_state s w ∙ simp (ne_eqb s.baud.divisor 0 d', eq-eqb (s.baud.k - 1) 0 k')

-- k may be set at any time
pub k_kept : (s : State) → Kept s → (j : ℕ) → 1 ≤ j → j ≤ s.baud.divisor → Kept (with_k s j)
k_kept s w j some most =
    let sound = sound_of s w.places (good_of s w.well) in
    subst Kept (settled_k s w j) (settled-kept _ (sound_registers sound s.registers _ (omega arith)))

-- a pulse is to come
pub k_some : (s : State) → Kept s → 1 ≤ s.baud.divisor → 1 ≤ s.baud.k
k_some s w d = (good_of s w.well).registers.k_least d

-- fewer ticks than k lower it
pub ticks-count : (m : ℕ) (s : State) → Kept s → 1 ≤ s.baud.divisor → m < s.baud.k → ticks_of m s ≡ with_k s (s.baud.k - m)
ticks-count zero s w d h =
    let same : s.baud.k ≡ s.baud.k - 0 = omega arith in
    ap (λ (j : ℕ). with_k s j) same
ticks-count (suc m) s w d h =
    let one = tick_counts s w d (omega arith) in
    let on = subst Kept one (tick_kept s w.places w.well) in
    let less : s.baud.k - 1 - m ≡ s.baud.k - suc m = omega arith in
    ap (λ (t : State). ticks_of m t) one ∙ ticks-count m (with_k s (s.baud.k - 1)) on d (omega arith) ∙ ap (λ (j : ℕ). with_k s j) less

-- k ticks end with a pulse
pub ticks_pulse : (s : State) → Kept s → 1 ≤ s.baud.divisor → ticks_of s.baud.k s ≡ settled (pulsed (with_k s s.baud.divisor))
ticks_pulse s w d =
    let some = k_some s w d in
    let before = ticks-count (s.baud.k - 1) s w d (omega arith) in
    let last : s.baud.k ≡ suc (s.baud.k - 1) = omega arith in
    let kept = subst Kept before (ticks-kept (s.baud.k - 1) s w) in
    ap (λ (j : ℕ). ticks_of j s) last
    ∙ ticks-last (s.baud.k - 1) s
    ∙ ap (λ (t : State). (tick_of t).state) before
    ∙ tick_pulses (with_k s (s.baud.k - (s.baud.k - 1))) kept d (omega arith)
