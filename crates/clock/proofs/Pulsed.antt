-- Ticks are pulses, and k in between.
use Prim.Native.Nat.{ℕ, zero, suc, ◌+◌, ◌-◌, ◌*◌, ◌/◌, ◌%◌, ◌≤◌, ◌<◌}
use native.Mathlib.Nat.{mod-lt, div-add-mod', div-le_self}
use native.Mathlib.Omega.{arith}
use mathlib.Core.Path.{◌≡◌, refl, sym, ap, ◌∙◌}
use Rattle.device.specs.declared.Baud.{Baud}
use Rattle.device.specs.declared.State.{State}
use Rattle.device.specs.State.{with_k}
use Rattle.device.specs.Autoflow.{settled}
use Rattle.device.specs.Tick.{pulsed}
use Rattle.device.specs.Calls.{ticks_of}
use Rattle.invariant.proofs.Settled.{Kept}
use Rattle.invariant.proofs.Touched.{pulsed_touches}
use Rattle.quiet_pulses.specs.Quiet.{pulses_of}
use Rattle.quiet_pulses.proofs.Kept.{pulses_kept}
use Rattle.clock.proofs.Event.{pulse_k}
use Rattle.clock.proofs.Ticked.{ticks-sum, ticks-count, ticks_pulse, k_kept}

-- no more pulses than ticks
pub pulses_few : (k d n : ℕ) → 1 ≤ k → k ≤ n → 1 + (n - k) / d ≤ n
pulses_few k d n some within = omega (arith, div-le_self (n - k) d)

-- some pulses, and then some more
pub pulses_sum : (a b : ℕ) (s : State) → pulses_of (a + b) s ≡ pulses_of b (pulses_of a s)
unfolding pulses_of
pulses_sum a zero s =
    let none : a + 0 ≡ a = omega arith in
    ap (λ (n : ℕ). pulses_of n s) none
pulses_sum a (suc b) s =
    let last : a + suc b ≡ suc (a + b) = omega arith in
    ap (λ (n : ℕ). pulses_of n s) last ∙ ap (λ (t : State). settled (pulsed t)) (pulses_sum a b s)

-- they leave D and k as they are
pub pulses_baud : (m : ℕ) (s : State) → (pulses_of m s).baud ≡ s.baud
unfolding pulses_of settled
pulses_baud zero s = refl
pulses_baud (suc m) s = ap (λ (t : State). t.baud) (pulsed_touches (pulses_of m s)) ∙ pulses_baud m s

-- and do not look at k
pulses_k : (m : ℕ) (s : State) (k : ℕ) → pulses_of m (with_k s k) ≡ with_k (pulses_of m s) k
unfolding pulses_of
pulses_k zero s k = refl
pulses_k (suc m) s k = ap (λ (t : State). settled (pulsed t)) (pulses_k m s k) ∙ pulse_k (pulses_of m s) k

module _ (s : State) (w : Kept s) (some : 1 ≤ s.baud.divisor) where
  abbrev d : ℕ
  d = s.baud.divisor

  -- the state as its next pulse finds it
  abbrev at_pulse : State
  at_pulse = with_k s d

  at_kept : Kept at_pulse
  at_kept = k_kept s w d some (omega arith)

  -- after a pulse k is D
  again : (m : ℕ) → ticks_of d (pulses_of m at_pulse) ≡ pulses_of (suc m) at_pulse
  unfolding pulses_of
  again m =
      let u = pulses_of m at_pulse in
      let baud : u.baud ≡ record { divisor = d; k = d } = pulses_baud m at_pulse in
      let divisor : u.baud.divisor ≡ d = ap (λ (b : Baud). b.divisor) baud in
      let k : u.baud.k ≡ d = ap (λ (b : Baud). b.k) baud in
      let same : with_k u u.baud.divisor ≡ u = ap (λ (j : ℕ). with_k u j) (divisor ∙ sym k) in
      ap (λ (j : ℕ). ticks_of j u) (sym k)
      ∙ ticks_pulse u (pulses_kept m at_pulse at_kept) (omega arith)
      ∙ ap (λ (t : State). settled (pulsed t)) same

  -- k ticks, and then m times D
  ticks_pulses : (m : ℕ) → ticks_of (s.baud.k + m * d) s ≡ pulses_of (suc m) at_pulse
  unfolding pulses_of
  ticks_pulses zero =
      let none : s.baud.k + 0 * d ≡ s.baud.k = omega arith in
      ap (λ (j : ℕ). ticks_of j s) none ∙ ticks_pulse s w some
  ticks_pulses (suc m) =
      let more : s.baud.k + suc m * d ≡ s.baud.k + m * d + d = omega arith in
      ap (λ (j : ℕ). ticks_of j s) more
      ∙ ticks-sum (s.baud.k + m * d) d s
      ∙ ap (λ (t : State). ticks_of d t) (ticks_pulses m)
      ∙ again (suc m)

  -- n ticks, at least k: the pulses in them, with k as the ticks after the last leave it
  pub ticks_by_pulses : (n : ℕ) → s.baud.k ≤ n
      → ticks_of n s ≡ pulses_of (1 + (n - s.baud.k) / d) (with_k s (d - (n - s.baud.k) % d))
  ticks_by_pulses n within =
      let rest = n - s.baud.k in
      let q = rest / d in
      let u = pulses_of (suc q) at_pulse in
      let baud : u.baud ≡ record { divisor = d; k = d } = pulses_baud (suc q) at_pulse in
      let divisor : u.baud.divisor ≡ d = ap (λ (b : Baud). b.divisor) baud in
      let k : u.baud.k ≡ d = ap (λ (b : Baud). b.k) baud in
      let parts = div-add-mod' rest d in
      let short : rest % d < d = mod-lt rest (omega arith) in
      let all : n ≡ s.baud.k + q * d + rest % d = omega arith in
      let one : 1 + q ≡ suc q = omega arith in
      ap (λ (j : ℕ). ticks_of j s) all
      ∙ ticks-sum (s.baud.k + q * d) (rest % d) s
      ∙ ap (λ (t : State). ticks_of (rest % d) t) (ticks_pulses q)
      ∙ ticks-count (rest % d) u (pulses_kept (suc q) at_pulse at_kept) (omega arith) (omega arith)
      ∙ ap (λ (j : ℕ). with_k u (j - rest % d)) k
      ∙ sym (pulses_k (suc q) at_pulse (d - rest % d))
      ∙ ap (λ (j : ℕ). pulses_of j (with_k s (d - rest % d))) (sym one)
