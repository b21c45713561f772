-- The quiet pulse is the pulse that document 01 defines, on a state that the rules which end a step leave as it is.
use Prim.Native.Nat.{ℕ, ◌+◌, ◌%◌}
use native.Mathlib.Decide.{ℕ_discrete}
use native.Mathlib.Omega.{arith}
use mathlib.Core.Path.{◌≡◌, refl, ap, ◌∙◌}
use mathlib.Core.Bool.{Bool, true, false, cond, ◌&&◌, false≢true}
use lib.Dec.{eqb}
use borrow.Author.Tests.{not-true, eq-eqb, ne_eqb, eqb-true}
use Rattle.frame.specs.Frame.{line_level}
use Rattle.queue.specs.declared.Entry.{Entry}
use Rattle.device.specs.declared.Frame.{Frame}
use Rattle.device.specs.declared.Receiver.{Receiver}
use Rattle.device.specs.declared.State.{State}
use Rattle.device.specs.Autoflow.{settled}
use Rattle.device.specs.Transmitter.{line, ready, shifted_out}
use Rattle.device.specs.Receiver.{goes_on, in_character, receiver_pulse}
use Rattle.device.specs.Tick.{pulsed}
use Rattle.clock.specs.declared.QuietPulse.{QuietPulse}
use Rattle.clock.specs.Quiet.{setting_of, assembled, steady, stepped, quiet_of}
use Rattle.std.specs.Prelude.{Option, Some, None, is_some, unwrap_or}
use Rattle.quiet_pulses.proofs.Quiet.{later, heard_quietly, pulsed_quiet}

-- The line is high where nothing is sent, or where SIN is.
line_high : (b : Bool) (x : Frame) (sin : ℕ) → cond b (eqb x.left 0) (eqb sin 1) ≡ true → cond b (line x) sin ≡ 1
unfolding line_level
line_high true x sin e = simp e
line_high false x sin e = eqb-true sin 1 e

-- A pulse that only steps on is the receiver's.
pub steady_receives : (b : Bool) (x : Frame) (sin lcr : ℕ) (v : Receiver) → steady b x.left sin v ≡ true → receiver_pulse (cond b (line x) sin) lcr v ≡ goes_on (stepped v)
unfolding receiver_pulse in_character steady stepped
steady_receives b x sin lcr v e =
    elim (ℕ_discrete v.phase 2) [
      | yes p ↦
          let two : eqb v.phase 2 ≡ true = eq-eqb _ _ p in
          let between : eqb ((v.position + 1) % 16) 8 ≡ false = not-true _ (simp two at e) in
          simp (two, between)
      | no p ↦
          let two : eqb v.phase 2 ≡ false = ne_eqb _ _ p in
          idle two (simp two at e)
    ]
  where
    h : ℕ
    h = cond b (line x) sin

    idle : eqb v.phase 2 ≡ false → cond (eqb v.phase 0) (cond b (eqb x.left 0) (eqb sin 1)) false ≡ true → receiver_pulse h lcr v ≡ goes_on (stepped v)
    idle two f =
        elim (ℕ_discrete v.phase 0) [
          | yes p ↦
              let zero : eqb v.phase 0 ≡ true = eq-eqb _ _ p in
              let high : h ≡ 1 = line_high b x sin (simp zero at f) in
              let one : eqb v.phase 1 ≡ false = ne_eqb v.phase 1 (λ q. absurd (omega (arith, p, q))) in
              let low : eqb h 0 ≡ false = ne_eqb h 0 (λ q. absurd (omega (arith, high, q))) in
              simp (two, one, low)
          | no p ↦ absurd (false≢true (simp (ne_eqb _ _ p) at f))
        ]

-- the state that a quiet pulse leaves
abbrev quieted : State → QuietPulse → State
quieted s q = assembled s s.baud.k q.frame q.receiver q.latches

-- what the quiet pulse leaves is what the pulse leaves
pub quiet_is_pulse : (s : State) (q : QuietPulse) → settled s ≡ s
    → quiet_of (setting_of s) s.frame s.receiver s.latches ≡ Some q
    → settled (pulsed s) ≡ quieted s q
unfolding quiet_of setting_of
quiet_is_pulse s q e = go (eqb (shifted_out s.frame).left 0 && ready s) refl (heard_quietly s).entry refl
  where
    left : QuietPulse
    left = record { frame = shifted_out s.frame; receiver = (heard_quietly s).receiver; latches = later s }

    go : (b : Bool) → (eqb (shifted_out s.frame).left 0 && ready s) ≡ b
        → (d : Option Entry) → (heard_quietly s).entry ≡ d
        → cond b None (cond (is_some d) None (Some left)) ≡ Some q
        → settled (pulsed s) ≡ quieted s q
    go true p d r h = absurd (false≢true (ap is_some h))
    go false p (Some x) r h = absurd (false≢true (ap is_some h))
    go false p None r h =
        pulsed_quiet s e p r ∙ ap (λ (o : Option QuietPulse). quieted s (unwrap_or o left)) h
