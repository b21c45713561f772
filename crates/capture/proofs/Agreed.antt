-- A replay that agrees: every read saw the model's byte, and the state is that of the steps one by one.
use Prim.Native.Nat.{ℕ}
use mathlib.Core.Path.{◌≡◌, refl, sym, ap, ◌∙◌}
use mathlib.Core.Bool.{true, false, not, false≢true}
use mathlib.Core.List.{List, [], ◌∷◌, ◌++◌}
use lib.Dec.{eqb}
use lib.ListN.{length, get_or, drop}
use native.Mathlib.Omega.{arith}
use borrow.Author.Tests.{eqb-true, not-false}
use Rattle.recorder.specs.Record.{byte, is_read}
use Rattle.device.specs.declared.State.{State}
use Rattle.recorded.specs.Record.{step_of, model_byte, differing}
use Rattle.invariant.proofs.Settled.{Kept}
use Rattle.capture.specs.declared.Outcome.{Outcome}
use Rattle.capture.specs.Replay.{agreeing}
use Rattle.capture.specs.Replay.{steps_of, replay_from, Agrees}
use Rattle.recorded.proofs.Laws.{step_kept}
use Rattle.capture.proofs.Ways.{each_way}

pub not_refused : {number part place : ℕ} → Outcome.Refused number part place ≡ Outcome.Agreed → ⊥
not_refused e = false≢true (ap agreeing e)

not_differs : {place seen model : ℕ} → Outcome.Differs place seen model ≡ Outcome.Agreed → ⊥
not_differs e = false≢true (ap agreeing e)

-- A read that does not differ saw the model's byte.
saw : (s : State) (w : ℕ) → differing s w ≡ false → is_read w ≡ true → byte w ≡ model_byte s w
unfolding differing
saw s w d r =
    let n : not (eqb (byte w) (model_byte s w)) ≡ false = simp r at d in
    eqb-true (byte w) (model_byte s w) (not-false _ n)

-- with the first record in front
joined : (s : State) (w : ℕ) (ws : List ℕ) (end : State) → differing s w ≡ false → Agrees (step_of s w).state ws end → Agrees s (w ∷ ws) end
joined s w ws end d a = record { reads = reads; steps = a.steps; well = a.well }
  where
    reads : (before : List ℕ) (v : ℕ) (after : List ℕ) → w ∷ ws ≡ before ++ (v ∷ after) → is_read v ≡ true → byte v ≡ model_byte (steps_of before s) v
    reads [] v after e r =
        let same : w ≡ v = ap (λ (l : List ℕ). get_or l 0 0) e in
        saw s v (ap (differing s) (sym same) ∙ d) r
    reads (b ∷ before) v after e r =
        let same : w ≡ b = ap (λ (l : List ℕ). get_or l 0 0) e in
        a.reads before v after (ap (drop 1) e) r ∙ ap (λ (x : ℕ). model_byte (steps_of before (step_of s x).state) v) same

nothing : (before : List ℕ) (v : ℕ) (after : List ℕ) → [] ≡ before ++ (v ∷ after) → ⊥
nothing [] v after h = absurd (omega (arith, ap (length {A = ℕ}) h))
nothing (b ∷ before) v after h = absurd (omega (arith, ap (length {A = ℕ}) h))

pub agrees : (ws : List ℕ) (place : ℕ) (s : State) → Kept s → (replay_from place s ws).outcome ≡ Outcome.Agreed → Agrees s ws (replay_from place s ws).state
unfolding replay_from
agrees =
    each_way (λ place s ws r. Kept s → r.outcome ≡ Outcome.Agreed → Agrees s ws r.state)
    (record {
      end = λ place s k e. record { reads = λ before v after h r. absurd (nothing before v after h); steps = refl; well = k.well };
      bad = λ place s w ws g k e. absurd (not_refused (simp g at e));
      other = λ place s w ws g d k e. absurd (not_differs (simp (g, d) at e));
      next = λ place s w ws g d later k e. simp (g, d) (joined s w ws _ d (later (step_kept s w k) (simp (g, d) at e)));
    })
