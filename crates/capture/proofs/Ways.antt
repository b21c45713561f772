-- The ways in which a replay meets a record.
use Prim.Native.Nat.{ℕ, suc}
use mathlib.Core.Path.{◌≡◌, refl}
use mathlib.Core.Bool.{Bool, true, false}
use mathlib.Core.List.{List, [], ◌∷◌}
use Rattle.recorder.specs.Record.{good}
use Rattle.device.specs.declared.State.{State}
use Rattle.recorded.specs.Record.{step_of, differing}
use Rattle.capture.specs.declared.Replayed.{Replayed}
use Rattle.capture.specs.Replay.{replay_from}

-- A fact about a replay, from the three ways in which a record is met.
module _ (P : ℕ → State → List ℕ → Replayed → Type 0) where
  pub record Ways : Type 0 where
    pub end : (place : ℕ) (s : State) → P place s [] (replay_from place s [])
    pub bad : (place : ℕ) (s : State) (w : ℕ) (ws : List ℕ) → good w ≡ false → P place s (w ∷ ws) (replay_from place s (w ∷ ws))
    pub other : (place : ℕ) (s : State) (w : ℕ) (ws : List ℕ) → good w ≡ true → differing s w ≡ true → P place s (w ∷ ws) (replay_from place s (w ∷ ws))
    pub next : (place : ℕ) (s : State) (w : ℕ) (ws : List ℕ) → good w ≡ true → differing s w ≡ false →
        P (suc place) (step_of s w).state ws (replay_from (suc place) (step_of s w).state ws) → P place s (w ∷ ws) (replay_from place s (w ∷ ws))

  pub each_way : Ways → (ws : List ℕ) (place : ℕ) (s : State) → P place s ws (replay_from place s ws)
  each_way a [] place s = a.end place s
  each_way a (w ∷ ws) place s = go (λ t. each_way a ws (suc place) t) (good w) (differing s w) refl refl
    where
      go : ((t : State) → P (suc place) t ws (replay_from (suc place) t ws)) →
          (g d : Bool) → good w ≡ g → differing s w ≡ d → P place s (w ∷ ws) (replay_from place s (w ∷ ws))
      go more false d eg ed = a.bad place s w ws eg
      go more true true eg ed = a.other place s w ws eg ed
      go more true false eg ed = a.next place s w ws eg ed (more (step_of s w).state)
