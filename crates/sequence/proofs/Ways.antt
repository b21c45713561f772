-- The ways in which records are followed.
use Prim.Native.Nat.{ℕ, ◌≤◌, ◌<◌}
use mathlib.Core.Path.{◌≡◌, refl}
use mathlib.Core.Bool.{Bool, true, false}
use mathlib.Core.List.{List, [], ◌∷◌}
use lib.ListN.{length, get_or}
use native.Mathlib.Omega.{arith}
use Rattle.device.specs.declared.State.{State}
use Rattle.recorded.specs.Record.{step_of, expected}
use Rattle.sequence.specs.Sequence.{Followed, staying, onward, writing, follows, follow_of}

-- A fact about followed records, from the ways in which one is met.
module _ (compare : Bool) (P : State → List ℕ → List ℕ → Followed → Type 0) where
  pub record Ways : Type 0 where
    pub end : (s : State) (xs : List ℕ) → P s [] xs (staying s xs)
    pub stop : (s : State) (w : ℕ) (ws xs : List ℕ) → follows compare s w ≡ false → P s (w ∷ ws) xs (staying s xs)
    pub next : (s : State) (w : ℕ) (ws : List ℕ) → follows compare s w ≡ true →
        P (step_of s w).state ws [] (follow_of compare (step_of s w).state ws []) → P s (w ∷ ws) [] (onward (follow_of compare (step_of s w).state ws []))
    pub write : (s : State) (w : ℕ) (ws : List ℕ) (x : ℕ) (xs : List ℕ) → follows compare s w ≡ true →
        P (step_of s w).state ws xs (follow_of compare (step_of s w).state ws xs) → P s (w ∷ ws) (x ∷ xs) (writing (expected s w) (follow_of compare (step_of s w).state ws xs))

  pub each_way : Ways → (ws xs : List ℕ) (s : State) → P s ws xs (follow_of compare s ws xs)
  unfolding follow_of
  each_way a [] xs s = a.end s xs
  each_way a (w ∷ ws) [] s = go (λ t. each_way a ws [] t) (follows compare s w) refl
    where
      go : ((t : State) → P t ws [] (follow_of compare t ws [])) → (b : Bool) → follows compare s w ≡ b → P s (w ∷ ws) [] (follow_of compare s (w ∷ ws) [])
      go more false e = simp e (a.stop s w ws [] e)
      go more true e = simp e (a.next s w ws e (more (step_of s w).state))
  each_way a (w ∷ ws) (x ∷ xs) s = go (λ t. each_way a ws xs t) (follows compare s w) refl
    where
      go : ((t : State) → P t ws xs (follow_of compare t ws xs)) → (b : Bool) → follows compare s w ≡ b → P s (w ∷ ws) (x ∷ xs) (follow_of compare s (w ∷ ws) (x ∷ xs))
      go more false e = simp e (a.stop s w ws (x ∷ xs) e)
      go more true e = simp e (a.write s w ws x xs e (more (step_of s w).state))

-- No more records are followed than there are.
pub follow_most : (compare : Bool) (ws xs : List ℕ) (s : State) → (follow_of compare s ws xs).count ≤ length ws
follow_most compare =
    each_way compare (λ s ws xs f. f.count ≤ length ws)
    (record {
      end = λ s xs. omega arith;
      stop = λ s w ws xs e. omega arith;
      next = λ s w ws e h. omega (arith, h);
      write = λ s w ws x xs e h. omega (arith, h);
    })

-- The record at which it stops is not followed.
pub follow_stops : (compare : Bool) (ws xs : List ℕ) (s : State) → (follow_of compare s ws xs).count < length ws →
    follows compare (follow_of compare s ws xs).state (get_or ws (follow_of compare s ws xs).count 0) ≡ false
follow_stops compare =
    each_way compare (λ s ws xs f. f.count < length ws → follows compare f.state (get_or ws f.count 0) ≡ false)
    (record {
      end = λ s xs h. absurd (omega (arith, h));
      stop = λ s w ws xs e h. e;
      next = λ s w ws e more h. more (omega (arith, h));
      write = λ s w ws x xs e more h. more (omega (arith, h));
    })
