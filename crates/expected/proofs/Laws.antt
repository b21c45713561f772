-- The capture written by the records that are followed.
use Prim.Native.Nat.{ℕ, zero, suc, ◌≤◌, ◌<◌, min}
use mathlib.Core.Path.{◌≡◌, refl, sym, ap, ◌∙◌}
use mathlib.Core.Bool.{Bool, true, false}
use mathlib.Core.List.{List, [], ◌∷◌}
use lib.ListN.{length, take, drop, length-take}
use lib.Seq.{length-take-le}
use native.Mathlib.Omega.{arith}
use Rattle.recorder.specs.Record.{good}
use Rattle.recorder.specs.File.{known}
use Rattle.device.specs.declared.State.{State}
use Rattle.device.specs.Ranges.{well_formed}
use Rattle.recorded.specs.Record.{step_of, expected}
use Rattle.sequence.specs.Sequence.{Followed, follows, follow_of}
use Rattle.sequence.proofs.Ways.{follow_most}
use Rattle.capture.specs.Replay.{agreed, replay_from, replay_of}
use Rattle.capture.proofs.Laws.{replay_agrees}
use Rattle.expected.specs.declared.Expected.{Expected}
use Rattle.expected.specs.Expected.{Written, writing, expect_from, expect_of, left_number}

-- what is written, by the records followed and those that are left
abbrev pub written_by : Followed → List ℕ → Written
written_by f left =
    record {
      answer = record { number = left_number left; part = 0; count = f.count; state = f.state };
      words = f.words;
    }

-- Of the records, as many are followed as there are words for: m of them.

Follows : State → List ℕ → List ℕ → ℕ → Type 0
Follows s ws xs m =
    expect_from s ws xs ≡ written_by (follow_of false s (take m ws) xs) (drop (follow_of false s (take m ws) xs).count ws)

goes_on : (s : State) (w : ℕ) (ws : List ℕ) (x : ℕ) (xs : List ℕ) (m : ℕ) → Follows (step_of s w).state ws xs m → Follows s (w ∷ ws) (x ∷ xs) (suc m)
unfolding Follows expect_from follow_of follows
goes_on s w ws x xs m more = go (good w) refl
  where
    go : (b : Bool) → good w ≡ b → Follows s (w ∷ ws) (x ∷ xs) (suc m)
    go true e = simp e (ap (writing (expected s w)) more)
    go false e = simp e

expect_follows : (ws xs : List ℕ) (s : State) (m : ℕ) → m ≤ length ws → m ≤ length xs → (m < length ws → m ≡ length xs) → Follows s ws xs m
unfolding Follows expect_from follow_of
expect_follows [] xs s zero h k l = refl
expect_follows [] xs s (suc m) h k l = absurd (omega (arith, h))
expect_follows (w ∷ ws) [] s zero h k l = refl
expect_follows (w ∷ ws) [] s (suc m) h k l = absurd (omega (arith, k))
expect_follows (w ∷ ws) (x ∷ xs) s zero h k l = absurd (omega (arith, l (omega arith)))
expect_follows (w ∷ ws) (x ∷ xs) s (suc m) h k l =
    goes_on s w ws x xs m (expect_follows ws xs (step_of s w).state m (omega (arith, h)) (omega (arith, k)) (λ d. omega (arith, l (omega (arith, d)))))

-- The records followed, with room for them, are those written.

module _ (s : State) (ws xs : List ℕ) (m : ℕ) (f : Followed) (e : f ≡ follow_of false s (take m ws) xs) (n : m ≡ min (length ws) (length xs)) where
  pub expect_writes : (number : ℕ) → number ≡ left_number (drop f.count ws) →
      record { answer = record { number = number; part = 0; count = f.count; state = f.state }; words = f.words } ≡ expect_from s ws xs
  unfolding Follows
  expect_writes number d =
      ap (λ (k : ℕ). record { answer = record { number = k; part = 0; count = f.count; state = f.state }; words = f.words }) d
      ∙ ap (λ (g : Followed). written_by g (drop g.count ws)) e
      ∙ sym (expect_follows ws xs s m (omega (arith, n)) (omega (arith, n)) (λ h. omega (arith, n, h)))

  -- no more than there are words
  pub writes_most : f.count ≤ length xs
  writes_most =
      omega (arith, ap (λ (g : Followed). g.count) e, follow_most false (take m ws) xs s, length-take m ws, n)

-- What is written, replayed: it agrees.
pub writes_agree : (s t : State) (ys : List ℕ) (n : ℕ) → follow_of true s (take n ys) [] ≡ record { count = n; state = t; words = [] } → replay_from 0 s (take n ys) ≡ agreed t
writes_agree s t ys n e =
    sym (replay_agrees s (take n ys) [] (record { count = n; state = t; words = [] }) (sym e) (omega (arith, length-take n ys)))

-- What the call promises.

abbrev Promised : ℕ → State → List ℕ → List ℕ → Expected → List ℕ → Type 0
Promised version s ws xs r ys =
    record {
      outcome : record { answer = r; words = ys } ≡ expect_of version s ws xs;
      replayed : (r.number ≡ 1 → ⊥) → (r.number ≡ 7 → ⊥) → replay_of version s (take r.count ys) ≡ agreed r.state;
      well : well_formed s ≡ true → well_formed r.state ≡ true;
      count_in_bounds : r.count ≤ length ys;
      count_value : r.count ≡ length (take r.count ys);
    }

-- where the records are written
pub records_keep : (version : ℕ) (s : State) (ws xs : List ℕ) (r : Expected) (ys : List ℕ) → well_formed s ≡ true → known version ≡ true → record { answer = r; words = ys } ≡ expect_from s ws xs →
    replay_from 0 s (take r.count ys) ≡ agreed r.state → well_formed r.state ≡ true → r.count ≤ length ys → Promised version s ws xs r ys
unfolding expect_of replay_of
records_keep version s ws xs r ys f v e a w h =
    record {
      outcome = simp (f, v) e;
      replayed = λ p q. simp (f, v) a;
      well = λ _. w;
      count_in_bounds = h;
      count_value = sym (length-take-le r.count ys h);
    }
