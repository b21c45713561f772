-- The words of `expect`: the run of them as it was lent, and the line of numbers that has it.
use Prim.Native.Nat.{ℕ, zero, suc, ◌+◌, ◌-◌, ◌≤◌}
use mathlib.Core.Path.{◌≡◌, refl, ap, ◌∙◌}
use mathlib.Core.List.{List, ◌∷◌, ◌++◌}
use lib.ListN.{length, take, drop, replicate, length-append, length-replicate}
use lib.Seq.{take-append_seam}
use native.Mathlib.Omega.{arith}
use Rattle.text.specs.Decimal.{line_of}
use Rattle.text.proofs.Decimals.{line_room}
use Rattle.command.specs.Command.{most_room}
use Rattle.current.specs.Current.{longest_answer}

take_same : (x n m : ℕ) → n ≤ m → take n (replicate m x) ≡ replicate n x
take_same x zero m h = refl
take_same x (suc n) zero h = absurd (omega arith)
take_same x (suc n) (suc m) h = ap (λ (l : List ℕ). x ∷ l) (take_same x n m (omega arith))

-- The numbers of an answer are all the same before; `expect` is lent so many from the third on.
module _ (x room : ℕ) (h : room ≤ most_room) where
  abbrev before : List ℕ
  before = replicate (most_room + 2) x

  abbrev lent : List ℕ
  lent = take (room + 2 - 2) (drop 2 before)

  abbrev behind : List ℕ
  behind = drop (room + 2 - 2) (drop 2 before)

  pub words_lent : lent ≡ replicate room x
  words_lent =
      let e : room + 2 - 2 ≡ room = omega arith in
      ap (λ (n : ℕ). take n (replicate most_room x)) e ∙ take_same x room most_room h

  -- then it has as many words in their place
  module _ (ws : List ℕ) (same : length ws ≡ length lent) where
    long : length ws ≡ room
    long = same ∙ ap length words_lent ∙ length-replicate room x

    pub words_fit : room + 2 ≤ suc (suc (length (ws ++ behind)))
    words_fit = omega (arith, long, length-append ws behind)

    -- and the two before them are these
    module _ (a b : ℕ) where
      abbrev after : List ℕ
      after = a ∷ b ∷ ws ++ behind

      pub words_said : take (room + 2) after ≡ a ∷ b ∷ ws
      words_said =
          let e : room + 2 ≡ suc (suc (length ws)) = omega (arith, long) in
          ap (λ (n : ℕ). take n after) e ∙ ap (λ (l : List ℕ). a ∷ b ∷ l) (take-append_seam ws behind)

      pub words_count : room + 2 ≡ length (take (room + 2) after)
      words_count = omega (arith, long, ap length words_said)

      pub words-room : (at n : ℕ) → at + longest_answer ≤ n → at + length (line_of (take (room + 2) after)) ≤ n
      words-room at n k = omega (arith, h, k, words_count, line_room (take (room + 2) after))
