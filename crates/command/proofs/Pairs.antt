-- Two numbers.
use Prim.Native.Nat.{ℕ, suc, ◌+◌, ◌≤◌, ◌<◌}
use Rattle.std.proofs.Common.{Option, None, Some}
use mathlib.Core.Path.{◌≡◌, refl, sym, ◌∙◌, subst}
use mathlib.Core.Bool.{true, cond, ◌&&◌}
use mathlib.Core.List.{List}
use lib.ListN.{length, take, drop}
use lib.Dec.{leb}
use native.Mathlib.Decide.{dec_lt}
use native.Mathlib.Omega.{arith}
use borrow.Author.Tests.{le-leb, lt-leb, leb-true}
use Rattle.flag.proofs.Laws.{and_left, and_right}
use Rattle.text.specs.Text.{text, same, before}
use Rattle.text.specs.Decimal.{number_of}
use Rattle.text.specs.Words.{words}
use Rattle.text.proofs.Tests.{and_false, cond_same}
use Rattle.text.proofs.Splitting.{before-most, words_whole, words_split, words-part, led, spaced_number}
use Rattle.command.specs.declared.Call.{Call}
use Rattle.command.specs.declared.Command.{Command}
use Rattle.command.specs.Command.{ranged, one, two, at_most, table, look_up}

-- one number, and no second word
pub one_word : (least most : ℕ) (f : ℕ → Command) (l : List ℕ) → one least most f (words l) ≡ ranged least most f (number_of l)
one_word least most f l = go (dec_lt (before 32 l) (length l))
  where
    go : Dec (before 32 l < length l) → one least most f (words l) ≡ ranged least most f (number_of l)
    go (yes h) = rw (words_split l h, (led (drop (suc (before 32 l)) l)).are, spaced_number l h)
    go (no n) = rw (words_whole l (omega (arith, n, before-most 32 l)))

-- Two numbers, neither above the most: k is the place of the first space.
module _ (most : ℕ) (f : ℕ → ℕ → Command) (l : List ℕ) (k : ℕ) (place : k ≡ 0 + before 32 (drop 0 l)) where
  pub single : k ≡ length l → Command.Bad ≡ two 0 most f (words l)
  single e = rw (words_whole l (omega (arith, place))) (go (number_of l))
    where
      go : (x : Option ℕ) → Command.Bad ≡ ranged 0 most (λ n. Command.Bad) x
      go (Some n) = sym (cond_same (leb 0 n && leb n most) Command.Bad)
      go None = refl

  module _ (h : k < length l) where
    parts : two 0 most f (words l) ≡ ranged 0 most (λ a. one 0 most (f a) (words (drop (k + 1) l))) (number_of (take k l))
    parts = rw (words-part l k (omega (arith, place)) h)

    pub no_first : number_of (take k l) ≡ None → Command.Bad ≡ two 0 most f (words l)
    no_first e = sym (parts ∙ rw e)

    module _ (a : ℕ) (said : number_of (take k l) ≡ Some a) where
      pub large_first : most < a → Command.Bad ≡ two 0 most f (words l)
      large_first m = sym (parts ∙ simp (said, lt-leb _ _ m, and_false))

      after_first : two 0 most f (words l) ≡ cond (leb 0 a && leb a most) (ranged 0 most (f a) (number_of (drop (k + 1) l))) Command.Bad
      after_first = parts ∙ rw (said, one_word 0 most (f a) (drop (k + 1) l))

      pub no_second : number_of (drop (k + 1) l) ≡ None → Command.Bad ≡ two 0 most f (words l)
      no_second e = sym (after_first ∙ rw (e, cond_same))

      module _ (b : ℕ) (follows : number_of (drop (k + 1) l) ≡ Some b) where
        pub large_second : most < b → Command.Bad ≡ two 0 most f (words l)
        large_second m = sym (after_first ∙ simp (follows, lt-leb _ _ m, and_false, cond_same))

        pub both_numbers : a ≤ most → b ≤ most → f a b ≡ two 0 most f (words l)
        both_numbers m n = sym (after_first ∙ simp (follows, le-leb 0 a (omega arith), le-leb _ _ m, le-leb 0 b (omega arith), le-leb _ _ n))

-- two numbers that were read
pub small_numbers : {most : ℕ} {o : Option (ℕ × ℕ)} {p : ℕ × ℕ} → o ≡ Some p → at_most most o ≡ true → (p.0 ≤ most) × (p.1 ≤ most)
small_numbers {most} {o} {p} e t =
    let both : leb p.0 most && leb p.1 most ≡ true = subst (λ (o : Option (ℕ × ℕ)). at_most most o ≡ true) e t in
    (leb-true _ _ (and_left (leb p.0 most) _ both), leb-true _ _ (and_right (leb p.0 most) _ both))

-- The rows that have two.
pub write_row : (ws : List (List ℕ)) → two 0 255 (λ a b. Command.Step (Call.Write a b)) ws ≡ look_up table (text "write") ws
unfolding look_up table same
write_row ws = refl

pub divisor-row : (ws : List (List ℕ)) → two 0 4294967295 Command.Divisor ws ≡ look_up table (text "divisor") ws
unfolding look_up table same
divisor-row ws = refl
