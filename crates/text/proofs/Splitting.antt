-- The words of a line, one by one: what stands before the first space, and the words after it.
use Prim.Native.Nat.{ℕ, suc, ◌+◌, ◌-◌, ◌≤◌, ◌<◌}
use mathlib.Core.Path.{◌≡◌, refl, ap, ◌∙◌}
use mathlib.Core.Bool.{Bool, true, false, cond, ◌&&◌}
use Rattle.std.proofs.Common.{None, Some}
use mathlib.Core.List.{List, [], ◌∷◌}
use lib.ListN.{length, take, drop, length-drop}
use lib.Seq.{take_all}
use lib.Dec.{eqb}
use native.Mathlib.Numerals.{add-one}
use native.Mathlib.Decide.{dec_lt}
use native.Mathlib.Omega.{arith}
use borrow.Author.Tests.{lt-leb, eqb-true}
use Rattle.flag.specs.Flag.{all_of}
use Rattle.text.specs.Text.{before}
use Rattle.text.specs.Decimal.{is_digit, number_after, number_of}
use Rattle.text.specs.Words.{joined, words}
use Rattle.text.proofs.Tests.{and_false, cond_same}

pub before-most : (b : ℕ) (l : List ℕ) → before b l ≤ length l
unfolding before
before-most b [] = omega arith
before-most b (c ∷ cs) = go (eqb c b) (before-most b cs)
  where
    go : (t : Bool) → before b cs ≤ length cs → cond t 0 (suc (before b cs)) ≤ suc (length cs)
    go true h = omega arith
    go false h = omega arith

-- a line with no space is one word
pub words_whole : (l : List ℕ) → before 32 l ≡ length l → words l ≡ l ∷ []
unfolding before words
words_whole [] e = refl
words_whole (c ∷ cs) e = go (eqb c 32) (words_whole cs) e
  where
    go : (t : Bool) → (before 32 cs ≡ length cs → words cs ≡ cs ∷ []) → cond t 0 (suc (before 32 cs)) ≡ suc (length cs) → cond t ([] ∷ words cs) (joined c (words cs)) ≡ (c ∷ cs) ∷ []
    go true f e = absurd (omega arith)
    go false f e = ap (joined c) (f (omega arith))

-- a line with a space is what stands before it, and the words after it
pub words_split : (l : List ℕ) → before 32 l < length l → words l ≡ take (before 32 l) l ∷ words (drop (suc (before 32 l)) l)
unfolding before words
words_split [] h = absurd (omega arith)
words_split (c ∷ cs) h = go (eqb c 32) (words_split cs) h
  where
    go : (t : Bool) → (before 32 cs < length cs → words cs ≡ take (before 32 cs) cs ∷ words (drop (suc (before 32 cs)) cs)) → cond t 0 (suc (before 32 cs)) < suc (length cs)
        → cond t ([] ∷ words cs) (joined c (words cs)) ≡ take (cond t 0 (suc (before 32 cs))) (c ∷ cs) ∷ words (drop (suc (cond t 0 (suc (before 32 cs)))) (c ∷ cs))
    go true f h = refl
    go false f h = ap (joined c) (f (omega arith))

-- the same, where the place of the space has a name
pub words-part : (l : List ℕ) (k : ℕ) → k ≡ before 32 l → k < length l → words l ≡ take k l ∷ words (drop (k + 1) l)
words-part l k e h =
    let b : before 32 l < length l = omega arith in
    words_split l b ∙ rw (← e, ← add-one)

-- what is left of a list from a place on, as a part of it
pub rest_of : (l : List ℕ) (k : ℕ) → take (length l - k) (drop k l) ≡ drop k l
rest_of l k = take_all (length l - k) (drop k l) (simp length-drop (omega arith))

-- a line has a first word
pub record Led (l : List ℕ) : Type 0 where
  pub word : List ℕ
  pub others : List (List ℕ)
  pub are : words l ≡ word ∷ others

pub led : (l : List ℕ) → Led l
led l = go (dec_lt (before 32 l) (length l))
  where
    go : Dec (before 32 l < length l) → Led l
    go (yes h) = record { word = take (before 32 l) l; others = words (drop (suc (before 32 l)) l); are = words_split l h }
    go (no n) = record { word = l; others = []; are = words_whole l (omega (arith, n, before-most 32 l)) }

-- a space is no digit
spaced : (l : List ℕ) → before 32 l < length l → all_of is_digit l ≡ false
unfolding before
spaced [] h = absurd (omega arith)
spaced (c ∷ cs) h = go (eqb c 32) refl (spaced cs) h
  where
    go : (t : Bool) → eqb c 32 ≡ t → (before 32 cs < length cs → all_of is_digit cs ≡ false) → cond t 0 (suc (before 32 cs)) < suc (length cs) → is_digit c && all_of is_digit cs ≡ false
    go true e f h =
        let k : c < 48 = omega (arith, eqb-true c 32 e) in
        simp (lt-leb _ _ k)
    go false e f h = rw (f (omega arith)) (and_false (is_digit c))

pub spaced_number : (l : List ℕ) → before 32 l < length l → number_of l ≡ None
unfolding number_of number_after
spaced_number l h = simp (spaced l h, cond_same)

-- a number is one word
pub number_word : (l : List ℕ) (n : ℕ) → number_of l ≡ Some n → words l ≡ l ∷ []
number_word l n e = go (dec_lt (before 32 l) (length l))
  where
    go : Dec (before 32 l < length l) → words l ≡ l ∷ []
    go (yes h) =
        let k = spaced_number l h in
        let z : ◌≡◌ {A = ℕ} 0 1 = cc in
        absurd (omega arith)
    go (no m) = words_whole l (omega (arith, m, before-most 32 l))
