-- Numbers read one by one into a buffer that has to have room for them.
use Prim.Native.Nat.{ℕ, suc, ◌+◌, ◌-◌, ◌≤◌, ◌<◌}
use Rattle.std.proofs.Common.{Option, None, Some, is_some, unwrap_or}
use mathlib.Core.Path.{◌≡◌, refl, sym, ap, ◌∙◌}
use mathlib.Core.Bool.{Bool, true, false, cond, false≢true}
use mathlib.Core.List.{List, [], ◌∷◌, ◌++◌}
use lib.ListN.{length, take, drop, set, length-set, length-drop}
use lib.Seq.{take_all, take-take, take-suc-set, drop-drop, append_snoc}
use lib.Dec.{leb}
use native.Mathlib.Numerals.{add-one}
use native.Mathlib.Decide.{dec_le, dec_lt}
use native.Mathlib.Omega.{arith}
use borrow.Author.Tests.{le-leb, lt-leb}
use Rattle.text.specs.Text.{before}
use Rattle.text.specs.Decimal.{number_of}
use Rattle.text.specs.Words.{words}
use Rattle.command.specs.Command.{all_numbers, few_numbers, numbers_in, values_of}
use Rattle.text.proofs.Tests.{and_false}
use Rattle.text.proofs.Splitting.{words_whole, words-part, Led, led}

-- the same test of two pairs of numbers
same_test : (a b c d : ℕ) → (a ≤ b → c ≤ d) → (c ≤ d → a ≤ b) → leb a b ≡ leb c d
same_test a b c d f g = go (dec_le a b)
  where
    go : Dec (a ≤ b) → leb a b ≡ leb c d
    go (yes h) = simp (le-leb _ _ h, le-leb _ _ (f h))
    go (no n) =
        let h : b < a = omega (arith, n) in
        let k : (c ≤ d → ⊥) = λ e. n (g e) in
        let m : d < c = omega (arith, k) in
        simp (lt-leb _ _ h, lt-leb _ _ m)

-- a first word that is no number
no_number : (k : ℕ) (w : List ℕ) (ws : List (List ℕ)) → number_of w ≡ None → few_numbers k (w ∷ ws) ≡ false
unfolding few_numbers all_numbers
no_number k w ws e = simp (e, and_false)

-- a first word that is one
pub one_number : (k n : ℕ) (w : List ℕ) (ws : List (List ℕ)) → number_of w ≡ Some n → 0 < k → few_numbers k (w ∷ ws) ≡ few_numbers (k - 1) ws
unfolding few_numbers all_numbers
one_number k n w ws e h =
    simp (e, same_test (suc (length ws)) k (length ws) (k - 1) (λ (p : suc (length ws) ≤ k). omega arith) (λ (p : length ws ≤ k - 1). omega arith))

-- more words than places
too_many : (w : List ℕ) (ws : List (List ℕ)) → few_numbers 0 (w ∷ ws) ≡ false
unfolding few_numbers
too_many w ws =
    let h : 0 < suc (length ws) = omega arith in
    simp (lt-leb _ _ h)

-- no word is left
none_left : (k : ℕ) → few_numbers k [] ≡ true
unfolding few_numbers all_numbers
none_left k =
    let h : 0 ≤ k = omega arith in
    simp (le-leb _ _ h)

one_value : (n : ℕ) (w : List ℕ) (ws : List (List ℕ)) → number_of w ≡ Some n → values_of (w ∷ ws) ≡ n ∷ values_of ws
unfolding values_of
one_value n w ws e = simp e

-- how many numbers are read
pub numbers-none : (k : ℕ) (ws : List (List ℕ)) → few_numbers k ws ≡ false → None ≡ numbers_in k ws
unfolding numbers_in
numbers-none k ws e = simp e

pub numbers-all : (k : ℕ) (ws : List (List ℕ)) → few_numbers k ws ≡ true → Some (length ws) ≡ numbers_in k ws
unfolding numbers_in
numbers-all k ws e = simp e

pub all_few : (k n : ℕ) (ws : List (List ℕ)) → Some n ≡ numbers_in k ws → (few_numbers k ws ≡ true) × (length ws ≡ n)
unfolding numbers_in
all_few k n ws e = go (few_numbers k ws) refl e
  where
    go : (t : Bool) → few_numbers k ws ≡ t → Some n ≡ cond t (Some (length ws)) None → (few_numbers k ws ≡ true) × (length ws ≡ n)
    go true p e = (p, ap (λ (o : Option ℕ). unwrap_or o 0) (sym e))
    go false p e = absurd (false≢true (sym (ap is_some e)))

pub not_few : (k : ℕ) (ws : List (List ℕ)) → None ≡ numbers_in k ws → few_numbers k ws ≡ false
unfolding numbers_in
not_few k ws e = go (few_numbers k ws) refl e
  where
    go : (t : Bool) → few_numbers k ws ≡ t → None ≡ cond t (Some (length ws)) None → few_numbers k ws ≡ false
    go true p e = absurd (false≢true (ap is_some e))
    go false p e = p

-- Filling: the first i numbers of a line stand in the buffer, and the word of the next begins at `at`.
pub record Filling (l from to : List ℕ) (at i : ℕ) : Type 0 where
  pub most : i ≤ length from
  pub inside : at ≤ length l
  pub long : length to ≡ length from
  pub rest : few_numbers (length from - i) (words (drop at l)) ≡ few_numbers (length from) (words l)
  pub count : i + length (words (drop at l)) ≡ length (words l)
  pub values : values_of (words l) ≡ take i to ++ values_of (words (drop at l))

pub fill_begins : (l from : List ℕ) → Filling l from from 0 0
fill_begins l from =
    let z : length from - 0 ≡ length from = omega arith in
    record { most = omega arith; inside = omega arith; long = refl; rest = ap (λ (k : ℕ). few_numbers k (words l)) z; count = omega arith; values = refl }

module _ {l from to : List ℕ} {at i : ℕ} where
  pub fill_ends : Filling l from to at i → length from ≤ i → None ≡ numbers_in (length from) (words l)
  fill_ends f h =
      let z : length from - i ≡ 0 = omega arith in
      let g : Led (drop at l) = led (drop at l) in
      let e : few_numbers (length from) (words l) ≡ false = sym f.rest ∙ rw (z, g.are) (too_many g.word g.others) in
      numbers-none (length from) (words l) e

  module _ (end : ℕ) (place : end ≡ at + before 32 (drop at l)) where
    in_word : Filling l from to at i → end - at ≡ before 32 (drop at l)
    in_word f = omega (arith, place)

    first_whole : Filling l from to at i → end ≡ length l → words (drop at l) ≡ take (end - at) (drop at l) ∷ []
    first_whole f e =
        let b : before 32 (drop at l) ≡ length (drop at l) = simp length-drop (omega (arith, place, f.inside)) in
        let t : take (end - at) (drop at l) ≡ drop at l = take_all (end - at) (drop at l) (simp length-drop (omega (arith, f.inside))) in
        words_whole (drop at l) b ∙ rw t

    first_part : Filling l from to at i → end < length l → words (drop at l) ≡ take (end - at) (drop at l) ∷ words (drop (end + 1) l)
    first_part f h =
        let k : end - at < length (drop at l) = simp length-drop (omega (arith, place)) in
        let s : at + (end - at + 1) ≡ end + 1 = omega (arith, place) in
        words-part (drop at l) (end - at) (in_word f) k ∙ rw (drop-drop (end - at + 1) at l, s)

    pub fill_no_number : Filling l from to at i → end ≤ length l → number_of (take (end - at) (drop at l)) ≡ None → None ≡ numbers_in (length from) (words l)
    fill_no_number f h e = numbers-none (length from) (words l) (sym f.rest ∙ go (dec_lt end (length l)))
      where
        go : Dec (end < length l) → few_numbers (length from - i) (words (drop at l)) ≡ false
        go (yes k) = ap (few_numbers (length from - i)) (first_part f k) ∙ no_number (length from - i) _ (words (drop (end + 1) l)) e
        go (no n) = ap (few_numbers (length from - i)) (first_whole f (omega (arith, n))) ∙ no_number (length from - i) _ [] e

    module _ (n : ℕ) (said : number_of (take (end - at) (drop at l)) ≡ Some n) where
      pub fill_turns : Filling l from to at i → i < length from → end < length l → Filling l from (set to i n) (end + 1) (i + 1)
      fill_turns f h k =
          let w : List ℕ = take (end - at) (drop at l) in
          let ws : List (List ℕ) = words (drop (end + 1) l) in
          let z : length from - i - 1 ≡ length from - (i + 1) = omega arith in
          let p : 0 < length from - i = omega arith in
          let b : i < length to = omega (arith, f.long) in
          let t : take (i + 1) (set to i n) ≡ take i to ++ (n ∷ []) = rw add-one (take-suc-set to i n b) in
          let c : length (words (drop at l)) ≡ suc (length ws) = ap length (first_part f k) in
          record {
            most = omega arith;
            inside = omega arith;
            long = length-set to i n ∙ f.long;
            rest = ap (λ (m : ℕ). few_numbers m ws) (sym z) ∙ sym (one_number (length from - i) n w ws said p) ∙ sym (ap (few_numbers (length from - i)) (first_part f k)) ∙ f.rest;
            count = omega (arith, f.count, c);
            values =
                f.values
                ∙ ap (λ (vs : List (List ℕ)). take i to ++ values_of vs) (first_part f k)
                ∙ ap (λ (vs : List ℕ). take i to ++ vs) (one_value n w ws said)
                ∙ sym (append_snoc (take i to) n (values_of ws))
                ∙ ap (λ (vs : List ℕ). vs ++ values_of ws) (sym t);
          }

      pub fill_last : Filling l from to at i → i < length from → end ≡ length l → Some (i + 1) ≡ numbers_in (length from) (words l)
      fill_last f h e =
          let w : List ℕ = take (end - at) (drop at l) in
          let p : 0 < length from - i = omega arith in
          let c : length (words (drop at l)) ≡ 1 = ap length (first_whole f e) in
          let d : i + 1 ≡ length (words l) = omega (arith, f.count, c) in
          let a : few_numbers (length from) (words l) ≡ true =
          sym f.rest
          ∙ ap (few_numbers (length from - i)) (first_whole f e)
          ∙ one_number (length from - i) n w [] said p
          ∙ none_left (length from - i - 1) in
          ap Some d ∙ numbers-all (length from) (words l) a

      pub fill_all : Filling l from to at i → i < length from → end ≡ length l → take (i + 1) (set to i n) ≡ take (i + 1) (values_of (words l))
      unfolding values_of
      fill_all f h e =
          let w : List ℕ = take (end - at) (drop at l) in
          let b : i < length to = omega (arith, f.long) in
          let v : take (i + 1) (set to i n) ≡ values_of (words l) =
          rw add-one (take-suc-set to i n b)
          ∙ sym (ap (λ (vs : List ℕ). take i to ++ vs) (one_value n w [] said))
          ∙ sym (ap (λ (vs : List (List ℕ)). take i to ++ values_of vs) (first_whole f e))
          ∙ sym f.values in
          let r : i + 1 ≤ i + 1 = omega arith in
          sym (take-take (i + 1) (i + 1) (set to i n) r) ∙ ap (take (i + 1)) v
