-- The loops over a queue's places, over the element, the filler and the number of places: for each a record of what holds
-- at place i, what a turn does and what the loop comes to.
use Prim.Native.Nat.{ℕ, ◌+◌, ◌-◌, ◌≤◌, ◌<◌, min}
use mathlib.Core.Path.{◌≡◌, refl, sym, ap, ◌∙◌}
use mathlib.Core.Bool.{Bool, true, false, cond, not, ◌&&◌, ◌||◌}
use mathlib.Core.List.{List, [], ◌∷◌, ◌++◌, map}
use lib.ListN.{length, get_or, drop, set, length-take, length-drop, length-map, drop_of_length-le}
use lib.Seq.{paste, drop-cons, set_at, get_or-take, take_all}
use native.Mathlib.Numerals.{add-one}
use native.Mathlib.Omega.{arith}
use native.Mathlib.Decide.{dec_lt}
use lib.Dec.{ltb, leb, eqb}
use borrow.Author.Tests.{lt-ltb, le-ltb, le-leb, leb-true, leb-false, not-true, not-false}
use Rattle.flag.specs.Flag.{all_of, any_of, implies}
use Rattle.flag.proofs.Laws.{and_left, and_right}
use Rattle.queue.specs.Queue.{places_put, count_put, shifted, contents}

-- the length of an array of structs, from what owning it tells
pub length_mapped : {A B : Type 0} (f : A → B) (xs : List A) (n : ℕ) → length (map f xs) ≡ n → length xs ≡ n
length_mapped f xs n e = sym (length-map xs f) ∙ e

-- what is left of a list from place i on
drop_at : {A : Type 0} (xs : List A) (i : ℕ) (d : A) → i < length xs → drop i xs ≡ get_or xs i d ∷ drop (i + 1) xs
drop_at xs i d h = rw (add-one, drop-cons xs i d)

-- one test more, the others after it
and_assoc : (a b c : Bool) → ((a && b) && c) ≡ (a && (b && c))
and_assoc true b c = refl
and_assoc false b c = refl

and-true : (a : Bool) → (a && true) ≡ a
and-true true = refl
and-true false = refl

or_assoc : (a b c : Bool) → ((a || b) || c) ≡ (a || (b || c))
or_assoc true b c = refl
or_assoc false b c = refl

or_false : (a : Bool) → (a || false) ≡ a
or_false true = refl
or_false false = refl

-- Testing all: the test of the n places xs gives b, where a is that of those already seen, and the others stand from place i on.
pub record Testing {A : Type 0} (p : A → Bool) (n : ℕ) (xs : List A) (b a : Bool) (i : ℕ) : Type 0 where
  pub long : length xs ≡ n
  pub same : (a && all_of p (drop i xs)) ≡ b

module _ {A : Type 0} {p : A → Bool} {n : ℕ} {xs : List A} {b a : Bool} {i : ℕ} where
  pub test_turns : (d : A) → Testing p n xs b a i → i < n → Testing p n xs b (a && p (get_or xs i d)) (i + 1)
  test_turns d w h =
      let k : i < length xs = omega arith in
      record { long = w.long; same = and_assoc a (p (get_or xs i d)) (all_of p (drop (i + 1) xs)) ∙ rw (drop_at xs i d k) at w.same }

  pub test_ends : Testing p n xs b a i → n ≤ i → a ≡ b
  test_ends w h =
      let k : length xs ≤ i = omega arith in
      sym (and-true a) ∙ rw (drop_of_length-le xs k) at w.same

-- Testing the rest: a is the test of those of the places from m on that are already seen, of the n places xs.
pub record Resting {A : Type 0} (p : A → Bool) (n m : ℕ) (xs : List A) (a : Bool) (i : ℕ) : Type 0 where
  pub long : length xs ≡ n
  pub same : (a && all_of p (drop (m + (i - m)) xs)) ≡ all_of p (drop m xs)

-- the test from place j on
from : {A : Type 0} (p : A → Bool) (xs : List A) {j k : ℕ} → j ≡ k → all_of p (drop j xs) ≡ all_of p (drop k xs)
from p xs e = ap (λ (j : ℕ). all_of p (drop j xs)) e

module _ {A : Type 0} {p : A → Bool} {n m : ℕ} {xs : List A} where
  pub rest_starts : length xs ≡ n → Resting p n m xs true 0
  rest_starts l =
      let start : m + (0 - m) ≡ m = omega arith in
      record { long = l; same = from p xs start }

  module _ {a : Bool} {i : ℕ} (w : Resting p n m xs a i) where
    pub rest_turns : (d : A) → i < n → Resting p n m xs (a && implies (leb m i) (p (get_or xs i d))) (i + 1)
    rest_turns d h = go (leb m i) refl
      where
        go : (t : Bool) → leb m i ≡ t → Resting p n m xs (a && implies t (p (get_or xs i d))) (i + 1)
        go true e =
            let at : m ≤ i = leb-true m i e in
            let now : i ≡ m + (i - m) = omega arith in
            let then : m + (i + 1 - m) ≡ i + 1 = omega arith in
            let seen : Testing p n xs (all_of p (drop m xs)) a i =
            record { long = w.long; same = ap (λ (b : Bool). a && b) (from p xs now) ∙ w.same } in
            record { long = w.long; same = ap (λ (b : Bool). (a && p (get_or xs i d)) && b) (from p xs then) ∙ (test_turns d seen h).same }
        go false e =
            let before : i < m = leb-false m i e in
            let still : m + (i + 1 - m) ≡ m + (i - m) = omega arith in
            record {
              long = w.long;
              same = ap (λ (b : Bool). b && all_of p (drop (m + (i + 1 - m)) xs)) (and-true a) ∙ ap (λ (b : Bool). a && b) (from p xs still) ∙ w.same;
            }

    pub rest-ends : n ≤ i → a ≡ all_of p (drop m xs)
    rest-ends h =
        let k : length xs ≤ m + (i - m) = omega (arith, w.long) in
        sym (and-true a) ∙ rw (drop_of_length-le xs k) at w.same

-- Finding one: the search of the m that are queued in the n places xs gives b, where a is that of those already seen, and the
-- others stand from place i on.
pub record Finding {A : Type 0} (p : A → Bool) (n m : ℕ) (xs : List A) (b a : Bool) (i : ℕ) : Type 0 where
  pub long : length xs ≡ n
  pub same : (a || any_of p (drop i (contents m xs))) ≡ b

module _ {A : Type 0} {p : A → Bool} {n m : ℕ} {xs : List A} {b a : Bool} {i : ℕ} where
  pub find_turns : (d : A) → Finding p n m xs b a i → i < min m n → Finding p n m xs b (a || p (get_or xs i d)) (i + 1)
  find_turns d w h =
      let k : i < m = omega arith in
      let l : i < length (contents m xs) = simp length-take (omega (arith, w.long)) in
      record {
        long = w.long;
        same = or_assoc a (p (get_or xs i d)) (any_of p (drop (i + 1) (contents m xs))) ∙ rw (drop_at (contents m xs) i d l, get_or-take m xs i d k) at w.same;
      }

  pub find_ends : Finding p n m xs b a i → min m n ≤ i → a ≡ b
  find_ends w h =
      let k : length (contents m xs) ≤ i = simp length-take (omega (arith, w.long)) in
      sym (or_false a) ∙ rw (drop_of_length-le (contents m xs) k) at w.same

-- Shifting: n + 1 places of which each but the last has what stood one place further, and the last is then filled.
pub shift_copied : {A : Type 0} (z : A) (xs ys : List A) (n : ℕ) → length xs ≡ n + 1 → ys ≡ paste xs 0 (drop 1 xs) n → set ys n z ≡ shifted z xs
unfolding shifted
shift_copied {A} z xs ys n l w =
    let s : List A = drop 1 xs in
    let long : length s ≡ n = simp length-drop (omega (arith, l)) in
    let m : length s ≤ n = omega (arith, long) in
    let k : n < length xs = omega (arith, l) in
    let o : length xs ≤ n + 1 = omega (arith, l) in
    let e : 0 + n ≡ n = omega arith in
    let copied : paste xs 0 s n ≡ s ++ get_or xs n z ∷ [] = rw (e, take_all n s m, drop_at xs n z k, drop_of_length-le xs o) refl in
    ap (λ (r : List A). set r n z) (w ∙ copied) ∙ set_at s (get_or xs n z) [] z n long

-- A put: a full queue of more than one place keeps its places; else what is put has its place.

module _ {A : Type 0} (c n : ℕ) (xs : List A) (v : A) where
  pub put_keeps : (leb c n && not (eqb c 1)) ≡ true → (places_put c n xs v ≡ xs) × (count_put c n ≡ n)
  unfolding places_put count_put
  put_keeps e =
      let full : c ≤ n = leb-true c n (and_left (leb c n) (not (eqb c 1)) e) in
      let more : eqb c 1 ≡ false = not-true (eqb c 1) (and_right (leb c n) (not (eqb c 1)) e) in
      (simp (le-ltb n c full, more), simp (le-ltb n c full))

  pub put_places : (leb c n && not (eqb c 1)) ≡ false → places_put c n xs v ≡ set xs (cond (ltb n c) n 0) v
  unfolding places_put
  put_places e =
      elim (dec_lt n c) [
        | yes h ↦ simp (lt-ltb n c h)
        | no h ↦
            let full : c ≤ n = omega (arith, h) in
            let one : eqb c 1 ≡ true = not-false (eqb c 1) (simp (le-leb c n full) at e) in
            simp (le-ltb n c full, one)
      ]
