-- What a put and a take do to what is queued and to the places, over the element and the capacity.
use Prim.Native.Nat.{ℕ, zero, suc, ◌+◌, ◌-◌, ◌≤◌, ◌<◌}
use mathlib.Core.Path.{◌≡◌, refl, sym, ap}
use mathlib.Core.Bool.{Bool, true, false, cond}
use mathlib.Core.List.{List, [], ◌∷◌, ◌++◌}
use lib.ListN.{length, get_or, drop, set, length-append, length-drop, length-set}
use lib.Seq.{take-suc-set, take-append-le, drop-set-lt, drop-drop}
use lib.Dec.{ltb, eqb}
use native.Mathlib.Numerals.{add-one}
use native.Mathlib.Omega.{arith}
use borrow.Author.Tests.{le-leb, lt-ltb, ltb-true, ltb-false}
use Rattle.flag.specs.Flag.{all_of}
use Rattle.flag.proofs.Laws.{tests, by_test, and_left, and_right, and_both}
use Rattle.queue.specs.Queue.{places_put, count_put, shifted, contents, no_bytes, byte_rest, no_entries, entry_rest, entries_within}

module _ {A : Type 0} where
  -- a claim about the places after a put, from the claim about a store of v and about the places as they were
  pub put_by : (P : List A → Type 0) (c n : ℕ) (xs : List A) (v : A) → ((i : ℕ) → P (set xs i v)) → P xs → P (places_put c n xs v)
  unfolding places_put
  put_by P c n xs v f w = by_test P (ltb n c) _ _ (λ _. search f) (λ _. by_test P (eqb c 1) _ _ (λ _. search f) (λ _. w))

  -- a put keeps the number of places
  pub length_put : (c n : ℕ) (xs : List A) (v : A) → length (places_put c n xs v) ≡ length xs
  length_put c n xs v = put_by (λ ys. length ys ≡ length xs) c n xs v (λ i. length-set xs i v) refl

  -- a take keeps the number of places
  pub length-shifted : (z : A) (xs : List A) → 1 ≤ length xs → length (shifted z xs) ≡ length xs
  unfolding shifted
  length-shifted z xs h = simp (length-append, length-drop) (omega arith)

  -- First in, first out.

  -- what is put comes behind what is queued
  pub put_contents : (c n : ℕ) (xs : List A) (v : A) → n < c → c ≤ length xs → contents (count_put c n) (places_put c n xs v) ≡ contents n xs ++ (v ∷ [])
  unfolding places_put count_put
  put_contents c n xs v h k =
      let m : n < length xs = omega arith in
      rw (lt-ltb n c h, add-one) (take-suc-set xs n v m)

  -- the first of what is queued is the oldest, and the rest stays queued after a take
  pub take-oldest : (z : A) (n : ℕ) (xs : List A) → 0 < n → n ≤ length xs → contents n xs ≡ get_or xs 0 z ∷ contents (n - 1) (shifted z xs)
  unfolding shifted
  take-oldest z zero xs h k = absurd (omega arith)
  take-oldest z (suc n) [] h k = absurd (omega arith)
  take-oldest z (suc n) (x ∷ xs) h k =
      let e : suc n - 1 ≡ n = omega arith in
      rw (e, take-append-le n xs (z ∷ []) (omega arith))

  -- a take removes the first of what is queued
  pub take-contents : (z : A) (n : ℕ) (xs : List A) → 0 < n → n ≤ length xs → contents (n - 1) (shifted z xs) ≡ drop 1 (contents n xs)
  take-contents z n xs h k = sym (ap (λ (r : List A). drop 1 r) (take-oldest z n xs h k))

  -- a full queue of a capacity other than 1 keeps what is queued
  pub full_contents : (c n : ℕ) (xs : List A) (v : A) → c ≤ n → (c ≡ 1 → ⊥) → contents (count_put c n) (places_put c n xs v) ≡ contents n xs
  unfolding places_put count_put
  full_contents c n xs v h k = simp (tests, h, k)

  -- a full queue of one place has its element replaced
  pub full_replaced : (xs : List A) (v : A) → 1 ≤ length xs → contents (count_put 1 1) (places_put 1 1 xs v) ≡ v ∷ []
  unfolding places_put count_put
  full_replaced xs v h = take-suc-set xs 0 v h

  -- A test of the places.

  -- a test that all places pass is kept by a store of what passes it
  pub all_set : (p : A → Bool) (xs : List A) (i : ℕ) (v : A) → all_of p xs ≡ true → p v ≡ true → all_of p (set xs i v) ≡ true
  all_set p [] i v w t = refl
  all_set p (x ∷ xs) zero v w t = and_both (p v) (all_of p xs) t (and_right (p x) (all_of p xs) w)
  all_set p (x ∷ xs) (suc i) v w t =
      and_both (p x) (all_of p (set xs i v)) (and_left (p x) (all_of p xs) w) (all_set p xs i v (and_right (p x) (all_of p xs) w) t)

  -- all places from n on pass a test that all pass
  pub all_drop : (p : A → Bool) (n : ℕ) (xs : List A) → all_of p xs ≡ true → all_of p (drop n xs) ≡ true
  all_drop p zero xs w = w
  all_drop p (suc n) [] w = refl
  all_drop p (suc n) (x ∷ xs) w = all_drop p n xs (and_right (p x) (all_of p xs) w)

  -- all places from n on pass it with ys behind, where all of ys pass it
  pub all_append : (p : A → Bool) (n : ℕ) (xs ys : List A) → all_of p (drop n xs) ≡ true → all_of p ys ≡ true → all_of p (drop n (xs ++ ys)) ≡ true
  all_append p n [] ys w u = all_drop p n ys u
  all_append p zero (x ∷ xs) ys w u =
      and_both (p x) (all_of p (xs ++ ys)) (and_left (p x) (all_of p xs) w) (all_append p zero xs ys (and_right (p x) (all_of p xs) w) u)
  all_append p (suc n) (x ∷ xs) ys w u = all_append p n xs ys w u

  -- a test that all places pass is kept by a put of what passes it
  pub all_put : (p : A → Bool) (c n : ℕ) (xs : List A) (v : A) → all_of p xs ≡ true → p v ≡ true → all_of p (places_put c n xs v) ≡ true
  all_put p c n xs v w t = put_by (λ ys. all_of p ys ≡ true) c n xs v (λ i. all_set p xs i v w t) w

  -- a test that all places beyond the count pass is kept by a put
  pub rest_put : (p : A → Bool) (c n : ℕ) (xs : List A) (v : A) → all_of p (drop n xs) ≡ true → 1 ≤ c → all_of p (drop (count_put c n) (places_put c n xs v)) ≡ true
  unfolding places_put count_put
  rest_put p c n xs v w h = go (ltb n c) refl
    where
      go : (t : Bool) → ltb n c ≡ t → all_of p (drop (cond t (n + 1) n) (cond t (set xs n v) (cond (eqb c 1) (set xs 0 v) xs))) ≡ true
      go true e =
          let m : n < n + 1 = omega arith in
          rw (drop-set-lt (n + 1) xs n v m, ← drop-drop 1 n xs) (all_drop p 1 (drop n xs) w)
      go false e =
          let m : 0 < n = omega (arith, ltb-false n c e) in
          by_test (λ ys. all_of p (drop n ys) ≡ true) (eqb c 1) _ _ (λ _. rw (drop-set-lt n xs 0 v m) w) (λ _. w)

  -- a test that all places beyond the count pass is kept by a take, where the filler passes it
  pub rest_taken : (p : A → Bool) (z : A) (n : ℕ) (xs : List A) → p z ≡ true → all_of p (drop n xs) ≡ true → all_of p (drop (n - 1) (shifted z xs)) ≡ true
  unfolding shifted
  rest_taken p z n xs t w = all_append p (n - 1) (drop 1 xs) (z ∷ []) (go n w) (and_both (p z) true t refl)
    where
      go : (m : ℕ) → all_of p (drop m xs) ≡ true → all_of p (drop (m - 1) (drop 1 xs)) ≡ true
      go zero u = all_drop p 1 xs u
      go (suc m) u =
          let e : 1 + (suc m - 1) ≡ suc m = omega arith in
          rw (drop-drop (suc m - 1) 1 xs, e) u

  -- a test that all places pass is kept by a take, where the filler passes it
  pub all_taken : (p : A → Bool) (z : A) (xs : List A) → all_of p xs ≡ true → p z ≡ true → all_of p (shifted z xs) ≡ true
  all_taken p z xs w t = rest_taken p z 0 xs t w

-- The count against the capacity.

-- a put keeps the count within the capacity
pub count_put_lem : (c n : ℕ) → n ≤ c → count_put c n ≤ c
unfolding count_put
count_put_lem c n h = by_test (λ m. m ≤ c) (ltb n c) _ _ (λ e. omega (arith, ltb-true n c e)) (λ _. h)

-- a take keeps the count within the capacity
pub count_taken : (c n : ℕ) → n ≤ c → n - 1 ≤ c
count_taken c n h = omega arith

-- The empty queues.

-- 64 places of bytes
pub no_bytes_long : length no_bytes.bytes ≡ 64
unfolding no_bytes
no_bytes_long = refl

-- all zero
pub no_bytes-rest : byte_rest no_bytes ≡ true
unfolding no_bytes byte_rest
no_bytes-rest = refl

-- 64 places of entries
pub no_entries_long : length no_entries.entries ≡ 64
unfolding no_entries
no_entries_long = refl

-- all zero
pub no_entries-rest : entry_rest no_entries ≡ true
unfolding no_entries entry_rest
no_entries-rest = refl

-- with no error
pub no_entries-within : (n : ℕ) → entries_within n no_entries ≡ true
unfolding no_entries entries_within
no_entries-within n = rw (le-leb 0 n (omega arith))
