-- Texts: the search for a byte, the comparison of two, and what is appended to a buffer.
use Prim.Native.Nat.{ℕ, suc, ◌+◌, ◌≤◌, ◌<◌}
use mathlib.Core.Path.{◌≡◌, sym, refl, ap, ◌∙◌}
use mathlib.Core.Bool.{Bool, true, false, cond, not, ◌&&◌}
use mathlib.Core.List.{List, [], ◌∷◌, ◌++◌, append_assoc}
use lib.ListN.{length, get_or, take, drop, set, length-append, length-take}
use lib.Seq.{take_all, drop-cons, take-suc-set}
use lib.Dec.{eqb}
use native.Mathlib.Numerals.{add-one}
use native.Mathlib.Omega.{arith}
use native.Mathlib.Decide.{dec_lt}
use borrow.Author.Tests.{eqb-true, lt-ltb, le-ltb}
use Rattle.std.proofs.Common.{Option, unwrap_or}
use Rattle.std.specs.List.{position, position_or_len}
use Rattle.std.specs.Str.{bytes_eq}
use Rattle.std.proofs.lemmas.List.Sums.{prefix_len-le-length}
use Rattle.text.specs.Text.{same, before, Appended}

-- what is left of a list from place i on
pub drop_at : {A : Type 0} (xs : List A) (i : ℕ) (d : A) → i < length xs → drop i xs ≡ get_or xs i d ∷ drop (i + 1) xs
drop_at xs i d h = rw (add-one, drop-cons xs i d)

-- the first b of a list, as the library's search finds it
before_position : (b : ℕ) (l : List ℕ) → position_or_len (λ (c : ℕ). eqb c b) l ≡ before b l
unfolding before
before_position b [] = refl
before_position b (c ∷ cs) = go (eqb c b) (before_position b cs)
  where
    go : (t : Bool) → position_or_len (λ (c : ℕ). eqb c b) cs ≡ before b cs → cond (not t) (1 + position_or_len (λ (c : ℕ). eqb c b) cs) 0 ≡ cond t 0 (suc (before b cs))
    go true e = refl
    go false e = omega (arith, e)

pub before_found : (b : ℕ) (l : List ℕ) (r : Option ℕ) → r ≡ position (λ (c : ℕ). eqb c b) l → unwrap_or r (length l) ≡ before b l
before_found b l r e = ap (λ (o : Option ℕ). unwrap_or o (length l)) e ∙ go (dec_lt (position_or_len (λ (c : ℕ). eqb c b) l) (length l)) ∙ before_position b l
  where
    go : Dec (position_or_len (λ (c : ℕ). eqb c b) l < length l) → unwrap_or (position (λ (c : ℕ). eqb c b) l) (length l) ≡ position_or_len (λ (c : ℕ). eqb c b) l
    go (yes h) = simp (lt-ltb _ _ h)
    go (no n) =
        let m = prefix_len-le-length (λ (c : ℕ). not (eqb c b)) l in
        let h : length l ≤ position_or_len (λ (c : ℕ). eqb c b) l = omega (arith, n) in
        simp (le-ltb _ _ h) (omega (arith, m))

-- the comparison of two texts is the library's
pub same_is : (a b : List ℕ) → bytes_eq a b ≡ same a b
unfolding same
same_is [] [] = refl
same_is [] (d ∷ ds) = refl
same_is (c ∷ cs) [] = refl
same_is (c ∷ cs) (d ∷ ds) = ap (λ (t : Bool). eqb c d && t) (same_is cs ds)

-- two texts that are the same are equal
pub same_equal : (a b : List ℕ) → same a b ≡ true → a ≡ b
unfolding same
same_equal [] [] e = refl
same_equal [] (y ∷ ys) e = let z : ◌≡◌ {A = ℕ} 0 1 = cc in absurd (omega arith)
same_equal (x ∷ xs) [] e = let z : ◌≡◌ {A = ℕ} 0 1 = cc in absurd (omega arith)
same_equal (x ∷ xs) (y ∷ ys) e = go (eqb x y) refl (same_equal xs ys) e
  where
    go : (t : Bool) → eqb x y ≡ t → (same xs ys ≡ true → xs ≡ ys) → t && same xs ys ≡ true → x ∷ xs ≡ y ∷ ys
    go true d f g =
        let p : x ≡ y = eqb-true x y d in
        let q : xs ≡ ys = f g in
        cc
    go false d f g = let z : ◌≡◌ {A = ℕ} 0 1 = cc in absurd (omega arith)

-- Appending.

-- one byte more
pub appended_one : (from : List ℕ) (at v g : ℕ) → at < length from → v ≡ g → Appended from at (g ∷ []) (set from at v) (at + 1)
appended_one from at v g h e =
    record { holds = rw (add-one, e) (take-suc-set from at g h); place = refl }

-- one text after another
pub appended_then : {a b c : List ℕ} {at mid end : ℕ} {s t : List ℕ} → Appended a at s b mid → Appended b mid t c end → Appended a at (s ++ t) c end
appended_then {a = a} {at = at} {s = s} {t = t} p q =
    record {
      holds = q.holds ∙ rw p.holds (append_assoc (take at a) s t);
      place = omega (arith, p.place, q.place, length-append s t);
    }

-- the same text in other words
pub appended_as : {a b : List ℕ} {at end : ℕ} {s t : List ℕ} → s ≡ t → Appended a at s b end → Appended a at t b end
appended_as e p = rw e at p

-- what fills the buffer from its start is all of it
pub appended_whole : {from to : List ℕ} {s : List ℕ} → Appended from 0 s to (0 + length s) → length to ≡ length s → to ≡ s
appended_whole {to = to} {s = s} p l = sym (take_all (0 + length s) to (omega arith)) ∙ p.holds

-- what was appended ends within the buffer
pub appended_room : (from : List ℕ) (at : ℕ) (s to : List ℕ) (end : ℕ) → Appended from at s to end → at ≤ length from → end ≤ length to
appended_room from at s to end p h =
    let a : length (take end to) ≡ length (take at from) + length s = ap length p.holds ∙ length-append (take at from) s in
    omega (arith, p.place, a, length-take end to, length-take at from)
