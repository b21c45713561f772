-- The loops over the numbers of a state that make arrays of them.
use Prim.Native.Nat.{ℕ, zero, suc, ◌+◌, ◌-◌, ◌*◌, ◌%◌, ◌≤◌, ◌<◌}
use mathlib.Core.Path.{◌≡◌, refl, sym, ap, ◌∙◌}
use mathlib.Core.List.{List, [], ◌∷◌, ◌++◌, map, append-nil}
use lib.ListN.{length, get_or, take, drop, set, replicate, get_or-map}
use lib.Seq.{take-suc, take_all, set_at, append_snoc, length-take-le, drop-drop}
use native.Mathlib.Numerals.{add-one}
use native.Mathlib.Omega.{arith}
use Rattle.queue.specs.declared.Entry.{Entry}
use Rattle.numbers.specs.Numbers.{low, entry_of, entries_of}

-- Making: of the n places ys the first i are those of the list xs, the others as they were made.
pub record Making {A : Type 0} (z : A) (n : ℕ) (xs ys : List A) (i : ℕ) : Type 0 where
  pub long : length xs ≡ n
  pub most : i ≤ n
  pub so_far : ys ≡ take i xs ++ replicate (n - i) z

module _ {A : Type 0} {z : A} {n : ℕ} {xs ys : List A} {i : ℕ} where
  pub make_turns : (v : A) → Making z n xs ys i → i < n → v ≡ get_or xs i z → Making z n xs (set ys i v) (i + 1)
  make_turns v w h e =
      let rest : List A = replicate (n - (i + 1)) z in
      let k : n - i ≡ suc (n - (i + 1)) = omega arith in
      let m : i < length xs = omega (arith, w.long) in
      let t : take (i + 1) xs ≡ take i xs ++ (v ∷ []) = rw (add-one, e) (take-suc xs i z m) in
      record {
        long = w.long;
        most = omega arith;
        so_far =
            ap (λ (r : List A). set r i v) (w.so_far ∙ ap (λ (j : ℕ). take i xs ++ replicate j z) k)
            ∙ set_at (take i xs) z rest v i (length-take-le i xs (omega arith))
            ∙ sym (append_snoc (take i xs) v rest)
            ∙ ap (λ (r : List A). r ++ rest) (sym t);
      }

  pub make_ends : Making z n xs ys i → n ≤ i → ys ≡ xs
  make_ends w h =
      let k : n - i ≡ 0 = omega arith in
      w.so_far ∙ rw k (append-nil (take i xs) ∙ take_all i xs (omega (arith, w.long)))

-- the bytes of numbers
pub low_at : (ns : List ℕ) (i : ℕ) → get_or ns i 0 % 256 ≡ get_or (map low ns) i 0
low_at ns i = sym (get_or-map low ns i 0)

-- the entries of numbers
pub entries_count : (k : ℕ) (ns : List ℕ) → length (entries_of k ns) ≡ k
unfolding entries_of
entries_count zero ns = refl
entries_count (suc k) ns = ap suc (entries_count k (drop 4 ns))

pub entry_at : (k : ℕ) (ns : List ℕ) (i : ℕ) (d : Entry) → i < k → entry_of (drop (4 * i) ns) ≡ get_or (entries_of k ns) i d
unfolding entries_of
entry_at zero ns i d h = absurd (omega arith)
entry_at (suc k) ns zero d h = refl
entry_at (suc k) ns (suc i) d h =
    let e : 4 * suc i ≡ 4 + 4 * i = omega arith in
    ap (λ (m : ℕ). entry_of (drop m ns)) e ∙ ap entry_of (sym (drop-drop (4 * i) 4 ns)) ∙ entry_at k (drop 4 ns) i d (omega arith)
