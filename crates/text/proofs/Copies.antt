-- Numbers copied into a buffer.
use Prim.Native.Nat.{ℕ, suc, ◌+◌, ◌≤◌, ◌<◌}
use mathlib.Core.Path.{◌≡◌, refl, sym, ap, ◌∙◌}
use mathlib.Core.List.{List, [], ◌∷◌, ◌++◌, append_assoc, append-nil}
use lib.ListN.{length, get_or, take, set, length-set}
use lib.Seq.{take-suc, take-suc-set, take_all}
use native.Mathlib.Numerals.{add-one}
use native.Mathlib.Omega.{arith}
use Rattle.text.specs.Text.{Appended}

-- Copying: the first i of the numbers ns stand in the buffer from `at` on.
pub record Copying (ns from : List ℕ) (at : ℕ) (to : List ℕ) (i : ℕ) : Type 0 where
  pub most : i ≤ length ns
  pub long : length to ≡ length from
  pub so_far : take (at + i) to ≡ take at from ++ take i ns

pub copy_begins : (ns from : List ℕ) (at : ℕ) → Copying ns from at from 0
copy_begins ns from at =
    let z : at + 0 ≡ at = omega arith in
    record { most = omega arith; long = refl; so_far = rw z (sym (append-nil (take at from))) }

module _ {ns from : List ℕ} {at : ℕ} {to : List ℕ} {i : ℕ} where
  pub copy_turns : (v : ℕ) → Copying ns from at to i → i < length ns → at + length ns ≤ length from → v ≡ get_or ns i 0 → Copying ns from at (set to (at + i) v) (i + 1)
  copy_turns v w h r e =
      let b : at + i < length to = omega (arith, w.long) in
      let p : take (i + 1) ns ≡ take i ns ++ (v ∷ []) = rw (add-one, e) (take-suc ns i 0 h) in
      let q : at + (i + 1) ≡ suc (at + i) = omega arith in
      record {
        most = omega arith;
        long = length-set to (at + i) v ∙ w.long;
        so_far =
            ap (λ (k : ℕ). take k (set to (at + i) v)) q
            ∙ take-suc-set to (at + i) v b
            ∙ ap (λ (s : List ℕ). s ++ (v ∷ [])) w.so_far
            ∙ append_assoc (take at from) (take i ns) (v ∷ [])
            ∙ ap (λ (s : List ℕ). take at from ++ s) (sym p);
      }

  pub copy_ends : Copying ns from at to i → length ns ≤ i → Appended from at ns to (at + length ns)
  copy_ends w h =
      let e : i ≡ length ns = omega (arith, w.most) in
      record {
        holds = rw (← e) w.so_far ∙ ap (λ (s : List ℕ). take at from ++ s) (take_all i ns h);
        place = refl;
      }

  pub copy_ends_at : (n : ℕ) → Copying ns from at to i → length ns ≡ n → n ≤ i → Appended from at ns to (at + n)
  copy_ends_at n w e h = rw e at (copy_ends w (omega arith))
