-- A part of a file, replayed block by block: a block after the other answers as all at once.
use Prim.Native.Nat.{ℕ, ◌+◌, ◌-◌, ◌*◌, ◌/◌, ◌%◌, ◌≤◌}
use mathlib.Core.Path.{◌≡◌, sym, ap, ◌∙◌}
use mathlib.Core.List.{List, [], ◌++◌, append_assoc, append-nil}
use lib.ListN.{length, take, drop, length-drop, take-append-drop, drop_of_length-le}
use lib.Seq.{length-take-le, take_all, drop-length, drop-drop}
use native.Mathlib.Omega.{arith}
use Rattle.recorder.proofs.Laws.{left}
use Rattle.capture_file.specs.declared.Progress.{Progress}
use Rattle.capture_file.specs.File.{rest_of}

-- The bytes before a place are replayed.
pub record Blocks (p : Progress) (bytes : List ℕ) (q : Progress) (at : ℕ) : Type 0 where
  pub most : at ≤ length bytes
  pub whole : at % 4 ≡ 0
  pub place : q.place ≤ p.place + at / 4
  pub same : (rest : List ℕ) → rest_of q (drop at bytes ++ rest) ≡ rest_of p (bytes ++ rest)

module _ {p q : Progress} {bytes : List ℕ} {at : ℕ} (b : Blocks p bytes q at) where
  abbrev part : ℕ → List ℕ
  part n = take n (drop at bytes)

  long : (n : ℕ) → at + n ≤ length bytes → length (part n) ≡ n
  long n h = length-take-le n (drop at bytes) (omega (arith, length-drop at bytes))

  joined : (n : ℕ) → part n ++ drop (at + n) bytes ≡ drop at bytes
  joined n = ap (λ (l : List ℕ). part n ++ l) (sym (drop-drop n at bytes)) ∙ take-append-drop n (drop at bytes)

  -- the next n bytes replayed too
  abbrev Next : Progress → ℕ → Type 0
  Next r n = (rest : List ℕ) → rest_of r (left (part n) ++ rest) ≡ rest_of q (part n ++ rest)

  next : (r : Progress) (n : ℕ) → Next r n → (rest : List ℕ) → rest_of r (left (part n) ++ (drop (at + n) bytes ++ rest)) ≡ rest_of p (bytes ++ rest)
  next r n step rest =
      step (drop (at + n) bytes ++ rest)
      ∙ ap (rest_of q) (sym (append_assoc (part n) (drop (at + n) bytes) rest) ∙ ap (λ (l : List ℕ). l ++ rest) (joined n))
      ∙ b.same rest

  -- whole records
  pub block_done : (r : Progress) (n end : ℕ) → n % 4 ≡ 0 → at + n ≡ end → end ≤ length bytes → Next r n → r.place ≤ q.place + length (part n) / 4 → Blocks p bytes r end
  block_done r n end e f h step place =
      let m : length (part n) ≡ n = long n (omega (arith, f)) in
      let all : 4 * (length (part n) / 4) ≡ length (part n) = omega (arith, m) in
      let none : left (part n) ≡ [] = ap (λ (i : ℕ). drop i (part n)) all ∙ drop-length (part n) in
      record {
        most = h;
        whole = omega (arith, b.whole);
        place = omega (arith, b.place, b.whole, m);
        same =
            λ rest.
            ap (λ (i : ℕ). rest_of r (drop i bytes ++ rest)) (sym f)
            ∙ ap (λ (l : List ℕ). rest_of r (l ++ (drop (at + n) bytes ++ rest))) (sym none)
            ∙ next r n step rest;
      }

  -- the last part
  pub last_done : (r : Progress) (n : ℕ) → at + n ≡ length bytes → Next r n → (rest : List ℕ) → rest_of r (left bytes ++ rest) ≡ rest_of p (bytes ++ rest)
  last_done r n e step rest =
      let d : length (drop at bytes) ≡ length bytes - at = length-drop at bytes in
      let all : part n ≡ drop at bytes = take_all n (drop at bytes) (omega (arith, d)) in
      let place : at + 4 * (length (drop at bytes) / 4) ≡ 4 * (length bytes / 4) = omega (arith, d, b.whole, b.most) in
      let same : left (part n) ≡ left bytes =
      ap left all ∙ drop-drop (4 * (length (drop at bytes) / 4)) at bytes ∙ ap (λ (i : ℕ). drop i bytes) place
      in
      let none : drop (at + n) bytes ≡ [] = drop_of_length-le bytes {i = at + n} (omega (arith, e)) in
      ap (λ (l : List ℕ). rest_of r (l ++ rest)) (sym same)
      ∙ ap (λ (l : List ℕ). rest_of r (left (part n) ++ (l ++ rest))) (sym none)
      ∙ next r n step rest

  pub last-place : (r : Progress) (n : ℕ) → at + n ≡ length bytes → r.place ≤ q.place + length (part n) / 4 → r.place ≤ p.place + length bytes / 4
  last-place r n e h = omega (arith, b.place, b.whole, long n (omega arith))

-- The end of a file: its whole records are replayed, and the bytes that are left end it.
pub rest-ends : (p q : Progress) (bytes : List ℕ) (n : ℕ) → length bytes ≤ 4 * (length bytes / 4) + n →
    ((rest : List ℕ) → rest_of q (left bytes ++ rest) ≡ rest_of p (bytes ++ rest)) → rest_of q (take n (left bytes)) ≡ rest_of p bytes
rest-ends p q bytes n h step =
    let d : length (left bytes) ≤ n = omega (arith, length-drop (4 * (length bytes / 4)) bytes) in
    ap (rest_of q) (take_all n (left bytes) d ∙ sym (append-nil (left bytes))) ∙ step [] ∙ ap (rest_of p) (append-nil bytes)
