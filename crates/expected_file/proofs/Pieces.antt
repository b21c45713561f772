-- A part of a file, written anew piece by piece.
use Prim.Native.Nat.{ℕ, ◌+◌, ◌-◌, ◌*◌, ◌/◌, ◌%◌, ◌≤◌, ◌<◌}
use mathlib.Core.Path.{◌≡◌, refl, sym, ap, ap₂, subst, ◌∙◌}
use mathlib.Core.List.{List, [], ◌++◌, append_assoc, append-nil}
use lib.ListN.{length, take, drop, length-drop, length-append, take-append-drop, drop_of_length-le}
use lib.Seq.{length-take-le, take_all, drop-drop, take-append-add, take-append-le, drop-append-add, drop-append-le}
use native.Mathlib.Omega.{arith}
use borrow.Author.Tests.{ne_eqb}
use Rattle.recorder.proofs.Laws.{left, length_left}
use Rattle.expected_file.specs.declared.Progress.{Progress}
use Rattle.expected_file.specs.File.{Made, after, made_by, rest_of, Ready}
use Rattle.expected_file.proofs.Carried.{after-after, rest-none, last_none, last_left}

-- The bytes before a place are written anew, those behind it are as they were.
pub record Pieces (p : Progress) (bytes₀ : List ℕ) (q : Progress) (bytes : List ℕ) (at : ℕ) : Type 0 where
  pub going : q.number ≡ 0
  pub most : at ≤ length bytes₀
  pub whole : at % 4 ≡ 0
  pub long : length bytes ≡ length bytes₀
  pub kept : drop at bytes ≡ drop at bytes₀
  pub same : (rest : List ℕ) → after (take at bytes) (rest_of q (drop at bytes₀ ++ rest)) ≡ rest_of p (bytes₀ ++ rest)

pub pieces_none : (p : Progress) (bytes : List ℕ) → p.number ≡ 0 → Pieces p bytes p bytes 0
pieces_none p bytes z = record { going = z; most = omega arith; whole = refl; long = refl; kept = refl; same = λ rest. refl }

-- A part that was written anew, up to a record that is refused, as the contract of `go_on` has it.
abbrev pub Went : Progress → List ℕ → Progress → List ℕ → Type 0
Went p bytes₀ t bytes =
    record {
      by_index : (rest : List ℕ) → after (take (4 * t.count) bytes) (rest_of t (left bytes₀ ++ rest)) ≡ rest_of p (bytes₀ ++ rest);
      bytes_unchanged : drop (4 * t.count) bytes ≡ drop (4 * t.count) bytes₀;
      count_in_bounds : 4 * t.count ≤ length bytes;
      count_value : 4 * t.count ≡ length (take (4 * t.count) bytes);
      ready : t.number ≡ 0 → Ready t;
    }

-- after a refusal nothing is written
pub went_nowhere : (p t : Progress) (bytes : List ℕ) → t ≡ record { number = p.number; part = p.part; version = p.version; count = 0; state = p.state } →
    (p.number ≡ 0 → ⊥) → Went p bytes t bytes
went_nowhere p t bytes e n =
    subst (λ (x : Progress). Went p bytes x bytes) (sym e)
    (record {
      by_index = λ rest. rest-none _ _ (ne_eqb _ _ n) ∙ sym (rest-none p (bytes ++ rest) (ne_eqb _ _ n));
      bytes_unchanged = refl;
      count_in_bounds = omega arith;
      count_value = refl;
      ready = λ z. absurd (n z);
    })

-- The next n bytes: what a piece was, and what was put in its place.
module _ {p q : Progress} {bytes₀ bytes : List ℕ} {at : ℕ} (b : Pieces p bytes₀ q bytes at) (n : ℕ) (r : Progress) (part : List ℕ)
    (within : at + n ≤ length bytes₀)
    (as_long : length part ≡ length (take n (drop at bytes)))
    (step : (rest : List ℕ) → after (take (4 * r.count) part) (rest_of r (left (take n (drop at bytes)) ++ rest)) ≡ rest_of q (take n (drop at bytes) ++ rest))
    (same-behind : drop (4 * r.count) part ≡ drop (4 * r.count) (take n (drop at bytes)))
    (count_most : r.count ≤ length (take n (drop at bytes)) / 4) where
  abbrev piece : List ℕ
  piece = take n (drop at bytes)

  abbrev put : List ℕ
  put = take at bytes ++ (part ++ drop n (drop at bytes))

  -- the place behind the last record written
  abbrev end : ℕ
  end = 4 * (at / 4 + r.count)

  n_long : length piece ≡ n
  n_long = length-take-le n (drop at bytes) (omega (arith, length-drop at bytes, b.long))

  start_long : length (take at bytes) ≡ at
  start_long = length-take-le at bytes (omega (arith, b.most, b.long))

  end_is : end ≡ at + 4 * r.count
  end_is = omega (arith, b.whole)

  fits : 4 * r.count ≤ length part
  fits = omega (arith, as_long, count_most)

  pub put_long : length put ≡ length bytes₀
  put_long =
      omega
      (arith, length-append (take at bytes) (part ++ drop n (drop at bytes)), length-append part (drop n (drop at bytes)), length-drop n (drop at bytes), length-drop at bytes, start_long, as_long, n_long, within, b.long)

  pub end_within : end ≤ length put
  end_within = omega (arith, put_long, end_is, fits, as_long, n_long, within)

  pub end_written : end ≡ length (take end put)
  end_written = sym (length-take-le end put end_within)

  -- what is written
  written : take end put ≡ take at bytes ++ take (4 * r.count) part
  written =
      ap (λ (m : ℕ). take m put) (end_is ∙ ap (λ (m : ℕ). m + 4 * r.count) (sym start_long))
      ∙ take-append-add (take at bytes) (part ++ drop n (drop at bytes)) (4 * r.count)
      ∙ ap (λ (l : List ℕ). take at bytes ++ l) (take-append-le (4 * r.count) part (drop n (drop at bytes)) fits)

  -- what is behind it
  pub behind : drop end put ≡ drop end bytes₀
  behind =
      ap (λ (m : ℕ). drop m put) (end_is ∙ ap (λ (m : ℕ). m + 4 * r.count) (sym start_long))
      ∙ drop-append-add (take at bytes) (part ++ drop n (drop at bytes)) (4 * r.count)
      ∙ drop-append-le (4 * r.count) part (drop n (drop at bytes)) fits
      ∙ ap (λ (l : List ℕ). l ++ drop n (drop at bytes)) same-behind
      ∙ sym (drop-append-le (4 * r.count) piece (drop n (drop at bytes)) (omega (arith, fits, as_long)))
      ∙ ap (drop (4 * r.count)) (take-append-drop n (drop at bytes) ∙ b.kept)
      ∙ drop-drop (4 * r.count) at bytes₀
      ∙ ap (λ (m : ℕ). drop m bytes₀) (sym end_is)

  joined : piece ++ drop (at + n) bytes₀ ≡ drop at bytes₀
  joined = ap (λ (l : List ℕ). take n l ++ drop (at + n) bytes₀) b.kept ∙ ap (λ (l : List ℕ). take n (drop at bytes₀) ++ l) (sym (drop-drop n at bytes₀)) ∙ take-append-drop n (drop at bytes₀)

  -- what is made of all, where the bytes left of the piece and those behind it are still to come
  on : (rest : List ℕ) → after (take end put) (rest_of r (left piece ++ (drop (at + n) bytes₀ ++ rest))) ≡ rest_of p (bytes₀ ++ rest)
  on rest =
      let more : List ℕ = drop (at + n) bytes₀ ++ rest in
      ap (λ (l : List ℕ). after l (rest_of r (left piece ++ more))) written
      ∙ after-after (take at bytes) (take (4 * r.count) part) (rest_of r (left piece ++ more))
      ∙ ap (after (take at bytes)) (step more)
      ∙ ap (λ (l : List ℕ). after (take at bytes) (rest_of q l)) (sym (append_assoc piece (drop (at + n) bytes₀) rest) ∙ ap (λ (l : List ℕ). l ++ rest) joined)
      ∙ b.same rest

  -- whole records, of which none is refused
  pub piece_done : (place : ℕ) → at + n ≡ place → n % 4 ≡ 0 → r.number ≡ 0 → r.count ≡ length piece / 4 → Pieces p bytes₀ r put place
  piece_done place f e z all =
      let ends : end ≡ place = omega (arith, end_is, all, n_long, e, f) in
      let none : left piece ≡ [] = drop_of_length-le piece {i = 4 * (length piece / 4)} (omega (arith, n_long, e)) in
      let rests : (rest : List ℕ) → left piece ++ (drop (at + n) bytes₀ ++ rest) ≡ drop end bytes₀ ++ rest =
      λ rest. ap (λ (l : List ℕ). l ++ (drop (at + n) bytes₀ ++ rest)) none ∙ ap (λ (m : ℕ). drop m bytes₀ ++ rest) (f ∙ sym ends)
      in
      subst (λ (m : ℕ). Pieces p bytes₀ r put m) ends
      (record {
        going = z;
        most = omega (arith, ends, f, within);
        whole = omega (arith, b.whole, e, ends, f);
        long = put_long;
        kept = behind;
        same = λ rest. ap (λ (l : List ℕ). after (take end put) (rest_of r l)) (sym (rests rest)) ∙ on rest;
      })

  -- the progress with all that was written
  abbrev all-counted : Progress
  all-counted = record { number = r.number; part = r.part; version = r.version; count = at / 4 + r.count; state = r.state }

  count_apart : (l : List ℕ) → rest_of all-counted l ≡ rest_of r l
  unfolding rest_of
  count_apart l = refl

  went : (t : Progress) → t ≡ all-counted → ((rest : List ℕ) → rest_of r (left bytes₀ ++ rest) ≡ rest_of r (left piece ++ (drop (at + n) bytes₀ ++ rest))) → (r.number ≡ 0 → Ready r) → Went p bytes₀ t put
  went t e same ready =
      subst (λ (x : Progress). Went p bytes₀ x put) (sym e)
      (record {
        by_index = λ rest. ap (after (take end put)) (count_apart (left bytes₀ ++ rest) ∙ same rest) ∙ on rest;
        bytes_unchanged = behind;
        count_in_bounds = end_within;
        count_value = end_written;
        ready = λ z. record { none_bad = (ready z).none_bad; well = (ready z).well; known-version = (ready z).known-version };
      })

  -- a record is refused
  pub piece_stops : (t : Progress) → t ≡ all-counted → (r.number ≡ 0 → ⊥) → Went p bytes₀ t put
  piece_stops t e no_more =
      let none : (l m : List ℕ) → rest_of r l ≡ rest_of r m = λ l m. rest-none r l (ne_eqb _ _ no_more) ∙ sym (rest-none r m (ne_eqb _ _ no_more)) in
      went t e (λ rest. none (left bytes₀ ++ rest) (left piece ++ (drop (at + n) bytes₀ ++ rest))) (λ z. absurd (no_more z))

  -- the last piece
  pub piece_last : (t : Progress) → t ≡ all-counted → at + n ≡ length bytes₀ → (r.number ≡ 0 → Ready r) → Went p bytes₀ t put
  piece_last t e f ready =
      let d : length (drop at bytes₀) ≡ length bytes₀ - at = length-drop at bytes₀ in
      let all : piece ≡ drop at bytes₀ = ap (take n) b.kept ∙ take_all n (drop at bytes₀) (omega (arith, d, f)) in
      let place : at + 4 * (length (drop at bytes₀) / 4) ≡ 4 * (length bytes₀ / 4) = omega (arith, d, b.whole, b.most) in
      let lefts : left piece ≡ left bytes₀ =
      ap left all ∙ drop-drop (4 * (length (drop at bytes₀) / 4)) at bytes₀ ∙ ap (λ (i : ℕ). drop i bytes₀) place
      in
      let none : drop (at + n) bytes₀ ≡ [] = drop_of_length-le bytes₀ {i = at + n} (omega (arith, f)) in
      went t e (λ rest. ap (λ (l : List ℕ). rest_of r (l ++ rest)) (sym lefts) ∙ ap (λ (l : List ℕ). rest_of r (left piece ++ (l ++ rest))) (sym none)) ready

-- The end of a file: what was written, and what is made of the bytes that are left.
module _ (p q : Progress) (bytes₀ bytes : List ℕ) (w : Went p bytes₀ q bytes) where
  abbrev made-last : List ℕ
  made-last = take (4 * q.count) bytes

  ends : (m : Made) → rest_of q (left bytes₀) ≡ m → after made-last m ≡ rest_of p bytes₀
  ends m e =
      ap (after made-last) (sym e ∙ ap (rest_of q) (sym (append-nil (left bytes₀)))) ∙ w.by_index [] ∙ ap (rest_of p) (append-nil bytes₀)

  pub end_refused : (q.number ≡ 0 → ⊥) → made_by q made-last ≡ rest_of p bytes₀
  end_refused n = ap (made_by q) (sym (append-nil made-last)) ∙ ends (made_by q []) (rest-none q (left bytes₀) (ne_eqb _ _ n))

  module _ (z : q.number ≡ 0) where
    abbrev ending : ℕ → List ℕ → Made
    ending number l = record { number = number; part = 0; state = q.state; bytes = l }

    pub end_none : length bytes₀ % 4 ≡ 0 → made_by q made-last ≡ rest_of p bytes₀
    end_none e =
        let r = w.ready z in
        ap₂ (λ (number part : ℕ). record { number = number; part = part; state = q.state; bytes = made-last }) z r.none_bad
        ∙ ap (ending 0) (sym (append-nil made-last))
        ∙ ends (ending 0 []) (last_none q z r (left bytes₀) (length_left bytes₀ ∙ e))

    pub end_left : (length bytes₀ % 4 ≡ 0 → ⊥) → ending 8 made-last ≡ rest_of p bytes₀
    end_left n =
        let some : 0 < length (left bytes₀) = omega (arith, n, length_left bytes₀) in
        let few : length (left bytes₀) < 4 = omega (arith, length_left bytes₀) in
        ap (ending 8) (sym (append-nil made-last)) ∙ ends (ending 8 []) (last_left q z (w.ready z) (left bytes₀) some few)
