-- A file that comes in parts: one part written and then the next is as all of it at once.
use Prim.Native.Nat.{ℕ, suc, ◌+◌, ◌/◌, ◌%◌, ◌≤◌, ◌<◌}
use mathlib.Core.Path.{◌≡◌, refl, sym, ap, ◌∙◌}
use mathlib.Core.Bool.{Bool, true, false, cond, not, ◌&&◌}
use mathlib.Core.List.{List, [], ◌∷◌, ◌++◌, append-nil, append_assoc}
use lib.Dec.{eqb}
use lib.ListN.{length, take, drop, length-append}
use lib.Seq.{drop-append-le, take-append-le}
use native.Mathlib.Omega.{arith}
use borrow.Author.Tests.{eq-eqb, ne_eqb, eqb-true}
use Rattle.flag.proofs.Laws.{cond_map, cond_same}
use Rattle.recorder.specs.Record.{good}
use Rattle.std.specs.Prelude.{Result, Ok, Err}
use Rattle.recorder.specs.declared.file.HeaderError.{HeaderError}
use Rattle.recorder.specs.File.{words_of, bytes_of, known, bad_header, header_of}
use Rattle.recorder.proofs.Laws.{no_words, left, length-words, length_left, words_append, header_long, header_append, bad_header-some}
use Rattle.device.specs.declared.State.{State}
use Rattle.device.specs.Ranges.{well_formed, part_of}
use Rattle.recorded.specs.Record.{step_of, expected}
use Rattle.expected.specs.Expected.{Written, stopping, writing, expect_from, expect_of}
use Rattle.expected_file.specs.declared.Progress.{Progress}
use Rattle.expected_file.specs.File.{Made, made_of, after, ended, records_of, expected_of, begun_of, made_by, rest_of, Ready, headed, begun_by}

-- What is made of a run of records, whatever the words of the second run are where these are enough.

abbrev made : State → List ℕ → List ℕ → Made
made s ws xs = made_of (expect_from s ws xs)

made_good : (s : State) (w x : ℕ) (ws xs : List ℕ) → good w ≡ true →
    made s (w ∷ ws) (x ∷ xs) ≡ after (bytes_of (expected s w ∷ [])) (made (step_of s w).state ws xs)
unfolding expect_from
made_good s w x ws xs g = simp g

made_bad : (s : State) (w x : ℕ) (ws xs : List ℕ) → good w ≡ false → made s (w ∷ ws) (x ∷ xs) ≡ made_of (stopping 8 0 s [])
unfolding expect_from
made_bad s w x ws xs g = simp g

enough : (ws : List ℕ) (s : State) (xs ys : List ℕ) → length ws ≤ length xs → length ws ≤ length ys → made s ws xs ≡ made s ws ys
unfolding expect_from
enough [] s xs ys h k = refl
enough (w ∷ ws) s [] ys h k = absurd (omega arith)
enough (w ∷ ws) s (x ∷ xs) [] h k = absurd (omega arith)
enough (w ∷ ws) s (x ∷ xs) (y ∷ ys) h k = go (enough ws (step_of s w).state xs ys (omega arith) (omega arith)) (good w) refl
  where
    go : made (step_of s w).state ws xs ≡ made (step_of s w).state ws ys → (b : Bool) → good w ≡ b → made s (w ∷ ws) (x ∷ xs) ≡ made s (w ∷ ws) (y ∷ ys)
    go e false g = made_bad s w x ws xs g ∙ sym (made_bad s w y ws ys g)
    go e true g = made_good s w x ws xs g ∙ ap (after (bytes_of (expected s w ∷ []))) e ∙ sym (made_good s w y ws ys g)

-- One run of records after another, which is written where nothing was refused before.

abbrev onward : Made → (State → Made) → Made
onward m next = cond (eqb m.number 0) (after m.bytes (next m.state)) m

pub after-after : (a b : List ℕ) (m : Made) → after (a ++ b) m ≡ after a (after b m)
after-after a b m =
    ap (λ (l : List ℕ). record { number = m.number; part = m.part; state = m.state; bytes = l }) (append_assoc a b m.bytes)

after-onward : (bytes : List ℕ) (m : Made) (next : State → Made) → after bytes (onward m next) ≡ onward (after bytes m) next
after-onward bytes m next =
    cond_map (after bytes) (eqb m.number 0) (after m.bytes (next m.state)) m _ _ (sym (after-after bytes m.bytes (next m.state))) refl

made_append : (b a : List ℕ) (s : State) (xs ys zs : List ℕ) → length a ≤ length xs → length b ≤ length ys → length a + length b ≤ length zs →
    made s (a ++ b) zs ≡ onward (made s a xs) (λ t. made t b ys)
unfolding expect_from
made_append b [] s xs ys zs h k l = enough b s zs ys (omega arith) k
made_append b (w ∷ a) s [] ys zs h k l = absurd (omega arith)
made_append b (w ∷ a) s (x ∷ xs) ys [] h k l = absurd (omega arith)
made_append b (w ∷ a) s (x ∷ xs) ys (z ∷ zs) h k l =
    go (made_append b a (step_of s w).state xs ys zs (omega arith) k (omega arith)) (good w) refl
  where
    next : State → Made
    next t = made t b ys

    go : made (step_of s w).state (a ++ b) zs ≡ onward (made (step_of s w).state a xs) next → (g : Bool) → good w ≡ g →
        made s (w ∷ a ++ b) (z ∷ zs) ≡ onward (made s (w ∷ a) (x ∷ xs)) next
    go e false g = made_bad s w z (a ++ b) zs g ∙ sym (ap (λ (m : Made). onward m next) (made_bad s w x a xs g))
    go e true g =
        let v : List ℕ = bytes_of (expected s w ∷ []) in
        made_good s w z (a ++ b) zs g
        ∙ ap (after v) e
        ∙ after-onward v (made (step_of s w).state a xs) next
        ∙ sym (ap (λ (m : Made). onward m next) (made_good s w x a xs g))

-- How many are written: no more than the records, and all where nothing is refused.

pub count_most : (ws : List ℕ) (s : State) (xs : List ℕ) → (expect_from s ws xs).answer.count ≤ length ws
unfolding expect_from
count_most [] s xs = omega arith
count_most (w ∷ ws) s [] = omega arith
count_most (w ∷ ws) s (x ∷ xs) = go (count_most ws (step_of s w).state xs) (good w) refl
  where
    go : (expect_from (step_of s w).state ws xs).answer.count ≤ length ws → (b : Bool) → good w ≡ b → (expect_from s (w ∷ ws) (x ∷ xs)).answer.count ≤ suc (length ws)
    go h true g = simp g (omega (arith, h))
    go h false g = simp g (omega arith)

pub count-all : (ws : List ℕ) (s : State) (xs : List ℕ) → (expect_from s ws xs).answer.number ≡ 0 → (expect_from s ws xs).answer.count ≡ length ws
unfolding expect_from
count-all [] s xs e = refl
count-all (w ∷ ws) s [] e = absurd (refused (good w) e)
  where
    refused : (b : Bool) → (stopping (cond b 16 8) 0 s []).answer.number ≡ 0 → ⊥
    refused true e = absurd (omega (arith, e))
    refused false e = absurd (omega (arith, e))
count-all (w ∷ ws) s (x ∷ xs) e = go (count-all ws (step_of s w).state xs) (good w) refl e
  where
    next : Written
    next = expect_from (step_of s w).state ws xs

    go : (next.answer.number ≡ 0 → next.answer.count ≡ length ws) → (b : Bool) → good w ≡ b → (expect_from s (w ∷ ws) (x ∷ xs)).answer.number ≡ 0 →
        (expect_from s (w ∷ ws) (x ∷ xs)).answer.count ≡ suc (length ws)
    go h true g e = simp g (ap suc (h (simp g at e)))
    go h false g e = absurd (omega (arith, simp g at e))

-- No part of the state is bad.
part_none : (ws : List ℕ) (s : State) (xs : List ℕ) → (expect_from s ws xs).answer.part ≡ 0
unfolding expect_from
part_none [] s xs = refl
part_none (w ∷ ws) s [] = refl
part_none (w ∷ ws) s (x ∷ xs) =
    cond_same (λ (r : Written). r.answer.part) (good w) (writing (expected s w) (expect_from (step_of s w).state ws xs)) (stopping 8 0 s (x ∷ xs)) 0 (part_none ws (step_of s w).state xs) refl

-- The records of a known version from a well-formed state.
expects : (version : ℕ) (s : State) (ws xs : List ℕ) → well_formed s ≡ true → known version ≡ true → expect_of version s ws xs ≡ expect_from s ws xs
unfolding expect_of
expects version s ws xs ew ek = simp (ew, ek)

-- The same of the records of a version, of which the first run leaves a well-formed state.
module _ (version : ℕ) (s : State) (a b xs ys zs : List ℕ) (h : length a ≤ length xs) (k : length b ≤ length ys) (l : length a + length b ≤ length zs)
    (well : (expect_of version s a xs).answer.number ≡ 0 → well_formed (expect_of version s a xs).answer.state ≡ true) where
  abbrev behind : State → Made
  behind t = made_of (expect_of version t b ys)

  pub records_append : made_of (expect_of version s (a ++ b) zs) ≡ onward (made_of (expect_of version s a xs)) behind
  unfolding expect_of
  records_append = go (well_formed s) (known version) refl refl
    where
      same : well_formed s ≡ true → known version ≡ true → (g : Bool) → eqb (made s a xs).number 0 ≡ g →
          cond g (after (made s a xs).bytes (made (made s a xs).state b ys)) (made s a xs) ≡ cond g (after (made s a xs).bytes (behind (made s a xs).state)) (made s a xs)
      same ew ek false e = refl
      same ew ek true e =
          let f : expect_of version s a xs ≡ expect_from s a xs = expects version s a xs ew ek in
          let w : well_formed (made s a xs).state ≡ true =
          sym (ap (λ (r : Written). well_formed r.answer.state) f) ∙ well (ap (λ (r : Written). r.answer.number) f ∙ eqb-true _ _ e)
          in
          ap (λ (r : Written). after (made s a xs).bytes (made_of r)) (sym (expects version (made s a xs).state b ys w ek))

      go : (w k : Bool) → well_formed s ≡ w → known version ≡ k → made_of (expect_of version s (a ++ b) zs) ≡ onward (made_of (expect_of version s a xs)) behind
      go false k ew ek = simp ew
      go true false ew ek = simp (ew, ek)
      go true true ew ek =
          ap made_of (expects version s (a ++ b) zs ew ek)
          ∙ made_append b a s xs ys zs h k l
          ∙ same ew ek (eqb (made s a xs).number 0) refl
          ∙ ap (λ (r : Written). onward (made_of r) behind) (sym (expects version s a xs ew ek))

-- Nothing is refused only of a known version from a well-formed state.
pub accepted : (version : ℕ) (s : State) (ws xs : List ℕ) → (expect_of version s ws xs).answer.number ≡ 0 → (well_formed s ≡ true) × (known version ≡ true)
unfolding expect_of
accepted version s ws xs e = go (well_formed s) (known version) refl refl
  where
    go : (w k : Bool) → well_formed s ≡ w → known version ≡ k → (well_formed s ≡ true) × (known version ≡ true)
    go false k ew ek = absurd (omega (arith, simp ew at e))
    go true false ew ek = absurd (omega (arith, simp (ew, ek) at e))
    go true true ew ek = (ew, ek)

-- Of any version, no more words are written than there are records, and all where nothing is refused.

pub written-most : (version : ℕ) (s : State) (ws xs : List ℕ) → (expect_of version s ws xs).answer.count ≤ length ws
unfolding expect_of
written-most version s ws xs = go (well_formed s) (known version)
  where
    go : (w k : Bool) → (cond w (cond k (expect_from s ws xs) (stopping 7 0 s xs)) (stopping 1 (part_of s) s xs)).answer.count ≤ length ws
    go true true = count_most ws s xs
    go true false = omega arith
    go false k = omega arith

pub written_all : (version : ℕ) (s : State) (ws xs : List ℕ) → (expect_of version s ws xs).answer.number ≡ 0 → (expect_of version s ws xs).answer.count ≡ length ws
written_all version s ws xs e =
    let (ew, ek) = accepted version s ws xs e in
    let f : expect_of version s ws xs ≡ expect_from s ws xs = expects version s ws xs ew ek in
    ap (λ (r : Written). r.answer.count) f ∙ count-all ws s xs (sym (ap (λ (r : Written). r.answer.number) f) ∙ e)

-- The end of the file is met in its last part, unless a record before it was refused.

ended-after : (bytes all part : List ℕ) (m : Made) → length all % 4 ≡ length part % 4 → ended all (after bytes m) ≡ after bytes (ended part m)
unfolding ended
ended-after bytes all part m e =
    rw e
    (sym (cond_map (after bytes) (eqb m.number 0 && not (eqb (length part % 4) 0)) (record { number = 8; part = 0; state = m.state; bytes = m.bytes }) m _ _ refl refl))

ended_already : (bytes : List ℕ) (m : Made) → eqb m.number 0 ≡ false → ended bytes m ≡ m
unfolding ended
ended_already bytes m e = simp e

pub rest-none : (p : Progress) (bytes : List ℕ) → eqb p.number 0 ≡ false → rest_of p bytes ≡ made_by p []
unfolding rest_of
rest-none p bytes e = simp e

pub rest_records : (p : Progress) (bytes : List ℕ) → eqb p.number 0 ≡ true → rest_of p bytes ≡ records_of p.version p.state bytes
unfolding rest_of
rest_records p bytes e = simp e

-- Going on: what was written of a part, and what is made of the bytes left of it and those that come after it, are what is made of all.
module _ (version : ℕ) (s : State) (bytes xs : List ℕ) (w : Written) (is : w ≡ expect_of version s (words_of bytes) xs) (room : length bytes / 4 ≤ length xs)
    (well : well_formed s ≡ true → well_formed w.answer.state ≡ true) where
  abbrev pub next : Progress
  next = record { number = w.answer.number; part = w.answer.part; version = version; count = w.answer.count; state = w.answer.state }

  pub next_ready : next.number ≡ 0 → Ready next
  next_ready e =
      let a = accepted version s (words_of bytes) xs (sym (ap (λ (r : Written). r.answer.number) is) ∙ e) in
      let f : w ≡ expect_from s (words_of bytes) xs = is ∙ expects version s (words_of bytes) xs a.0 a.1 in
      record { none_bad = ap (λ (r : Written). r.answer.part) f ∙ part_none (words_of bytes) s xs; well = well a.0; known-version = a.1 }

  abbrev rests : List ℕ → Made
  rests l = made_of (expect_of version w.answer.state (words_of l) (words_of l))

  whole : (rest : List ℕ) → made_of (expect_of version s (words_of (bytes ++ rest)) (words_of (bytes ++ rest))) ≡ onward (made_of w) (λ t. made_of (expect_of version t (words_of (left bytes ++ rest)) (words_of (left bytes ++ rest))))
  whole rest =
      let more : List ℕ = words_of (left bytes ++ rest) in
      let all : List ℕ = words_of (bytes ++ rest) in
      let e : all ≡ words_of bytes ++ more = words_append bytes rest in
      let long : length (words_of bytes) + length more ≤ length all = omega (arith, ap length e ∙ length-append (words_of bytes) more) in
      ap (λ (ws : List ℕ). made_of (expect_of version s ws all)) e
      ∙ records_append version s (words_of bytes) more xs more all (omega (arith, room, length-words bytes)) (omega arith) long
      (λ z. sym (ap (λ (r : Written). well_formed r.answer.state) is) ∙ well (accepted version s (words_of bytes) xs z).0)
      ∙ ap (λ (r : Written). onward (made_of r) (λ t. made_of (expect_of version t more more))) (sym is)

  pub goes_on : (rest : List ℕ) → after (made_of w).bytes (rest_of next (left bytes ++ rest)) ≡ records_of version s (bytes ++ rest)
  unfolding records_of
  goes_on rest = go (eqb next.number 0) refl
    where
      go : (b : Bool) → eqb next.number 0 ≡ b → after (made_of w).bytes (rest_of next (left bytes ++ rest)) ≡ records_of version s (bytes ++ rest)
      go false e =
          ap (after (made_of w).bytes) (rest-none next (left bytes ++ rest) e)
          ∙ ap (made_by next) (append-nil (made_of w).bytes)
          ∙ sym (ended_already (bytes ++ rest) (made_of w) e)
          ∙ ap (ended (bytes ++ rest)) (sym (whole rest ∙ (simp e)))
      go true e =
          let same : length (bytes ++ rest) % 4 ≡ length (left bytes ++ rest) % 4 = omega (arith, length-append bytes rest, length-append (left bytes) rest, length_left bytes) in
          ap (after (made_of w).bytes) (rest_records next (left bytes ++ rest) e)
          ∙ sym (ended-after (made_of w).bytes (bytes ++ rest) (left bytes ++ rest) (rests (left bytes ++ rest)) same)
          ∙ ap (ended (bytes ++ rest)) (sym (whole rest ∙ (simp e)))

-- The end of the file: fewer than four bytes hold no record.
module _ (p : Progress) (z : p.number ≡ 0) (r : Ready p) where
  last : (bytes : List ℕ) → length bytes < 4 → rest_of p bytes ≡ ended bytes (record { number = 0; part = 0; state = p.state; bytes = [] })
  unfolding records_of expect_from
  last bytes h =
      rest_records p bytes (eq-eqb p.number 0 z)
      ∙ ap (λ (ws : List ℕ). ended bytes (made_of (expect_of p.version p.state ws ws))) (no_words bytes h)
      ∙ ap (λ (w : Written). ended bytes (made_of w)) (expects p.version p.state [] [] r.well r.known-version)

  pub last_none : (bytes : List ℕ) → length bytes ≡ 0 → rest_of p bytes ≡ record { number = 0; part = 0; state = p.state; bytes = [] }
  unfolding ended
  last_none bytes e =
      let none : length bytes % 4 ≡ 0 = omega arith in
      last bytes (omega arith) ∙ (simp (eq-eqb (length bytes % 4) 0 none))

  pub last_left : (bytes : List ℕ) → 0 < length bytes → length bytes < 4 → rest_of p bytes ≡ record { number = 8; part = 0; state = p.state; bytes = [] }
  unfolding ended
  last_left bytes h k =
      let some : length bytes % 4 ≡ 0 → ⊥ = λ e. absurd (omega arith) in
      last bytes k ∙ (simp (ne_eqb (length bytes % 4) 0 some))

-- The header.

pub begun_long : (first : List ℕ) → (begun_of first).number ≡ 0 → 8 ≤ length first
begun_long first z = go (header_of first) refl z
  where
    go : (h : Result ℕ HeaderError) → header_of first ≡ h → (begun_by h).number ≡ 0 → 8 ≤ length first
    go (Ok version) e z = header_long first version e
    go (Err error) e z = absurd (omega (arith, z, bad_header-some error))

pub headed_file : (first rest : List ℕ) → (begun_of first).number ≡ 0 →
    after (take 8 first) (rest_of (begun_of first) (drop 8 first ++ rest)) ≡ expected_of (first ++ rest)
unfolding expected_of
headed_file first rest z = go (header_of first) refl z
  where
    go : (h : Result ℕ HeaderError) → header_of first ≡ h → (begun_by h).number ≡ 0 →
        after (take 8 first) (rest_of (begun_by h) (drop 8 first ++ rest)) ≡ headed (header_of (first ++ rest)) (first ++ rest)
    go (Ok version) e z =
        let long : 8 ≤ length first = header_long first version e in
        ap (after (take 8 first)) (rest_records (begun_by (Ok version)) (drop 8 first ++ rest) refl)
        ∙ sym (rw (header_append first rest long, e, take-append-le 8 first rest long, drop-append-le 8 first rest long))
    go (Err error) e z = absurd (omega (arith, z, bad_header-some error))

pub refused_file : (first bytes rest : List ℕ) → header_of bytes ≡ header_of first → ((begun_of first).number ≡ 0 → ⊥) → rest_of (begun_of first) rest ≡ expected_of bytes
unfolding expected_of
refused_file first bytes rest e n = go (header_of first) refl n
  where
    go : (h : Result ℕ HeaderError) → header_of first ≡ h → ((begun_by h).number ≡ 0 → ⊥) → rest_of (begun_by h) rest ≡ headed (header_of bytes) bytes
    go (Ok version) q n = absurd (n refl)
    go (Err error) q n = rest-none (begun_by (Err error)) rest (ne_eqb _ _ n) ∙ sym (rw (e, q))
