-- Records followed one by one, with what is written so far.
use Prim.Native.Nat.{ℕ, suc, ◌+◌, ◌-◌, ◌≤◌, ◌<◌}
use mathlib.Core.Path.{◌≡◌, refl, sym, ap, ◌∙◌}
use mathlib.Core.Bool.{Bool, true, false, not, ◌&&◌}
use mathlib.Core.List.{List, [], ◌∷◌, ◌++◌}
use lib.Dec.{ltb, eqb}
use lib.ListN.{length, take, drop, get_or, set, length-set, take-append-drop, drop_of_length-le}
use lib.Seq.{drop-cons, take-suc-set, drop-set-lt, drop-drop, set_out, take_all, append_snoc, length-take-le}
use native.Mathlib.Decide.{dec_lt}
use native.Mathlib.Omega.{arith}
use borrow.Author.Tests.{lt-ltb, ltb-true, not-false}
use Rattle.flag.proofs.Laws.{and_left, and_right}
use Rattle.recorder.specs.Record.{good}
use Rattle.device.specs.declared.State.{State}
use Rattle.invariant.proofs.Settled.{Kept}
use Rattle.recorded.specs.Record.{Stepped, step_of, model_byte, differing, expected}
use Rattle.recorded.proofs.Laws.{step_kept}
use Rattle.recorded.proofs.Expected.{expected_step, expected-good, expected_agrees, expected-differs}
use Rattle.sequence.specs.Sequence.{Followed, staying, onward, writing, follows, follow_of, good_at}

-- A good record stands at a place: the place lies within the records, and the record there is good.
pub good-within : (ws : List ℕ) (place : ℕ) → good_at ws place ≡ true → place < length ws
unfolding good_at
good-within ws place e = ltb-true place (length ws) (and_left (ltb place (length ws)) (good (get_or ws place 0)) e)

pub good_there : (ws : List ℕ) (place : ℕ) → good_at ws place ≡ true → good (get_or ws place 0) ≡ true
unfolding good_at
good_there ws place e = and_right (ltb place (length ws)) (good (get_or ws place 0)) e

pub not_good : (ws : List ℕ) (place : ℕ) → place < length ws → good_at ws place ≡ false → good (get_or ws place 0) ≡ false
unfolding good_at
not_good ws place h e = simp (lt-ltb place (length ws) h) at e

-- A bad record is not followed.
pub not_followed : (compare : Bool) (t : State) (w : ℕ) → good w ≡ false → follows compare t w ≡ false
unfolding follows
not_followed compare t w e = simp e

-- A good record that is not followed is a read that differs.
pub stopped_differs : (compare : Bool) (t : State) (w : ℕ) → good w ≡ true → follows compare t w ≡ false → differing t w ≡ true
unfolding follows
stopped_differs compare t w g e = and_right compare (differing t w) (not-false (compare && differing t w) (simp g at e))

-- The test of a record against what is expected of it is the definition's.
pub is_followed : {stops : Bool} (compare : Bool) (t : State) (w : ℕ) → model_byte t w < 256 → good w ≡ true → stops ≡ (compare && not (eqb (expected t w) w)) → follows compare t w ≡ not stops
unfolding follows
is_followed compare t w h g e = simp g (ap (λ (b : Bool). not (compare && b)) (expected-differs t w h) ∙ ap not (sym e))

-- A record that is not followed.
follow_none : (compare : Bool) (t : State) (w : ℕ) (ws xs : List ℕ) → follows compare t w ≡ false → follow_of compare t (w ∷ ws) xs ≡ staying t xs
unfolding follow_of
follow_none compare t w ws [] e = simp e
follow_none compare t w ws (x ∷ xs) e = simp e

-- What is written is followed to its end.

-- so many records were followed, and no more stand there
abbrev pub ended : ℕ → State → Followed
ended n t = record { count = n; state = t; words = [] }

follow_one : (s : State) (v : ℕ) → follows true s v ≡ true → follow_of true s (v ∷ []) [] ≡ ended 1 (step_of s v).state
unfolding follow_of
follow_one s v e = simp e

-- a record before these
one_less : (f : Followed) (n : ℕ) (t : State) → onward f ≡ ended (suc n) t → f ≡ ended n t
one_less f n t e =
    let count : f.count ≡ n = omega (arith, ap (λ (r : Followed). r.count) e) in
    ap (λ (m : ℕ). record { count = m; state = f.state; words = f.words }) count
    ∙ ap (λ (r : Followed). record { count = n; state = r.state; words = r.words }) e

-- one record more
follow_more : (vs : List ℕ) (s t : State) (v : ℕ) → follow_of true s vs [] ≡ ended (length vs) t → follows true t v ≡ true →
    follow_of true s (vs ++ (v ∷ [])) [] ≡ ended (suc (length vs)) (step_of t v).state
unfolding follow_of
follow_more [] s t v e f =
    let same : s ≡ t = ap (λ (r : Followed). r.state) e in
    ap (λ (u : State). follow_of true u (v ∷ []) []) same ∙ follow_one t v f
follow_more (u ∷ us) s t v e f = go (λ d. follow_more us (step_of s u).state t v d f) (follows true s u) refl
  where
    go : (follow_of true (step_of s u).state us [] ≡ ended (length us) t → follow_of true (step_of s u).state (us ++ (v ∷ [])) [] ≡ ended (suc (length us)) (step_of t v).state) →
        (b : Bool) → follows true s u ≡ b → follow_of true s (u ∷ (us ++ (v ∷ []))) [] ≡ ended (suc (suc (length us))) (step_of t v).state
    go more true d = simp d (ap onward (more (one_less _ _ t (simp d at e))))
    go more false d = absurd (omega (arith, ap (λ (r : Followed). r.count) (simp d at e)))

expected-follows : (t : State) (w : ℕ) → model_byte t w < 256 → good w ≡ true → follows true t (expected t w) ≡ true
unfolding follows
expected-follows t w h g = simp (expected-good t w h g, expected_agrees t w h)

-- Following: after the records before i, what is left to follow leads from t to where the whole does, and the words
-- written so far lead to t.

abbrev pub advanced : ℕ → List ℕ → Followed → Followed
advanced i ps f = record { count = i + f.count; state = f.state; words = ps ++ f.words }

pub record Following (compare : Bool) (s : State) (records words₀ : List ℕ) (t : State) (words : List ℕ) (i : ℕ) : Type 0 where
  pub most : i ≤ length records
  pub kept : Kept t
  pub long : length words ≡ length words₀
  pub later : drop i words ≡ drop i words₀
  pub rest : advanced i (take i words) (follow_of compare t (drop i records) (drop i words₀)) ≡ follow_of compare s records words₀
  pub again : i ≤ length words₀ → follow_of true s (take i words) [] ≡ ended i t

pub follow_begins : (compare : Bool) (s : State) (records words₀ : List ℕ) → Kept s → Following compare s records words₀ s words₀ 0
unfolding follow_of
follow_begins compare s records words₀ k =
    let f : Followed = follow_of compare s records words₀ in
    let none : 0 + f.count ≡ f.count = omega arith in
    record {
      most = omega arith;
      kept = k;
      long = refl;
      later = refl;
      rest = ap (λ (m : ℕ). record { count = m; state = f.state; words = f.words }) none;
      again = λ _. refl;
    }

module _ {compare : Bool} {s : State} {records words₀ : List ℕ} {t : State} {words : List ℕ} {i : ℕ} (n : Following compare s records words₀ t words i) where
  -- the record at place i, what is expected of it, and the state after it
  abbrev w : ℕ
  w = get_or records i 0

  abbrev v : ℕ
  v = expected t w

  abbrev u : State
  u = (step_of t w).state

  -- the records from place i on
  next : i < length records → drop i records ≡ w ∷ drop (suc i) records
  next h = drop-cons records i 0 h

  Turned : Type 0
  Turned = advanced (suc i) (take (suc i) (set words i v)) (follow_of compare u (drop (suc i) records) (drop (suc i) words₀)) ≡ follow_of compare s records words₀

  -- with a word for it
  rest_writes : i < length records → i < length words₀ → follows compare t w ≡ true → Turned
  unfolding follow_of Turned
  rest_writes h k f =
      let room : i < length words = omega (arith, n.long) in
      let more : Followed = follow_of compare u (drop (suc i) records) (drop (suc i) words₀) in
      let step : follow_of compare t (drop i records) (drop i words₀) ≡ writing v more =
      rw (next h, drop-cons words₀ i 0 k) (simp f)
      in
      let count : suc i + more.count ≡ i + suc more.count = omega arith in
      ap (λ (l : List ℕ). advanced (suc i) l more) (take-suc-set words i v room)
      ∙ ap (λ (l : List ℕ). record { count = suc i + more.count; state = more.state; words = l }) (append_snoc (take i words) v more.words)
      ∙ ap (λ (m : ℕ). record { count = m; state = more.state; words = take i words ++ v ∷ more.words }) count
      ∙ ap (advanced i (take i words)) (sym step)
      ∙ n.rest

  -- without one
  rest_goes : i < length records → length words₀ ≤ i → follows compare t w ≡ true → Turned
  unfolding follow_of Turned
  rest_goes h k f =
      let out : set words i v ≡ words = set_out words i v (omega (arith, n.long)) in
      let none : drop i words₀ ≡ [] = drop_of_length-le words₀ {i = i} k in
      let none' : drop (suc i) words₀ ≡ [] = drop_of_length-le words₀ {i = suc i} (omega (arith, k)) in
      let more : Followed = follow_of compare u (drop (suc i) records) [] in
      let step : follow_of compare t (drop i records) (drop i words₀) ≡ onward more = rw (next h, none) (simp f) in
      let all : take (suc i) words ≡ take i words = take_all (suc i) words (omega (arith, n.long)) ∙ sym (take_all i words (omega (arith, n.long))) in
      let count : suc i + more.count ≡ i + suc more.count = omega arith in
      rw (out, none', all)
      (ap (λ (m : ℕ). record { count = m; state = more.state; words = take i words ++ more.words }) count ∙ ap (advanced i (take i words)) (sym step) ∙ n.rest)

  again_writes : model_byte t w < 256 → good w ≡ true → suc i ≤ length words₀ → follow_of true s (take (suc i) (set words i v)) [] ≡ ended (suc i) u
  again_writes m g h =
      let room : i < length words = omega (arith, n.long) in
      let size : length (take i words) ≡ i = length-take-le i words (omega (arith, room)) in
      let so_far : follow_of true s (take i words) [] ≡ ended (length (take i words)) t = n.again (omega (arith, h)) ∙ ap (λ (k : ℕ). ended k t) (sym size) in
      ap (λ (l : List ℕ). follow_of true s l []) (take-suc-set words i v room)
      ∙ follow_more (take i words) s t v so_far (expected-follows t w m g)
      ∙ ap (λ (r : Stepped). ended (suc (length (take i words))) r.state) (expected_step t w m)
      ∙ ap (λ (k : ℕ). ended (suc k) u) size

  pub follow_turns : i < length records → model_byte t w < 256 → good w ≡ true → follows compare t w ≡ true →
      Following compare s records words₀ u (set words i v) (i + 1)
  unfolding Turned
  follow_turns h m g f = go (i + 1) (omega arith) (rest (dec_lt i (length words₀)))
    where
      rest : Dec (i < length words₀) → Turned
      rest (yes k) = rest_writes h k f
      rest (no k) = rest_goes h (omega (arith, k)) f

      later : drop (suc i) (set words i v) ≡ drop (suc i) words₀
      later =
          let one : i + 1 ≡ suc i = omega arith in
          drop-set-lt (suc i) words i v (omega arith)
          ∙ ap (λ (k : ℕ). drop k words) (sym one)
          ∙ sym (drop-drop 1 i words)
          ∙ ap (drop 1) n.later
          ∙ drop-drop 1 i words₀
          ∙ ap (λ (k : ℕ). drop k words₀) one

      go : (j : ℕ) → suc i ≡ j → Turned → Following compare s records words₀ u (set words i v) j
      go j e r =
          record {
            most = omega (arith, h, e);
            kept = step_kept t w n.kept;
            long = length-set words i v ∙ n.long;
            later = ap (λ (k : ℕ). drop k (set words i v)) (sym e) ∙ later ∙ ap (λ (k : ℕ). drop k words₀) e;
            rest = ap (λ (k : ℕ). advanced k (take k (set words i v)) (follow_of compare u (drop k records) (drop k words₀))) (sym e) ∙ r;
            again = λ k. ap (λ (l : ℕ). follow_of true s (take l (set words i v)) []) (sym e) ∙ again_writes m g (omega (arith, k, e)) ∙ ap (λ (l : ℕ). ended l u) e;
          }

  -- where the records end, or the one at place i is not followed
  pub follow_ends : (i < length records → follows compare t w ≡ false) → record { count = i; state = t; words = words } ≡ follow_of compare s records words₀
  unfolding follow_of
  follow_ends f = here ∙ ap (advanced i (take i words)) (sym (stays (dec_lt i (length records)))) ∙ n.rest
    where
      stays : Dec (i < length records) → follow_of compare t (drop i records) (drop i words₀) ≡ staying t (drop i words₀)
      stays (yes h) = rw (next h) (follow_none compare t w (drop (suc i) records) (drop i words₀) (f h))
      stays (no h) =
          let none : drop i records ≡ [] = drop_of_length-le records {i = i} (omega (arith, h)) in
          rw none refl

      here : record { count = i; state = t; words = words } ≡ advanced i (take i words) (staying t (drop i words₀))
      here =
          let same : i ≡ i + 0 = omega arith in
          ap (λ (l : List ℕ). record { count = i; state = t; words = l }) (sym (take-append-drop i words) ∙ ap (λ (l : List ℕ). take i words ++ l) n.later)
          ∙ ap (λ (m : ℕ). record { count = m; state = t; words = take i words ++ drop i words₀ }) same
