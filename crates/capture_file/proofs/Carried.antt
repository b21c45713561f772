-- A file that comes in parts: the records of one part and then those of the next answer as all of them at once.
use Prim.Native.Nat.{ℕ, suc, ◌+◌, ◌*◌, ◌/◌, ◌%◌, ◌≤◌, ◌<◌, zero-le}
use mathlib.Core.Path.{◌≡◌, refl, sym, ap, ◌∙◌}
use mathlib.Core.Bool.{Bool, true, false, cond, not, ◌&&◌, false≢true}
use mathlib.Core.List.{List, [], ◌++◌}
use lib.Dec.{eqb}
use lib.ListN.{length, drop, length-append}
use lib.Seq.{drop-append-le}
use native.Mathlib.Omega.{arith}
use borrow.Author.Tests.{ne_eqb}
use Rattle.flag.proofs.Laws.{cond_map}
use Rattle.std.specs.Prelude.{Ok, Err}
use Rattle.recorder.specs.File.{words_of, known, bad_header, header_of}
use Rattle.recorder.specs.declared.file.HeaderError.{HeaderError}
use Rattle.recorder.proofs.Laws.{header_append, no_words, left, length-words, length_left, words_append}
use Rattle.device.specs.declared.State.{State}
use Rattle.recorded.specs.Record.{step_of}
use Rattle.device.specs.State.{fresh_of}
use Rattle.device.specs.Ranges.{well_formed}
use Rattle.capture.specs.declared.Outcome.{Outcome}
use Rattle.capture.specs.declared.Replayed.{Replayed}
use Rattle.capture_file.specs.declared.Progress.{Progress}
use Rattle.capture.specs.Replay.{agreed, refused, values_of, replay_from, replay_of}
use Rattle.capture.specs.Replay.{agreeing}
use Rattle.capture_file.specs.File.{later, onward, ended, records_of, capture_of, rest_of, Ready}
use Rattle.capture.proofs.Ways.{each_way}

one : (n m : ℕ) → n + suc m ≡ suc (n + m)
one n m = omega arith

-- Places counted from n records earlier.
pub replay_later : (n : ℕ) (ws : List ℕ) (place : ℕ) (s : State) → replay_from (n + place) s ws ≡ onward n (replay_from place s ws)
unfolding replay_from
replay_later n =
    each_way (λ place s ws r. replay_from (n + place) s ws ≡ onward n r)
    (record {
      end = λ place s. refl;
      bad = λ place s w ws g. simp g;
      other = λ place s w ws g d. simp (g, d);
      next = λ place s w ws g d e. simp (g, d) (ap (λ (m : ℕ). replay_from m (step_of s w).state ws) (sym (one n place)) ∙ e);
    })

-- No place lies beyond the records.
pub place-most : (ws : List ℕ) (place : ℕ) (s : State) → (values_of (replay_from place s ws).outcome).place ≤ place + length ws
unfolding replay_from
place-most =
    each_way (λ place s ws r. (values_of r.outcome).place ≤ place + length ws)
    (record {
      end = λ place s. omega arith;
      bad = λ place s w ws g. simp g (most place (suc (length ws)));
      other = λ place s w ws g d. simp (g, d) (most place (suc (length ws)));
      next = λ place s w ws g d e. simp (g, d) (omega (arith, e));
    })
  where
    most : (m n : ℕ) → m ≤ m + n
    most m n = omega arith

-- The records of two runs, one after the other.
pub replay_append : (b a : List ℕ) (place : ℕ) (s : State) →
    (let r = replay_from place s a in replay_from place s (a ++ b) ≡ cond (agreeing r.outcome) (replay_from (place + length a) r.state b) r)
unfolding replay_from
replay_append b =
    each_way (λ place s a r. replay_from place s (a ++ b) ≡ cond (agreeing r.outcome) (replay_from (place + length a) r.state b) r)
    (record {
      end = λ place s. ap (λ (m : ℕ). replay_from m s b) (none place);
      bad = λ place s w ws g. simp g;
      other = λ place s w ws g d. simp (g, d);
      next = λ place s w ws g d e. simp (g, d) (e ∙ ap (from (replay_from (suc place) (step_of s w).state ws)) (shift place (length ws)));
    })
  where
    none : (m : ℕ) → m ≡ m + 0
    none m = omega arith

    shift : (m n : ℕ) → suc m + n ≡ m + suc n
    shift m n = omega arith

    from : Replayed → ℕ → Replayed
    from r place = cond (agreeing r.outcome) (replay_from place r.state b) r

-- The same of a version's records, the places of the second run counted from the first record.
module _ (version : ℕ) (s : State) (a b : List ℕ) (well : agreeing (replay_of version s a).outcome ≡ true → well_formed (replay_of version s a).state ≡ true) where
  abbrev joined : Replayed → Replayed
  joined r = cond (agreeing r.outcome) (onward (length a) (replay_of version r.state b)) r

  zero_left : (n : ℕ) → 0 + n ≡ n + 0
  zero_left n = omega arith

  both : well_formed s ≡ true → known version ≡ true → (g : Bool) → agreeing (replay_from 0 s a).outcome ≡ g → replay_of version s (a ++ b) ≡ joined (replay_of version s a)
  unfolding replay_of
  both ew ek false e = simp (ew, ek, e) (replay_append b a 0 s ∙ (simp e))
  both ew ek true e =
      let r = replay_from 0 s a in
      let w : well_formed r.state ≡ true = simp (ew, ek) at (well (simp (ew, ek) e)) in
      simp (ew, ek, e, w)
      (replay_append b a 0 s ∙ (simp e) ∙ ap (λ (m : ℕ). replay_from m r.state b) (zero_left (length a)) ∙ replay_later (length a) b 0 r.state)

  pub records_append : replay_of version s (a ++ b) ≡ joined (replay_of version s a)
  unfolding replay_of
  records_append = go (well_formed s) (known version) refl refl
    where
      go : (w k : Bool) → well_formed s ≡ w → known version ≡ k → replay_of version s (a ++ b) ≡ joined (replay_of version s a)
      go false k ew ek = simp ew
      go true false ew ek = simp (ew, ek)
      go true true ew ek = both ew ek (agreeing (replay_from 0 s a).outcome) refl

-- Places counted from earlier, twice.

later-later : (m n : ℕ) (o : Outcome) → later m (later n o) ≡ later (m + n) o
later-later m n Outcome.Agreed = refl
later-later m n (Outcome.Differs place seen model) = ap (λ (x : ℕ). Outcome.Differs x seen model) (omega arith)
later-later m n (Outcome.Refused number part place) = ap (λ (x : ℕ). Outcome.Refused number part x) (omega arith)

later-none : (o : Outcome) → later 0 o ≡ o
later-none Outcome.Agreed = refl
later-none (Outcome.Differs place seen model) = ap (λ (x : ℕ). Outcome.Differs x seen model) (omega arith)
later-none (Outcome.Refused number part place) = ap (λ (x : ℕ). Outcome.Refused number part x) (omega arith)

pub later-agreeing : (n : ℕ) (o : Outcome) → agreeing (later n o) ≡ agreeing o
later-agreeing n Outcome.Agreed = refl
later-agreeing n (Outcome.Differs place seen model) = refl
later-agreeing n (Outcome.Refused number part place) = refl

onward-onward : (m n : ℕ) (r : Replayed) → onward m (onward n r) ≡ onward (m + n) r
onward-onward m n r = ap (λ (o : Outcome). record { state = r.state; outcome = o }) (later-later m n r.outcome)

pub onward-none : (r : Replayed) → onward 0 r ≡ r
onward-none r = ap (λ (o : Outcome). record { state = r.state; outcome = o }) (later-none r.outcome)

-- The end of the file is met in its last part.
ended-onward : (n : ℕ) (all part : List ℕ) (r : Replayed) → length all ≡ 4 * n + length part → ended all (onward n r) ≡ onward n (ended part r)
unfolding ended
ended-onward n all part r e =
    let whole : length all % 4 ≡ length part % 4 = omega arith in
    let place : length all / 4 ≡ n + length part / 4 = omega arith in
    let test = agreeing r.outcome && not (eqb (length part % 4) 0) in
    rw (later-agreeing n r.outcome, whole, place) (sym (cond_map (onward n) test (refused 8 r.state (length part / 4)) r _ _ refl refl))

-- A file is at its end where something differed or was refused, and goes on where nothing did.

ended_already : (bytes : List ℕ) (r : Replayed) → agreeing r.outcome ≡ false → ended bytes r ≡ r
unfolding ended
ended_already bytes r e = simp e

pub rest-none : (p : Progress) (bytes : List ℕ) → agreeing p.replayed.outcome ≡ false → rest_of p bytes ≡ p.replayed
unfolding rest_of
rest-none p bytes e = simp e

pub rest_records : (p : Progress) (bytes : List ℕ) → agreeing p.replayed.outcome ≡ true →
    rest_of p bytes ≡ onward p.place (records_of p.version p.replayed.state bytes)
unfolding rest_of
rest_records p bytes e = simp e

-- Going on: where a part of the file has been replayed, what is left and what comes after it answer as all of it did.
module _ (version place : ℕ) (s : State) (bytes : List ℕ)
    (well : agreeing (replay_of version s (words_of bytes)).outcome ≡ true → well_formed (replay_of version s (words_of bytes)).state ≡ true) where
  abbrev replayed : Replayed
  replayed = replay_of version s (words_of bytes)

  abbrev pub next : Progress
  next = record { version = version; place = place + length bytes / 4; replayed = onward place replayed }

  -- the rest of the file, replayed from where this part ends
  abbrev after : List ℕ → Replayed
  after rest = replay_of version replayed.state (words_of (left bytes ++ rest))

  whole : (rest : List ℕ) → replay_of version s (words_of (bytes ++ rest)) ≡ cond (agreeing replayed.outcome) (onward (length bytes / 4) (after rest)) replayed
  whole rest =
      ap (replay_of version s) (words_append bytes rest)
      ∙ records_append version s (words_of bytes) (words_of (left bytes ++ rest)) well
      ∙ ap (λ (n : ℕ). cond (agreeing replayed.outcome) (onward n (after rest)) replayed) (length-words bytes)

  long : (rest : List ℕ) → length (bytes ++ rest) ≡ 4 * (length bytes / 4) + length (left bytes ++ rest)
  long rest = omega (arith, length-append bytes rest, length-append (left bytes) rest, length_left bytes)

  pub goes_on : (rest : List ℕ) → rest_of next (left bytes ++ rest) ≡ onward place (records_of version s (bytes ++ rest))
  unfolding records_of
  goes_on rest = go (agreeing replayed.outcome) refl
    where
      go : (b : Bool) → agreeing replayed.outcome ≡ b → rest_of next (left bytes ++ rest) ≡ onward place (records_of version s (bytes ++ rest))
      go false e =
          rest-none next (left bytes ++ rest) (later-agreeing place replayed.outcome ∙ e)
          ∙ ap (onward place)
          (sym (ended_already (bytes ++ rest) replayed e) ∙ ap (ended (bytes ++ rest)) (sym (whole rest ∙ (simp e))))
      go true e =
          rest_records next (left bytes ++ rest) (later-agreeing place replayed.outcome ∙ e)
          ∙ sym (onward-onward place (length bytes / 4) (ended (left bytes ++ rest) (after rest)))
          ∙ ap (onward place)
          (sym (ended-onward (length bytes / 4) (bytes ++ rest) (left bytes ++ rest) (after rest) (long rest))
          ∙ ap (ended (bytes ++ rest)) (sym (whole rest ∙ (simp e))))

-- A replay that agrees is of a known version.
pub agreed-known : (version : ℕ) (s : State) (ws : List ℕ) → agreeing (replay_of version s ws).outcome ≡ true → known version ≡ true
unfolding replay_of
agreed-known version s ws e = go (well_formed s) (known version) refl refl
  where
    go : (w k : Bool) → well_formed s ≡ w → known version ≡ k → known version ≡ true
    go false k ew ek = absurd (false≢true (simp ew at e))
    go true false ew ek = absurd (false≢true (simp (ew, ek) at e))
    go true true ew ek = ek

-- Its place is within the records.
pub place-within : (version : ℕ) (s : State) (ws : List ℕ) → (values_of (replay_of version s ws).outcome).place ≤ length ws
unfolding replay_of
place-within version s ws = go (well_formed s) (known version) refl refl
  where
    go : (w k : Bool) → well_formed s ≡ w → known version ≡ k → (values_of (replay_of version s ws).outcome).place ≤ length ws
    go false k ew ek = simp ew zero-le
    go true false ew ek = simp (ew, ek) zero-le
    go true true ew ek = simp (ew, ek) (omega (arith, place-most ws 0 s))

-- The end of the file.

pub is_agreed : (o : Outcome) → agreeing o ≡ true → o ≡ Outcome.Agreed
is_agreed Outcome.Agreed e = refl
is_agreed (Outcome.Differs place seen model) e = absurd (false≢true e)
is_agreed (Outcome.Refused number part place) e = absurd (false≢true e)

module _ (p : Progress) (go_on : agreeing p.replayed.outcome ≡ true) (r : Ready p) where
  -- fewer than four bytes hold no record
  last : (bytes : List ℕ) → length bytes < 4 → rest_of p bytes ≡ onward p.place (ended bytes (agreed p.replayed.state))
  unfolding records_of replay_of replay_from
  last bytes h =
      rest_records p bytes go_on
      ∙ ap (λ (ws : List ℕ). onward p.place (ended bytes (replay_of p.version p.replayed.state ws))) (no_words bytes h)
      ∙ (simp (r.well, r.known-version))

  pub last_none : rest_of p [] ≡ p.replayed
  unfolding ended
  last_none = last [] (omega arith) ∙ ap (λ (o : Outcome). record { state = p.replayed.state; outcome = o }) (sym (is_agreed _ go_on))

  pub last_left : (bytes : List ℕ) → 0 < length bytes → length bytes < 4 → rest_of p bytes ≡ refused 8 p.replayed.state p.place
  unfolding ended
  last_left bytes h k =
      let some : length bytes % 4 ≡ 0 → ⊥ = λ e. absurd (omega arith) in
      let place : p.place + length bytes / 4 ≡ p.place = omega arith in
      last bytes k ∙ (simp (ne_eqb (length bytes % 4) 0 some)) ∙ ap (refused 8 p.replayed.state) place

-- The header.

pub refused_file : (bytes : List ℕ) (error : HeaderError) → header_of bytes ≡ Err error → capture_of bytes ≡ refused (bad_header error) fresh_of 0
unfolding capture_of
refused_file bytes error e = rw e

pub headed_file : (first rest : List ℕ) (version : ℕ) → header_of first ≡ Ok version → 8 ≤ length first →
    capture_of (first ++ rest) ≡ records_of version fresh_of (drop 8 first ++ rest)
unfolding capture_of
headed_file first rest version e long =
    rw (header_append first rest long, e) (ap (records_of version fresh_of) (drop-append-le 8 first rest long))
