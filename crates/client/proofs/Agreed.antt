-- A replay whose number is 0 and whose two bytes are the same agreed: where a read differs, they are not.
use Prim.Native.Nat.{ℕ, ◌/◌, ◌%◌, ◌<◌}
use mathlib.Core.Path.{◌≡◌, refl, sym, ap, subst, ◌∙◌}
use mathlib.Core.Bool.{Bool, true, false, cond, not, ◌&&◌, true≢false}
use mathlib.Core.List.{List}
use lib.Dec.{eqb}
use lib.ListN.{length, drop}
use native.Mathlib.Omega.{arith}
use borrow.Author.Tests.{eq-eqb}
use Rattle.recorder.specs.Record.{byte, is_read}
use Rattle.std.specs.Prelude.{Result, Ok, Err}
use Rattle.recorder.specs.declared.file.HeaderError.{HeaderError}
use Rattle.recorder.proofs.Laws.{bad_header-some}
use Rattle.recorder.specs.File.{words_of, known, bad_header, header_of}
use Rattle.device.specs.State.{fresh_of}
use Rattle.device.specs.declared.State.{State}
use Rattle.device.specs.Ranges.{well_formed}
use Rattle.recorded.specs.Record.{model_byte, differing}
use Rattle.capture.specs.declared.Outcome.{Outcome}
use Rattle.capture.specs.Replay.{refused, malformed, replay_from, replay_of}
use Rattle.capture.specs.Replay.{agreeing}
use Rattle.capture_file.specs.File.{later, onward, ended, records_of, capture_of, rest_of, headed}
use Rattle.capture.specs.declared.Replayed.{Replayed}
use Rattle.capture_file.specs.declared.Progress.{Progress}
use Rattle.capture.proofs.Ways.{each_way}
use Rattle.capture_file.proofs.Carried.{rest-none, is_agreed}
use Rattle.client.specs.Replay.{Told}

and_false : (b : Bool) → b && false ≡ false
and_false true = refl
and_false false = refl

apart : (s : State) (w : ℕ) → differing s w ≡ true → byte w ≡ model_byte s w → ⊥
unfolding differing
apart s w d e =
    true≢false (sym d ∙ ap (λ (b : Bool). is_read w && not b) (eq-eqb _ _ e) ∙ and_false (is_read w))

records_told : (ws : List ℕ) (place : ℕ) (s : State) → Told (replay_from place s ws).outcome
unfolding replay_from
records_told =
    each_way (λ place s ws r. Told r.outcome)
    (record {
      end = λ place s z e. refl;
      bad = λ place s w ws g z e. absurd (omega (arith, simp g at z));
      other = λ place s w ws g d z e. absurd (apart s w d (simp (g, d) at e));
      next = λ place s w ws g d more. simp (g, d) more;
    })

pub replay_told : (version : ℕ) (s : State) (ws : List ℕ) → Told (replay_of version s ws).outcome
unfolding replay_of
replay_told version s ws = go (well_formed s) (known version)
  where
    go : (w k : Bool) → Told (cond w (cond k (replay_from 0 s ws) (refused 7 s 0)) (malformed s)).outcome
    go true true = records_told ws 0 s
    go true false = λ z e. absurd (omega (arith, z))
    go false k = λ z e. absurd (omega (arith, z))

-- The same of a file, and of a file that comes in parts.

later_told : (n : ℕ) (o : Outcome) → Told o → Told (later n o)
later_told n Outcome.Agreed t = λ z e. refl
later_told n (Outcome.Differs place seen model) t = λ z e. ap (later n) (t z e)
later_told n (Outcome.Refused number part place) t = λ z e. ap (later n) (t z e)

pub refused_told : (number part place : ℕ) → 0 < number → Told (Outcome.Refused number part place)
refused_told number part place h = λ z e. absurd (omega (arith, z, h))

ended_told : (bytes : List ℕ) (r : Replayed) → Told r.outcome → Told (ended bytes r).outcome
unfolding ended
ended_told bytes r t = go (agreeing r.outcome && not (eqb (length bytes % 4) 0))
  where
    go : (b : Bool) → Told (cond b (refused 8 r.state (length bytes / 4)) r).outcome
    go true = refused_told 8 0 (length bytes / 4) (omega arith)
    go false = t

records_of_told : (version : ℕ) (s : State) (bytes : List ℕ) → Told (records_of version s bytes).outcome
unfolding records_of
records_of_told version s bytes = ended_told bytes (replay_of version s (words_of bytes)) (replay_told version s (words_of bytes))

pub capture_told : (bytes : List ℕ) → Told (capture_of bytes).outcome
unfolding capture_of
capture_told bytes = go (header_of bytes)
  where
    go : (h : Result ℕ HeaderError) → Told (headed h (drop 8 bytes)).outcome
    go (Ok version) = records_of_told version fresh_of (drop 8 bytes)
    go (Err error) = refused_told (bad_header error) 0 0 (bad_header-some error)

pub rest_told : (p : Progress) (bytes : List ℕ) → Told p.replayed.outcome → Told (rest_of p bytes).outcome
unfolding rest_of
rest_told p bytes t = go (agreeing p.replayed.outcome)
  where
    go : (b : Bool) → Told (cond b (onward p.place (records_of p.version p.replayed.state bytes)) p.replayed).outcome
    go true = later_told p.place _ (records_of_told p.version p.replayed.state bytes)
    go false = t

pub told_by_rest : (p : Progress) (bytes : List ℕ) → Told (rest_of p bytes).outcome → Told p.replayed.outcome
told_by_rest p bytes t = go (agreeing p.replayed.outcome) refl
  where
    go : (b : Bool) → agreeing p.replayed.outcome ≡ b → Told p.replayed.outcome
    go true e = λ z f. is_agreed p.replayed.outcome e
    go false e = subst (λ (r : Replayed). Told r.outcome) (rest-none p bytes e) t
