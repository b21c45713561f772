-- A file's parts: what a client carries is what `capture_file` does.
use Prim.Native.Nat.{ℕ, ◌≤◌, ◌<◌}
use mathlib.Core.Path.{◌≡◌, refl, sym, ap, subst, ◌∙◌}
use mathlib.Core.Bool.{Bool, true, false}
use mathlib.Core.List.{List}
use lib.Dec.{ltb}
use borrow.Author.Tests.{ltb-true, ltb-false}
use native.Mathlib.Omega.{arith}
use Rattle.capture.specs.declared.Outcome.{Outcome}
use Rattle.capture_file.specs.declared.Progress.{Progress}
use Rattle.capture.specs.declared.Replayed.{Replayed}
use Rattle.capture.specs.Replay.{values_of, refused}
use Rattle.device.specs.declared.State.{State}
use Rattle.client.specs.declared.Replay.{Replay}
use Rattle.client.proofs.Agreed.{refused_told, rest_told, told_by_rest}
use Rattle.capture_file.specs.File.{rest_of}
use Rattle.client.specs.declared.file.Progress.{Progress as Carried}
use Rattle.client.specs.Replay.{replay_answer, Told}
use Rattle.client.specs.File.{stopped_by, outcome_of, carried_of, handed_of, beyond_of, rest_answer, ToldSoFar}

same_outcome : (o : Outcome) → outcome_of (stopped_by o) (values_of o) ≡ o
same_outcome Outcome.Agreed = refl
same_outcome (Outcome.Differs place seen model) = refl
same_outcome (Outcome.Refused number part place) = refl

-- what is handed out comes back as it was
pub carried_again : (p : Progress) → carried_of (handed_of p) ≡ p
carried_again p =
    ap (λ (o : Outcome). record { version = p.version; place = p.place; replayed = record { state = p.replayed.state; outcome = o } })
    (same_outcome p.replayed.outcome)

pub told_handed : (q : Progress) (r : Carried) → r ≡ handed_of q → Told q.replayed.outcome → ToldSoFar r
told_handed q r e t = subst (λ (x : Progress). Told x.replayed.outcome) (sym (ap carried_of e ∙ carried_again q)) t

-- one number is not above another, or it is
pub either : {A : Type 0} (m n : ℕ) → (m ≤ n → A) → (n < m → A) → A
either {A} m n most more = go (ltb n m) refl
  where
    go : (b : Bool) → ltb n m ≡ b → A
    go true e = more (ltb-true n m e)
    go false e = most (ltb-false n m e)

-- The answer for a file goes with its progress.

pub hands_on : (p r : Carried) (q₀ q : Progress) (l m : List ℕ) → r ≡ handed_of q → q₀ ≡ carried_of p → rest_of q l ≡ rest_of q₀ m → rest_answer r l ≡ rest_answer p m
hands_on p r q₀ q l m er ep e =
    ap (λ (x : Carried). rest_answer x l) er
    ∙ ap (λ (x : Progress). replay_answer (rest_of x l)) (carried_again q)
    ∙ ap replay_answer (e ∙ ap (λ (x : Progress). rest_of x m) ep)

-- and so does what a client is told.

pub beyond_told : (p r : Carried) → r ≡ beyond_of p → ToldSoFar r
beyond_told p r e = subst (λ (x : Carried). ToldSoFar x) (sym e) (refused_told 1 0 0 (omega arith))

pub more_told : (p r : Carried) (q₀ q : Progress) (l m : List ℕ) → r ≡ handed_of q → q₀ ≡ carried_of p → rest_of q l ≡ rest_of q₀ m → ToldSoFar p → ToldSoFar r
more_told p r q₀ q l m er ep e t =
    let same : rest_of q l ≡ rest_of (carried_of p) m = e ∙ ap (λ (x : Progress). rest_of x m) ep in
    told_handed q r er (told_by_rest q l (subst (λ (x : Replayed). Told x.outcome) (sym same) (rest_told (carried_of p) m t)))

abbrev Agreeing : Replay → Outcome → Type 0
Agreeing r o = r.values.number ≡ 0 → r.values.seen ≡ r.values.model → o ≡ Outcome.Agreed

pub end_told : (p : Carried) (r : Replay) (bytes : List ℕ) → r ≡ rest_answer p bytes → ToldSoFar p → Agreeing r (rest_of (carried_of p) bytes).outcome
end_told p r bytes e t = subst (λ (x : Replay). Agreeing x (rest_of (carried_of p) bytes).outcome) (sym e) (rest_told (carried_of p) bytes t)

pub too_many_told : (s : State) (r : Replay) (o : Outcome) → r ≡ replay_answer (refused 1 s 0) → Agreeing r o
too_many_told s r o e z f = absurd (omega (arith, z, ap (λ (x : Replay). x.values.number) e))
