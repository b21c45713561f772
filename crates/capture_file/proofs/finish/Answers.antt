-- What the last part leaves is no record.
use Rattle.recorder.proofs.Laws.{left, length_left}
use Rattle.capture_file.proofs.Carried.{rest-none, last_none, last_left}
use Rattle.capture.specs.Replay.{agreeing}
use Rattle.capture_file.specs.File.{rest_of}
use Prim.Native.Nat.{ℕ, ◌<◌}
use mathlib.Core.Path.{◌≡◌, refl, sym, ap, ◌∙◌}
use mathlib.Core.Bool.{true}
use mathlib.Core.List.{List, [], ◌∷◌, append-nil}
use lib.ListN.{length}
use native.Mathlib.Omega.{arith}
use borrow.Author.Tests.{not-true, not-false}
use Rattle.capture_file.proofs.finish.Goals as goal

nothing : (xs : List ℕ) → length xs ≡ 0 → xs ≡ []
nothing [] e = refl
nothing (x ∷ xs) e = absurd (omega arith)

pub returns-then-not-agreeing : goal.returns-then-not-agreeing
returns-then-not-agreeing c =
    let p = c.args.p in
    let bytes = c.args.bytes.now in
    let q = c.go_on-q.result in
    let base : rest_of q (left bytes) ≡ rest_of p bytes =
    ap (rest_of q) (sym (append-nil (left bytes))) ∙ c.go_on-q.ensures.by_index [] ∙ ap (rest_of p) (append-nil bytes)
    in
    sym (rest-none q (left bytes) (sym c.agreeing.ensures ∙ not-true _ c.if-not-agreeing.true-raw)) ∙ base

pub returns-then-bytes-eq0 : goal.returns-then-bytes-eq0
returns-then-bytes-eq0 c =
    let p = c.args.p in
    let bytes = c.args.bytes.now in
    let q = c.go_on-q.result in
    let base : rest_of q (left bytes) ≡ rest_of p bytes =
    ap (rest_of q) (sym (append-nil (left bytes))) ∙ c.go_on-q.ensures.by_index [] ∙ ap (rest_of p) (append-nil bytes)
    in
    let e : agreeing q.replayed.outcome ≡ true = sym c.agreeing.ensures ∙ not-false _ c.if-not-agreeing.false-raw in
    let none : left bytes ≡ [] = nothing (left bytes) (omega (arith, length_left bytes)) in
    sym (last_none q e (c.go_on-q.ensures.ready e)) ∙ ap (rest_of q) (sym none) ∙ base

pub returns : goal.returns
returns c =
    let p = c.args.p in
    let bytes = c.args.bytes.now in
    let q = c.go_on-q.result in
    let base : rest_of q (left bytes) ≡ rest_of p bytes =
    ap (rest_of q) (sym (append-nil (left bytes))) ∙ c.go_on-q.ensures.by_index [] ∙ ap (rest_of p) (append-nil bytes)
    in
    let e : agreeing q.replayed.outcome ≡ true = sym c.agreeing.ensures ∙ not-false _ c.if-not-agreeing.false-raw in
    let some : length (left bytes) < 4 = omega (arith, length_left bytes) in
    let not_none : 0 < length (left bytes) = omega (arith, length_left bytes, c.if-bytes-eq0.false) in
    c.refused.ensures ∙ sym (last_left q e (c.go_on-q.ensures.ready e) (left bytes) not_none some) ∙ base
