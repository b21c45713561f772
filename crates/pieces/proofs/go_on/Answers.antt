-- The pieces before `at` are replayed, and the iterator has the bytes from there on.
use Rattle.capture_file.specs.File.{rest_of}
use Rattle.capture_file.proofs.Parts.{block_done, last_done, last-place}
use Rattle.std.specs.Slice.Iter.{chunks_exact_rest}
use Prim.Native.Nat.{ℕ, ◌+◌, ◌-◌, ◌*◌, ◌/◌, ◌%◌, ◌≤◌, ◌<◌}
use mathlib.Core.Path.{◌≡◌, refl, sym, ap, subst, ◌∙◌}
use mathlib.Core.List.{List, ◌++◌}
use lib.ListN.{length, take, drop, length-drop, length-append}
use lib.Seq.{drop-drop, take_all}
use Rattle.std.proofs.Math.Seq.{take-append_seam, drop-append_seam}
use native.Mathlib.Omega.{arith}
use borrow.Author.Rules.{rules}
use Rattle.pieces.proofs.go_on.Goals as goal

-- What n bytes make, which are the next.
of_part : (q r : _) (part bytes : List ℕ) → bytes ≡ part → ((rest : List ℕ) → rest_of r (drop (4 * (length part / 4)) part ++ rest) ≡ rest_of q (part ++ rest))
    → (rest : List ℕ) → rest_of r (drop (4 * (length bytes / 4)) bytes ++ rest) ≡ rest_of q (bytes ++ rest)
of_part q r part bytes e = subst (λ (l : List ℕ). (rest : List ℕ) → rest_of r (drop (4 * (length l / 4)) l ++ rest) ≡ rest_of q (l ++ rest)) (sym e)

pub loop-piece-preserved : goal.loop-piece-preserved
loop-piece-preserved c =
    let inv = c.loop-piece.invariant in
    let bytes = c.args.bytes.now in
    let piece = c.in-Some.piece.now in
    let steps = c.in-Some.ensures.steps in
    let rest = chunks_exact_rest c.next.new.self in
    let joined : drop inv.at bytes ≡ piece ++ rest = sym inv.left ∙ steps.1.0 in
    let long : length piece ≡ 2048 = steps.1.1 ∙ inv.size in
    let part : take 2048 (drop inv.at bytes) ≡ piece = ap (take 2048) joined ∙ ap (λ (n : ℕ). take n (piece ++ rest)) (sym long) ∙ take-append_seam piece rest in
    let after : rest ≡ drop (inv.at + 2048) bytes = sym (drop-append_seam piece rest) ∙ ap (λ (n : ℕ). drop n (piece ++ rest)) long ∙ ap (drop 2048) (sym joined) ∙ drop-drop 2048 inv.at bytes in
    let within : inv.at + 2048 ≤ length bytes = omega (arith, inv.before.most, length-drop inv.at bytes, ap length joined ∙ length-append piece rest, long) in
    let done = c.go_on-q in
    record {
      can_next = search rules;
      is_finite = tt;
      size = steps.0 ∙ inv.size;
      at = inv.at + 2048;
      whole = omega (arith, inv.whole);
      left = after;
      before = block_done inv.before done.result 2048 (inv.at + 2048) refl refl within (of_part _ _ piece _ part done.ensures.by_index) (omega (arith, ap length part, done.ensures.place_bound));
      room = done.auto.records ∙ inv.room;
    }

pub returns : goal.returns
returns c =
    let inv = c.loop-piece.invariant in
    let bytes = c.args.bytes.now in
    let steps = c.in-None.ensures.steps in
    let n = length bytes - inv.at in
    let e : inv.at + n ≡ length bytes = omega (arith, inv.before.most) in
    let few : length bytes - inv.at < 2048 = omega (arith, steps.1.0, inv.size, ap length inv.left ∙ length-drop inv.at bytes) in
    let at : length bytes - length bytes % 2048 ≡ inv.at = omega (arith, few, inv.whole, inv.before.most) in
    let part : take n (drop inv.at bytes) ≡ c.remainder-rest.result.now =
    take_all n (drop inv.at bytes) (omega (arith, length-drop inv.at bytes)) ∙ ap (λ (i : ℕ). drop i bytes) (sym at) ∙ sym (c.remainder-rest.ensures ∙ c.chunks_exact-pieces.ensures.remainder)
    in
    let done = c.go_on in
    record {
      by_index = last_done inv.before done.result n e (of_part _ _ _ _ part done.ensures.by_index);
      place_bound_2 = last-place inv.before done.result n e (omega (arith, ap length part, done.ensures.place_bound));
    }
