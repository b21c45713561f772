-- The bytes before `at` are written anew.
use Rattle.expected_file.proofs.Pieces.{pieces_none, went_nowhere, piece_done, piece_stops, piece_last}
use borrow.Rule.Slice.PartMut.{same_len_mid}
use Prim.Native.Nat.{ℕ, ◌+◌, ◌-◌, ◌%◌, ◌≤◌, ◌<◌, ◌^◌}
use mathlib.Core.Path.{◌≡◌, ◌∙◌}
use lib.ListN.{length, drop, length-take}
use native.Mathlib.Omega.{arith}
use borrow.Author.Rules.{rules}
use Rattle.expected_file.proofs.go_on.Goals as goal

pub returns-then-p-ne-DONE : goal.returns-then-p-ne-DONE
returns-then-p-ne-DONE c = went_nowhere _ _ _ c.counted.ensures (λ z. absurd (omega (arith, z, c.if-p-ne-DONE.true)))

pub loop-bytes-init : goal.loop-bytes-init
loop-bytes-init c = (pieces_none _ _ (omega (arith, c.if-p-ne-DONE.false)), search rules, search rules)

pub overflow_add-at : goal.overflow_add-at
overflow_add-at c =
    let loop = c.loop-bytes in
    let done = c.rewrite-q in
    let bound : length c.args.bytes.now < 2 ^ 64 = c.well_formed.1.0.0 in
    omega (arith, done.ensures.count_in_bounds, length-take (loop.at + 2048 - loop.at) (drop loop.at loop.bytes), loop.invariant.0.most, loop.invariant.0.long, bound)

pub shape_of-bytes-then-q-ne-DONE : goal.shape_of-bytes-then-q-ne-DONE
shape_of-bytes-then-q-ne-DONE c =
    let loop = c.loop-bytes in
    let done = c.rewrite-q in
    same_len_mid loop.at (loop.at + 2048 - loop.at) loop.bytes done.new.bytes done.auto.bytes ∙ loop.invariant.0.long

pub returns-then-q-ne-DONE : goal.returns-then-q-ne-DONE
returns-then-q-ne-DONE c =
    let loop = c.loop-bytes in
    let done = c.rewrite-q in
    let bytes₀ = c.args.bytes.now in
    let n : ℕ = loop.at + 2048 - loop.at in
    let within : loop.at + n ≤ length bytes₀ = omega (arith, loop.invariant.0.most, loop.invariant.0.long, c.loop-bytes-test.true) in
    piece_stops loop.invariant.0 n done.result done.new.bytes within done.auto.bytes done.ensures.by_index done.ensures.bytes_unchanged done.ensures.count_in_bounds c.counted-then-q-ne-DONE.result c.counted-then-q-ne-DONE.ensures c.if-q-ne-DONE.true

pub loop-bytes-preserved : goal.loop-bytes-preserved
loop-bytes-preserved c =
    let loop = c.loop-bytes in
    let done = c.rewrite-q in
    let bytes₀ = c.args.bytes.now in
    let n : ℕ = loop.at + 2048 - loop.at in
    let within : loop.at + n ≤ length bytes₀ = omega (arith, loop.invariant.0.most, loop.invariant.0.long, c.loop-bytes-test.true) in
    let next : loop.at + n ≡ loop.at + 2048 = omega arith in
    let whole : n % 4 ≡ 0 = omega arith in
    let going : done.result.number ≡ 0 = omega (arith, c.if-q-ne-DONE.false) in
    (piece_done loop.invariant.0 n done.result done.new.bytes within done.auto.bytes done.ensures.by_index done.ensures.bytes_unchanged done.ensures.count_in_bounds (loop.at + 2048) next whole going (done.ensures.count_value going), done.auto.records ∙ loop.invariant.1, done.auto.words ∙ loop.invariant.2)

pub overflow_add-at-2 : goal.overflow_add-at-2
overflow_add-at-2 c =
    let loop = c.loop-bytes in
    let done = c.rewrite-q-2 in
    let bound : length c.args.bytes.now < 2 ^ 64 = c.well_formed.1.0.0 in
    omega (arith, done.ensures.count_in_bounds, length-take (length loop.bytes - loop.at) (drop loop.at loop.bytes), loop.invariant.0.most, loop.invariant.0.long, bound)

pub shape_of-bytes : goal.shape_of-bytes
shape_of-bytes c =
    let loop = c.loop-bytes in
    let done = c.rewrite-q-2 in
    same_len_mid loop.at (length loop.bytes - loop.at) loop.bytes done.new.bytes done.auto.bytes ∙ loop.invariant.0.long

pub returns : goal.returns
returns c =
    let loop = c.loop-bytes in
    let done = c.rewrite-q-2 in
    let bytes₀ = c.args.bytes.now in
    let n : ℕ = length loop.bytes - loop.at in
    let within : loop.at + n ≤ length bytes₀ = omega (arith, loop.invariant.0.most, loop.invariant.0.long) in
    piece_last loop.invariant.0 n done.result done.new.bytes within done.auto.bytes done.ensures.by_index done.ensures.bytes_unchanged done.ensures.count_in_bounds c.counted-2.result c.counted-2.ensures (omega (arith, loop.invariant.0.most, loop.invariant.0.long)) done.ensures.ready
