-- The header, and then the records.
use mathlib.Core.Path.{◌≡◌}
use Prim.Native.Nat.{◌≤◌}
use lib.ListN.{length, take}
use native.Mathlib.Omega.{arith}
use borrow.Author.Rules.{rules}
use Rattle.std.proofs.lemmas.Result.{IfOk-weaker}
use Rattle.expect_blocks.specs.Written.{NumberOf, NumberOfRest}
use Rattle.expect_blocks.proofs.Blocks.{refused-number, good_header_lem, file_number}
use Rattle.expect_blocks.proofs.expect_capture.Goals as goal

pub returns-then-p-ne-DONE : goal.returns-then-p-ne-DONE
returns-then-p-ne-DONE g c =
    let begin = c.begin-p in
    refused-number begin.result (take c.in_ok-n.n c.fill.new.block) begin.ensures.value c.if-p-ne-DONE.true

pub write_header-requires : goal.write_header-requires
write_header-requires g c =
    let begin = c.begin-p in
    let header = take c.in_ok-n.n c.fill.new.block in
    let n : (c.in_ok-n.n ≤ length c.fill.new.block) × (c.in_ok-n.n ≡ length header) = search rules in
    let few : length header ≤ 8 = omega (arith, n, c.fill.auto.block) in
    let good : begin.result.number ≡ 0 = omega (arith, c.if-p-ne-DONE.false) in
    good_header_lem begin.result header few (begin.ensures.rest_value good)

pub returns : goal.returns
returns g c =
    let begin = c.begin-p in
    let header = take c.in_ok-n.n c.fill.new.block in
    let n : (c.in_ok-n.n ≤ length c.fill.new.block) × (c.in_ok-n.n ≡ length header) = search rules in
    let few : length header ≤ 8 = omega (arith, n, c.fill.auto.block) in
    let good : begin.result.number ≡ 0 = omega (arith, c.if-p-ne-DONE.false) in
    let led = good_header_lem begin.result header few (begin.ensures.rest_value good) in
    IfOk-weaker _ (NumberOfRest begin.result) NumberOf (λ number rest. file_number begin.result header number led rest) c.expect_records.ensures
