-- As many records are followed as there are words for; what was written is followed again to its end.
use mathlib.Core.Path.{◌≡◌}
use Rattle.std.specs.Prelude.{min}
use lib.ListN.{length}
use native.Mathlib.Omega.{arith}
use Rattle.expected.proofs.Laws.{expect_writes, writes_most, writes_agree}
use Rattle.expected.proofs.expect_records.Goals as goal

pub returns : goal.returns
returns c =
    let args = c.args in
    let follow = c.follow-stop in
    let m = c.min-n in
    let least : m.result ≡ min (length args.records.now) (length args.words.now) = grind (arith, m.ensures) in
    let most = writes_most args.s args.records.now args.words.now m.result _ follow.ensures.words_after least in record { words_after = expect_writes args.s args.records.now args.words.now m.result _ follow.ensures.words_after least _ c.number_at.ensures; words_after_2 = writes_agree _ _ _ _ (follow.ensures.again most); state_value = follow.ensures.state_value; count_in_bounds = omega (arith, most, follow.auto.words) }
