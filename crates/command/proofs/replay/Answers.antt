-- The first number is the version, and the others are the records.
use Rattle.command.proofs.Versioned.{replay_none, replay_large, replay_many, replay_some}
use Prim.Native.Nat.{◌+◌, ◌-◌, ◌<◌}
use mathlib.Core.Path.{◌≡◌, refl, sym, ◌∙◌}
use native.Mathlib.Omega.{arith}
use lib.ListN.{length}
use borrow.Author.Rules.{rules}
use Rattle.command.specs.Command.{most_numbers}
use Rattle.command.proofs.replay.Goals as goal

pub returns-in_default : goal.returns-in_default
returns-in_default c =
    let long : length c.args.to.now ≡ most_numbers = search rules in
    let e = rw long at (sym c.in_default.is ∙ c.read_numbers.ensures.value) in
    record { value = replay_none _ e; result_bound = omega arith; to_after = refl }

pub returns-then-version-gt-MOST_VERSION : goal.returns-then-version-gt-MOST_VERSION
returns-then-version-gt-MOST_VERSION c =
    let long : length c.args.to.now ≡ most_numbers = search rules in
    let e = rw long at (sym c.in-Some.is ∙ c.read_numbers.ensures.value) in
    let h : 0 < c.in-Some.n = c.in-Some.ensures.lower_bound in
    record { value = replay_large _ _ e _ c.in-Some.ensures.to_after h c.if-version-gt-MOST_VERSION.true; result_bound = omega arith; to_after = refl }

pub returns-then-records-gt-MOST_RECORDS : goal.returns-then-records-gt-MOST_RECORDS
returns-then-records-gt-MOST_RECORDS c =
    let long : length c.args.to.now ≡ most_numbers = search rules in
    let e = rw long at (sym c.in-Some.is ∙ c.read_numbers.ensures.value) in
    let h : 0 < c.in-Some.n = c.in-Some.ensures.lower_bound in
    record { value = replay_many _ _ e _ c.in-Some.ensures.to_after h (omega arith) c.if-records-gt-MOST_RECORDS.true; result_bound = omega arith; to_after = refl }

pub returns : goal.returns
returns c =
    let long : length c.args.to.now ≡ most_numbers = search rules in
    let e = rw long at (sym c.in-Some.is ∙ c.read_numbers.ensures.value) in
    let h : 0 < c.in-Some.n = c.in-Some.ensures.lower_bound in
    let q : c.in-Some.n - 1 + 1 ≡ c.in-Some.n = omega arith in
    record { value = replay_some _ _ e _ c.in-Some.ensures.to_after h (omega arith) (omega arith); result_bound = omega arith; to_after = rw q c.in-Some.ensures.to_after }
