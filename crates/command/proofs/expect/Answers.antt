-- The first number is the version, the second the room, and the others are the records.
use Rattle.command.proofs.Versioned.{expect_one, expect_none, expect_large, expect_wide, expect_some}
use Prim.Native.Nat.{◌+◌, ◌-◌, ◌≤◌}
use mathlib.Core.Path.{◌≡◌, refl, sym, ◌∙◌}
use native.Mathlib.Omega.{arith}
use lib.ListN.{length}
use borrow.Author.Rules.{rules}
use Rattle.command.specs.Command.{most_numbers}
use Rattle.command.proofs.expect.Goals as goal

pub returns-in_default : goal.returns-in_default
returns-in_default c =
    let long : length c.args.to.now ≡ most_numbers = search rules in
    let e = rw long at (sym c.in_default.is ∙ c.read_numbers.ensures.value) in
    record { value = expect_none _ e; result_bound = omega arith; to_after = refl }

pub returns-then-n-lt2 : goal.returns-then-n-lt2
returns-then-n-lt2 c =
    let long : length c.args.to.now ≡ most_numbers = search rules in
    let e = rw long at (sym c.in-Some.is ∙ c.read_numbers.ensures.value) in
    record { value = expect_one _ _ e c.in-Some.ensures.lower_bound c.if-n-lt2.true; result_bound = omega arith; to_after = refl }

pub returns-then-version-gt-MOST_VERSION : goal.returns-then-version-gt-MOST_VERSION
returns-then-version-gt-MOST_VERSION c =
    let long : length c.args.to.now ≡ most_numbers = search rules in
    let e = rw long at (sym c.in-Some.is ∙ c.read_numbers.ensures.value) in
    let h : 2 ≤ c.in-Some.n = c.if-n-lt2.false in
    record { value = expect_large _ _ e _ c.in-Some.ensures.to_after h c.if-version-gt-MOST_VERSION.true; result_bound = omega arith; to_after = refl }

pub returns-then-room-gt-MOST_ROOM : goal.returns-then-room-gt-MOST_ROOM
returns-then-room-gt-MOST_ROOM c =
    let long : length c.args.to.now ≡ most_numbers = search rules in
    let e = rw long at (sym c.in-Some.is ∙ c.read_numbers.ensures.value) in
    let h : 2 ≤ c.in-Some.n = c.if-n-lt2.false in
    record { value = expect_wide _ _ e _ c.in-Some.ensures.to_after h (omega arith) c.if-room-gt-MOST_ROOM.true; result_bound = omega arith; to_after = refl }

pub returns : goal.returns
returns c =
    let long : length c.args.to.now ≡ most_numbers = search rules in
    let e = rw long at (sym c.in-Some.is ∙ c.read_numbers.ensures.value) in
    let h : 2 ≤ c.in-Some.n = c.if-n-lt2.false in
    let m : c.in-Some.n - 2 ≤ 1024 = omega (arith, long, c.in-Some.ensures.upper_bound) in
    let q : c.in-Some.n - 2 + 2 ≡ c.in-Some.n = omega arith in
    record { value = expect_some _ _ e _ c.in-Some.ensures.to_after h (omega arith) (omega arith) m; result_bound = omega arith; to_after = rw q c.in-Some.ensures.to_after }
