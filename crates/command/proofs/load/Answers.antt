-- The numbers are as many as the table asks for, or not.
use Rattle.command.proofs.Reading.{load_some, load_none}
use mathlib.Core.Path.{◌≡◌, sym, ◌∙◌}
use borrow.Author.Tests.{eq-eqb, ne_eqb}
use lib.ListN.{length}
use borrow.Author.Rules.{rules}
use Rattle.command.specs.Command.{most_numbers}
use Rattle.command.proofs.load.Goals as goal

pub returns-in-Some-clause-value : goal.returns-in-Some-clause-value
returns-in-Some-clause-value c =
    let long : length c.args.to.now ≡ most_numbers = search rules in
    let e = rw long at (sym c.in-Some.is ∙ c.read_numbers.ensures.value) in
    simp (eq-eqb _ _ c.if-n-eq-COUNT.true) at (load_some _ _ e)

pub returns-in_default-clause-value : goal.returns-in_default-clause-value
returns-in_default-clause-value c =
    let long : length c.args.to.now ≡ most_numbers = search rules in
    let e = rw long at (sym c.in-Some.is ∙ c.read_numbers.ensures.value) in
    simp (ne_eqb _ _ c.if-n-eq-COUNT.false) at (load_some _ _ e)

pub returns-in_default-2-clause-value : goal.returns-in_default-2-clause-value
returns-in_default-2-clause-value c =
    let long : length c.args.to.now ≡ most_numbers = search rules in
    let e = rw long at (sym c.in_default.is ∙ c.read_numbers.ensures.value) in
    load_none _ e
