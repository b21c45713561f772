-- The first digit decides whether the others count.
use Rattle.text.proofs.Decimals.{number_empty, number_single, number_led, number_long}
use mathlib.Core.Path.{◌≡◌, sym, ◌∙◌}
use mathlib.Core.Bool.{true≢false}
use lib.ListN.{length}
use borrow.Author.Tests.{eqb-true, eq-eqb}
use Rattle.text.proofs.decimal.number_of.Goals as goal

pub returns-then-is_empty : goal.returns-then-is_empty
returns-then-is_empty c = number_empty _ (eqb-true _ _ (sym c.is_empty.ensures ∙ c.if-is_empty.true))

pub returns-then-w-eq1 : goal.returns-then-w-eq1
returns-then-w-eq1 c = c.number_from.ensures ∙ number_single _ c.if-w-eq1.true

pub returns-then-w-eq-ZERO : goal.returns-then-w-eq-ZERO
returns-then-w-eq-ZERO c = number_led _ c.if-w-eq1.false c.if-w-eq-ZERO.true

pub returns : goal.returns
returns c =
    let some = λ (e : length c.args.w.now ≡ 0). true≢false (sym (eq-eqb _ _ e) ∙ (sym c.is_empty.ensures ∙ c.if-is_empty.false)) in
    c.number_from-2.ensures ∙ number_long _ some c.if-w-eq1.false c.if-w-eq-ZERO.false
