-- The number is that of the digits from `c-index` on, which follow those of `value`.
use Rattle.text.proofs.Decimals.{read_other, read_digit, read-ends, read_large}
use mathlib.Core.Path.{sym, ◌∙◌}
use native.Mathlib.Omega.{arith}
use Rattle.text.proofs.decimal.number_from.Goals as goal

pub returns-then-not-is_ascii_digit : goal.returns-then-not-is_ascii_digit
returns-then-not-is_ascii_digit c = read_other c.loop-c.invariant (omega arith) (sym c.is_ascii_digit.ensures.value ∙ c.if-not-is_ascii_digit.true)

pub returns-then-value-gt-MOST : goal.returns-then-value-gt-MOST
returns-then-value-gt-MOST c = read_large _ c.loop-c.invariant (omega arith) (sym c.is_ascii_digit.ensures.value ∙ c.if-not-is_ascii_digit.false) (omega arith) c.if-value-gt-MOST.true

pub loop-c-preserved : goal.loop-c-preserved
loop-c-preserved c = record { most = omega arith; small = omega arith; rest = read_digit _ c.loop-c.invariant (omega arith) (sym c.is_ascii_digit.ensures.value ∙ c.if-not-is_ascii_digit.false) (omega arith) }

pub returns : goal.returns
returns c = read-ends c.loop-c.invariant (omega arith)
