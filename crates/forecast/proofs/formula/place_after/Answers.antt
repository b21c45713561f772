-- The three ways of the formula for q.
use Rattle.frame.specs.Forecast.{place_after}
use native.Mathlib.Nat.{div-le_self}
use Prim.Native.Nat.{◌-◌}
use native.Mathlib.Omega.{arith}
use borrow.Author.Tests.{lt-ltb, le-ltb, eq-eqb, ne_eqb}
use Rattle.forecast.proofs.formula.place_after.Goals as goal

pub returns-then-p-eq0 : goal.returns-then-p-eq0
unfolding place_after
returns-then-p-eq0 c = simp (eq-eqb _ _ c.if-p-eq0.true)

pub returns-then-t-k : goal.returns-then-t-k
unfolding place_after
returns-then-t-k c = simp (ne_eqb _ _ c.if-p-eq0.false, lt-ltb _ _ c.if-t-k.true)

pub nonzero_div-result : goal.nonzero_div-result
nonzero_div-result c = omega (arith, c.requires.1 c.if-p-eq0.false)

pub overflow_add-result : goal.overflow_add-result
overflow_add-result c = omega (arith, c.requires.0 c.if-p-eq0.false, div-le_self (c.args.t - c.args.k) c.args.divisor)

pub returns : goal.returns
unfolding place_after
returns c = simp (ne_eqb _ _ c.if-p-eq0.false, le-ltb _ _ c.if-t-k.false)
