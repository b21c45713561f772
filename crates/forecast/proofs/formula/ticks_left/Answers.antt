-- The two ways of the formula for T.
use Rattle.frame.specs.Forecast.{ticks_left}
use native.Mathlib.Nat.{mul-le-mul}
use Prim.Native.Nat.{◌-◌, ◌*◌, ◌≤◌}
use native.Mathlib.Omega.{arith}
use borrow.Author.Tests.{eq-eqb, ne_eqb}
use Rattle.forecast.proofs.formula.ticks_left.Goals as goal

pub returns-then-p-eq0 : goal.returns-then-p-eq0
unfolding ticks_left
returns-then-p-eq0 c = simp (eq-eqb _ _ c.if-p-eq0.true)

pub overflow_mul-result : goal.overflow_mul-result
overflow_mul-result c =
    let a = c.args in
    let p : a.p - 1 ≤ 12480 = omega arith in
    let q : (a.p - 1) * a.divisor ≤ 12480 * 65535 = mul-le-mul p c.requires.1 in
    omega arith

pub overflow_add-result : goal.overflow_add-result
overflow_add-result c =
    let a = c.args in
    let p : a.p - 1 ≤ 12480 = omega arith in
    let q : (a.p - 1) * a.divisor ≤ 12480 * 65535 = mul-le-mul p c.requires.1 in
    omega arith

pub returns : goal.returns
unfolding ticks_left
returns c = simp (ne_eqb _ _ c.if-p-eq0.false)
