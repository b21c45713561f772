-- The three ways of the formula for p.
use Rattle.frame.specs.Forecast.{pulses_left}
use native.Mathlib.Nat.{mul-le-mul}
use Prim.Native.Nat.{◌*◌, ◌≤◌}
use native.Mathlib.Omega.{arith}
use borrow.Author.Tests.{lt-ltb, le-ltb}
use Rattle.forecast.proofs.formula.pulses_left.Goals as goal

pub overflow_mul-result : goal.overflow_mul-result
overflow_mul-result c =
    let a = c.args in
    let q : a.count * a.length ≤ 64 * 192 = mul-le-mul c.requires.1 c.requires.2 in
    omega arith

pub overflow_add-result : goal.overflow_add-result
overflow_add-result c =
    let a = c.args in
    let q : a.count * a.length ≤ 64 * 192 = mul-le-mul c.requires.1 c.requires.2 in
    omega arith

pub returns-then-left-gt0 : goal.returns-then-left-gt0
unfolding pulses_left
returns-then-left-gt0 c = simp (lt-ltb _ _ c.if-left-gt0.true)

pub overflow_mul-result-then-count-gt0 : goal.overflow_mul-result-then-count-gt0
overflow_mul-result-then-count-gt0 c =
    let a = c.args in
    let q : a.count * a.length ≤ 64 * 192 = mul-le-mul c.requires.1 c.requires.2 in
    omega arith

pub overflow_add-result-then-count-gt0 : goal.overflow_add-result-then-count-gt0
overflow_add-result-then-count-gt0 c =
    let a = c.args in
    let q : a.count * a.length ≤ 64 * 192 = mul-le-mul c.requires.1 c.requires.2 in
    omega arith

pub returns-then-count-gt0 : goal.returns-then-count-gt0
unfolding pulses_left
returns-then-count-gt0 c = simp (le-ltb _ _ c.if-left-gt0.false, lt-ltb _ _ c.if-count-gt0.true)

pub returns : goal.returns
unfolding pulses_left
returns c = simp (le-ltb _ _ c.if-left-gt0.false, le-ltb _ _ c.if-count-gt0.false)
