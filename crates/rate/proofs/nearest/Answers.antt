-- The divisor by division, in its four cases.
use native.Mathlib.Omega.{arith}
use Rattle.rate.proofs.Division.{less_than_one, beyond, down, up}
use Rattle.rate.proofs.nearest.Goals as goal

pub returns-then-quotient-eq0 : goal.returns-then-quotient-eq0
returns-then-quotient-eq0 c =
    let a = c.args in
    less_than_one a.clock a.rate (omega arith) (omega arith)

pub returns-then-quotient-ge-DIVISOR_MOST : goal.returns-then-quotient-ge-DIVISOR_MOST
returns-then-quotient-ge-DIVISOR_MOST c =
    let a = c.args in
    beyond a.clock a.rate (omega arith) (omega arith)

pub returns-then-clock-step : goal.returns-then-clock-step
returns-then-clock-step c =
    let a = c.args in
    down a.clock a.rate (omega arith) (omega arith) (omega arith) (omega arith)

pub returns : goal.returns
returns c =
    let a = c.args in
    up a.clock a.rate (omega arith) (omega arith) (omega arith)
