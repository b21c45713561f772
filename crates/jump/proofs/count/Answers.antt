-- What the sums and the division need.
use native.Mathlib.Nat.{div-le_self}
use Prim.Native.Nat.{◌-◌}
use native.Mathlib.Omega.{arith}
use Rattle.jump.proofs.count.Goals as goal

pub overflow_sub-result : goal.overflow_sub-result
overflow_sub-result c = omega (arith, c.if-n-b.false)

pub overflow_sub-result-else-n-b : goal.overflow_sub-result-else-n-b
overflow_sub-result-else-n-b c = omega (arith, c.if-n-b.false)

pub nonzero_div-result : goal.nonzero_div-result
nonzero_div-result c = omega (arith, c.if-b-eq0.false)

pub overflow_add-result : goal.overflow_add-result
overflow_add-result c =
    let a = c.args in
    let some = c.if-n-eq0.false in
    let clock = c.if-b-eq0.false in
    let k = c.requires (omega arith) (omega arith) in
    let more = c.if-n-b.false in
    let less = div-le_self (a.n - a.b.k - 1) a.b.divisor in
    omega arith
