-- The data bits that are low are all ones less the character; the parity bit is behind them.
use Prim.Native.Nat.{◌/◌, ◌%◌}
use mathlib.Core.Path.{sym, ◌∙◌}
use native.Mathlib.Omega.{arith}
use borrow.Author.Tests.{eqb-true, eqb-false}
use Rattle.frame.proofs.Low.{low_frame_plain, low_frame_parity, power_bounds, parity_bounds, character_bounds}
use Rattle.frame.proofs.low_bits.Goals as goal

pub overflow_sub-low : goal.overflow_sub-low
overflow_sub-low c = let n = c.data_bits-n in omega (arith, power_bounds n.result n.ensures.1)

pub overflow_sub-low-2 : goal.overflow_sub-low-2
overflow_sub-low-2 c =
    let a = c.args in
    let n = c.data_bits-n in
    let k = c.character in
    omega
    (arith, power_bounds n.result n.ensures.1, character_bounds a.byte a.format n.result k.result n.ensures.0 k.ensures)

pub overflow_mul-result : goal.overflow_mul-result
overflow_mul-result c = let n = c.data_bits-n in record { fits = omega (arith, power_bounds n.result n.ensures.1) }

pub overflow_add-result : goal.overflow_add-result
overflow_add-result c = let n = c.data_bits-n in record { fits = omega (arith, power_bounds n.result n.ensures.1) }

pub overflow_add-result-then-has-2 : goal.overflow_add-result-then-has-2
overflow_add-result-then-has-2 c =
    let n = c.data_bits-n in
    rw c.from-then-has.ensures
    (record { fits = omega (arith, power_bounds n.result n.ensures.1, parity_bounds c.parity_bit.result n.result n.ensures.1) })

pub returns-then-has : goal.returns-then-has
returns-then-has c =
    let a = c.args in
    let n = c.data_bits-n in
    let one = eqb-true (a.format / 8 % 2) 1 (sym c.has.ensures ∙ c.if-has.true) in
    let k = c.character in
    let p = c.parity_bit in
    let small = power_bounds n.result n.ensures.1 in
    let small-parity = parity_bounds p.result n.result n.ensures.1 in
    let low = low_frame_parity a.byte a.format n.result k.result p.result n.ensures.0 k.ensures p.ensures.0 one in
    rw c.from-then-has.ensures (omega arith, omega arith)

pub overflow_mul-result-2 : goal.overflow_mul-result-2
overflow_mul-result-2 c = let n = c.data_bits-n in record { fits = omega (arith, power_bounds n.result n.ensures.1) }

pub overflow_add-result-2 : goal.overflow_add-result-2
overflow_add-result-2 c = let n = c.data_bits-n in record { fits = omega (arith, power_bounds n.result n.ensures.1) }

pub returns : goal.returns
returns c =
    let a = c.args in
    let n = c.data_bits-n in
    let none = eqb-false (a.format / 8 % 2) 1 (sym c.has.ensures ∙ c.if-has.false) in
    let k = c.character in
    let small = power_bounds n.result n.ensures.1 in
    let low = low_frame_plain a.byte a.format n.result k.result n.ensures.0 k.ensures (omega arith) in
    (omega arith, omega arith)
