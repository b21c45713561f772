-- The level is that of the bit which the place falls into; behind the data and the parity bit it is high.
use Rattle.frame.proofs.Frames.{level_start, level_data, level-parity, level_stop}
use Prim.Native.Nat.{◌-◌, ◌/◌, ◌%◌}
use mathlib.Core.Path.{sym, ◌∙◌}
use native.Mathlib.Omega.{arith}
use borrow.Author.Tests.{eqb-true, eqb-false}
use Rattle.frame.proofs.frame_level.Goals.{else-at-last-2-via-then-at-last-2+else-has, else-at-last-2-via-else-at-last-2}
use Rattle.frame.proofs.frame_level.Goals as goal

pub returns-then-at-eq0 : goal.returns-then-at-eq0
returns-then-at-eq0 c = (sym (level_start _ _ _ c.if-at-eq0.true), omega arith)

pub returns-then-at-last : goal.returns-then-at-last
returns-then-at-last c =
    let a = c.args in
    (sym (level_data a.byte a.format a.place (a.place / 16 - 1) (omega arith) (omega arith)), omega arith)

pub returns-then-has : goal.returns-then-has
returns-then-has c =
    let a = c.args in
    let one = eqb-true (a.format / 8 % 2) 1 (sym c.has.ensures ∙ c.if-has.true) in
    (c.parity_bit.ensures.0 ∙ sym (level-parity a.byte a.format a.place (omega arith) one), c.parity_bit.ensures.1)

pub returns : goal.returns
returns c =
    let a = c.args in
    elim c.else-at-last-2.branch [
      | else-at-last-2-via-then-at-last-2+else-has w ↦
          let none = eqb-false (a.format / 8 % 2) 1 (sym w.has.ensures ∙ w.if-has.false) in
          (sym (level_stop a.byte a.format a.place (omega arith)), omega arith)
      | else-at-last-2-via-else-at-last-2 w ↦ (sym (level_stop a.byte a.format a.place (omega arith)), omega arith)
    ]
