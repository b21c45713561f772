-- The place falls into the frame of one byte, at the remainder.
use Prim.Native.Nat.{◌/◌, ◌<◌}
use native.Mathlib.Omega.{arith}
use Rattle.forecast.proofs.formula.queued_level.Goals as goal

pub overflow_cast-at : goal.overflow_cast-at
overflow_cast-at c =
    let a = c.args in
    let small : a.place / c.frame_length-length.result < 64 = rw c.frame_length-length.ensures.value c.requires in
    omega arith

pub bounds-q-at : goal.bounds-q-at
bounds-q-at c =
    let a = c.args in
    let small : a.place / c.frame_length-length.result < 64 = rw c.frame_length-length.ensures.value c.requires in
    small

pub returns : goal.returns
returns c = rw (c.frame_level.ensures.0, c.frame_length-length.ensures.value)
