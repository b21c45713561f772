-- The place falls into the rest of the frame now sent, or into the frame of a queued byte.
use Rattle.forecast.proofs.Behind.{behind_byte, behind_level}
use Prim.Native.Nat.{max, ◌+◌, ◌-◌, ◌<◌}
use Rattle.frame.specs.Forecast.{pulses_left, level_at}
use Rattle.frame.specs.Format.{frame_length}
use Rattle.queue.specs.Queue.{contents}
use Rattle.frame.proofs.Places.{level_in_current, level_in_wait}
use mathlib.Core.Path.{◌≡◌, sym}
use lib.ListN.{length}
use native.Mathlib.Omega.{arith}
use borrow.Author.Tests.{lt-ltb, le-ltb}
use borrow.Author.Rules.{rules}
use Rattle.forecast.proofs.formula.level_at.Goals as goal

pub returns-then-p-q : goal.returns-then-p-q
unfolding level_at
returns-then-p-q c = simp (le-ltb _ _ c.if-p-q.true)

pub returns-then-q-left : goal.returns-then-q-left
unfolding level_at
returns-then-q-left c =
    let a = c.args in
    let bs = contents a.tx.count a.tx.bytes in
    let inside = level_in_current a.x.left a.x.byte a.x.format a.format a.q bs c.requires.0 c.if-q-left.true in
    rw (c.frame_level.ensures.0, c.frame_length-length.ensures.value) (simp (lt-ltb _ _ c.if-p-q.false) (sym inside))

pub returns-then-q-eq0 : goal.returns-then-q-eq0
unfolding level_at
returns-then-q-eq0 c =
    let a = c.args in
    let bs = contents a.tx.count a.tx.bytes in
    simp (lt-ltb _ _ c.if-p-q.false) (sym (level_in_wait a.x.left a.x.byte a.x.format a.format a.q bs c.if-left-eq0.true c.if-q-eq0.true))

pub queued_level-requires : goal.queued_level-requires
queued_level-requires c =
    let a = c.args in
    let long : length a.tx.bytes ≡ 64 = search rules in
    let before : a.q < pulses_left a.x.left a.tx.count (frame_length a.format) = rw (← c.requires.2) c.if-p-q.false in
    let at : a.q ≡ max a.x.left 1 + (a.q - 1) = omega arith in
    behind_byte a.x a.tx a.format a.q (a.q - 1) long c.requires.0 c.requires.1 before at

pub returns-then-left-eq0 : goal.returns-then-left-eq0
unfolding level_at
returns-then-left-eq0 c =
    let a = c.args in
    let long : length a.tx.bytes ≡ 64 = search rules in
    let before : a.q < pulses_left a.x.left a.tx.count (frame_length a.format) = rw (← c.requires.2) c.if-p-q.false in
    let at : a.q ≡ max a.x.left 1 + (a.q - 1) = omega arith in
    rw c.queued_level.ensures (simp (lt-ltb _ _ c.if-p-q.false) (behind_level a.x a.tx a.format a.q (a.q - 1) long c.requires.0 c.requires.1 before at))

pub queued_level-requires-2 : goal.queued_level-requires-2
queued_level-requires-2 c =
    let a = c.args in
    let long : length a.tx.bytes ≡ 64 = search rules in
    let before : a.q < pulses_left a.x.left a.tx.count (frame_length a.format) = rw (← c.requires.2) c.if-p-q.false in
    let at : a.q ≡ max a.x.left 1 + (a.q - a.x.left) = omega arith in
    behind_byte a.x a.tx a.format a.q (a.q - a.x.left) long c.requires.0 c.requires.1 before at

pub returns : goal.returns
unfolding level_at
returns c =
    let a = c.args in
    let long : length a.tx.bytes ≡ 64 = search rules in
    let before : a.q < pulses_left a.x.left a.tx.count (frame_length a.format) = rw (← c.requires.2) c.if-p-q.false in
    let at : a.q ≡ max a.x.left 1 + (a.q - a.x.left) = omega arith in
    rw c.queued_level-2.ensures (simp (lt-ltb _ _ c.if-p-q.false) (behind_level a.x a.tx a.format a.q (a.q - a.x.left) long c.requires.0 c.requires.1 before at))
