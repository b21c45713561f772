-- The bytes read so far lead to `p`, and its place stays far below its bound.
use mathlib.Core.Path.{◌≡◌, sym, ◌∙◌}
use lib.ListN.{length}
use Rattle.replay_file.proofs.Blocks.{read_none, read_block, read-stands}
use native.Mathlib.Omega.{arith}
use borrow.Author.Rules.{rules}
use Rattle.replay_file.proofs.replay_blocks.Goals as goal

pub loop-init : goal.loop-init
loop-init g c = (omega arith, read_none _)

pub returns-then-not-agreeing : goal.returns-then-not-agreeing
returns-then-not-agreeing g c = read-stands c.loop.invariant.1 (sym c.agreeing.ensures ∙ c.if-not-agreeing.true)

pub loop-preserved : goal.loop-preserved
loop-preserved g c =
    let inv = c.loop.invariant in
    let block = c.fill.new.block in
    let done = c.go_on-p in
    let long : length block ≡ 32768 = search rules in
    (omega (arith, done.ensures.place_bound_2, inv.0, long), read_block inv.1 done.result block long done.ensures.by_index)
