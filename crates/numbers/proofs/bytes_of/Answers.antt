-- The first `i` places have their bytes.
use Rattle.numbers.proofs.Made.{make_turns, make_ends, low_at}
use lib.ListN.{length-map}
use Rattle.numbers.specs.Numbers.{low}
use mathlib.Core.Path.{refl, ◌∙◌}
use native.Mathlib.Omega.{arith}
use Rattle.numbers.proofs.bytes_of.Goals as goal

pub loop-i-init : goal.loop-i-init
loop-i-init c = record { long = length-map c.args.n.now low ∙ c.requires; most = omega arith; so_far = refl }

pub loop-i-preserved : goal.loop-i-preserved
loop-i-preserved c = make_turns _ c.loop-i.invariant c.loop-i-test.true (c.low.ensures ∙ low_at c.args.n.now c.loop-i.i)

pub returns : goal.returns
returns c = make_ends c.loop-i.invariant (omega arith)
