-- Beyond the records no record stands.
use Rattle.sequence.specs.Sequence.{good_at}
use borrow.Author.Tests.{lt-ltb, le-ltb}
use Rattle.sequence.proofs.good_at.Goals as goal

pub returns-then-records-place : goal.returns-then-records-place
unfolding good_at
returns-then-records-place c = simp (le-ltb _ _ c.if-records-place.true)

pub returns : goal.returns
unfolding good_at
returns c = rw c.good.ensures (simp (lt-ltb _ _ c.if-records-place.false))
