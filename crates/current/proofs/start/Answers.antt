-- The fresh state.
use Rattle.current.specs.Current.{held}
use mathlib.Core.Path.{ap}
use Rattle.current.proofs.start.Goals as goal

pub returns : goal.returns
returns c = ap held c.fresh.ensures
