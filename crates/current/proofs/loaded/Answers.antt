-- The test is that of the definition.
use Rattle.current.specs.Current.{loaded_of}
use mathlib.Core.Path.{◌∙◌}
use borrow.Author.Tests.{eq-eqb, ne_eqb}
use Rattle.current.proofs.loaded.Goals as goal

pub returns-then-unfit-eq-NONE : goal.returns-then-unfit-eq-NONE
unfolding loaded_of
returns-then-unfit-eq-NONE c =
    rw c.state_of-state.ensures (simp (c.unfit_part-unfit.ensures.none ∙ eq-eqb _ _ c.if-unfit-eq-NONE.true))

pub returns : goal.returns
unfolding loaded_of
returns c =
    let unfit = c.unfit_part-unfit.ensures in
    rw (c.broken.ensures, c.state_of-state.ensures, unfit.lowest) (simp (unfit.none ∙ ne_eqb _ _ c.if-unfit-eq-NONE.false))
