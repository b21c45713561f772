-- The five parts in their order: the first with a number that does not fit stands.
use Rattle.numbers.specs.Numbers.{fits, unfit_part}
use mathlib.Core.Path.{refl, sym, ◌∙◌}
use Rattle.fits.proofs.unfit_part.Goals as goal

pub returns-then-not-registers_fit : goal.returns-then-not-registers_fit
unfolding fits unfit_part
returns-then-not-registers_fit c = rw (sym c.registers_fit.ensures ∙ c.if-not-registers_fit.true) record { lowest = refl; none = refl }

pub returns-then-not-settings_fit : goal.returns-then-not-settings_fit
unfolding fits unfit_part
returns-then-not-settings_fit c = rw (sym c.registers_fit.ensures ∙ c.if-not-registers_fit.false, sym c.settings_fit.ensures ∙ c.if-not-settings_fit.true) record { lowest = refl; none = refl }

pub returns-then-not-transmit_fits : goal.returns-then-not-transmit_fits
unfolding fits unfit_part
returns-then-not-transmit_fits c = rw (sym c.registers_fit.ensures ∙ c.if-not-registers_fit.false, sym c.settings_fit.ensures ∙ c.if-not-settings_fit.false, sym c.transmit_fits.ensures ∙ c.if-not-transmit_fits.true) record { lowest = refl; none = refl }

pub returns-then-not-receive_fits : goal.returns-then-not-receive_fits
unfolding fits unfit_part
returns-then-not-receive_fits c = rw (sym c.registers_fit.ensures ∙ c.if-not-registers_fit.false, sym c.settings_fit.ensures ∙ c.if-not-settings_fit.false, sym c.transmit_fits.ensures ∙ c.if-not-transmit_fits.false, sym c.receive_fits.ensures ∙ c.if-not-receive_fits.true) record { lowest = refl; none = refl }

pub returns-then-not-latches_fit : goal.returns-then-not-latches_fit
unfolding fits unfit_part
returns-then-not-latches_fit c = rw (sym c.registers_fit.ensures ∙ c.if-not-registers_fit.false, sym c.settings_fit.ensures ∙ c.if-not-settings_fit.false, sym c.transmit_fits.ensures ∙ c.if-not-transmit_fits.false, sym c.receive_fits.ensures ∙ c.if-not-receive_fits.false, sym c.latches_fit.ensures ∙ c.if-not-latches_fit.true) record { lowest = refl; none = refl }

pub returns : goal.returns
unfolding fits unfit_part
returns c = rw (sym c.registers_fit.ensures ∙ c.if-not-registers_fit.false, sym c.settings_fit.ensures ∙ c.if-not-settings_fit.false, sym c.transmit_fits.ensures ∙ c.if-not-transmit_fits.false, sym c.receive_fits.ensures ∙ c.if-not-receive_fits.false, sym c.latches_fit.ensures ∙ c.if-not-latches_fit.false) record { lowest = refl; none = refl }
