-- The error by the side on which the clock is.
use Prim.Native.Nat.{ℕ, ◌≤◌}
use mathlib.Core.Path.{sym, ◌∙◌}
use native.Mathlib.Omega.{arith}
use mir.Syntax.{w32}
use mir.ValLaws.{to_z-of_z}
use Rattle.rate.specs.Rate.{clock_for, Nearest}
use Rattle.rate.proofs.Error.{error_below, error_above, amount_below, amount_above, exact_bounds}
use Rattle.rate.proofs.error_of.Goals as goal

bounds : {clock rate d : ℕ} → 1 ≤ rate → rate ≤ 1000000 → Nearest 65535 clock rate d → (1 ≤ clock_for rate d) × (clock_for rate d ≤ 1048560000000)
bounds {clock} {rate} {d} one most near = exact_bounds rate d one most near.from_one near.to_most

pub overflow_mul-exact-2 : goal.overflow_mul-exact-2
overflow_mul-exact-2 c =
    record { fits = (let b = bounds c.requires.le_rate c.requires.rate_bound c.requires.nearest in omega arith) }

pub overflow_mul-exact-then-given-exact : goal.overflow_mul-exact-then-given-exact
overflow_mul-exact-then-given-exact c =
    record { fits = (let b = bounds c.requires.le_rate c.requires.rate_bound c.requires.nearest in omega arith) }

pub below-requires : goal.below-requires
below-requires c =
    let a = c.args in
    let most = amount_below a.clock (clock_for a.rate a.divisor) in
    omega arith

pub returns-then-given-exact : goal.returns-then-given-exact
returns-then-given-exact c =
    let a = c.args in
    to_z-of_z w32 c.below.result (record { sfits = c.below.type_inv }) ∙ c.below.ensures ∙ sym (error_below a.clock a.rate a.divisor (omega arith))

pub nonzero_div-given : goal.nonzero_div-given
nonzero_div-given c = let b = bounds c.requires.le_rate c.requires.rate_bound c.requires.nearest in omega arith

pub above-requires : goal.above-requires
above-requires c =
    let a = c.args in
    let p = c.requires in
    let most = amount_above a.clock a.rate a.divisor p.le_rate p.clock_bound p.nearest in
    omega arith

pub returns : goal.returns
returns c =
    let a = c.args in
    to_z-of_z w32 c.above.result (record { sfits = c.above.type_inv }) ∙ c.above.ensures ∙ sym (error_above a.clock a.rate a.divisor (omega arith))
