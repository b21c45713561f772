-- The call: refused, or the divisor that the search finds, and its error.
use mathlib.Core.Path.{◌≡◌, sym, ◌∙◌}
use mathlib.Core.Bool.{true, false}
use mir.Syntax.{w32}
use mir.ValLaws.{to_z-of_z}
use native.Mathlib.Omega.{arith}
use Rattle.rate.specs.Rate.{divisor_of, divisor_for, within}
use Rattle.rate.proofs.Search.{found, only_one, inside}
use Rattle.rate.proofs.divisor_for.Goals as goal

pub returns-then-not-within : goal.returns-then-not-within
unfolding divisor_for
returns-then-not-within c =
    let a = c.args in
    let out : within a.clock a.rate ≡ false = sym c.within.ensures ∙ c.if-not-within.true in
    record { outcome = rw out; nearest = λ e. absurd (omega arith); no_other = λ e. absurd (omega arith) }

pub nearest-divisor-requires : goal.nearest-divisor-requires
nearest-divisor-requires c =
    let a = c.args in
    let p = inside a.clock a.rate (sym c.within.ensures ∙ c.if-not-within.false) in
    record { le_rate = p.2; rate_bound = p.3 }

pub error_of-requires : goal.error_of-requires
error_of-requires c =
    let a = c.args in
    let p = inside a.clock a.rate (sym c.within.ensures ∙ c.if-not-within.false) in
    record { clock_bound = p.1; le_rate = p.2; rate_bound = p.3; nearest = c.nearest-divisor.ensures }

pub returns : goal.returns
unfolding divisor_for
returns c =
    let a = c.args in
    let into : within a.clock a.rate ≡ true = sym c.within.ensures ∙ c.if-not-within.false in
    let near = c.nearest-divisor.ensures in
    let same : c.nearest-divisor.result ≡ divisor_of a.clock a.rate = only_one near (found a.clock a.rate 65534) in
    let error = to_z-of_z w32 c.error_of.result (record { sfits = c.error_of.type_inv }) ∙ c.error_of.ensures in
    record { outcome = rw (into, error, same); nearest = λ _. near; no_other = λ _ d other. only_one other near }
