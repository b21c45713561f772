-- A number below 2 ^ 31 taken from 0.
use Prim.Native.Nat.{ℕ, ◌<◌, ◌^◌}
use mathlib.Core.Path.{◌≡◌, sym, ap, ◌∙◌, subst}
use lib.IntN.{ℤ, pos, neg_ℤ, ◌-ℤ◌}
use mir.Syntax.{w32}
use mir.Val.{SFits, to_z}
use mir.ValLaws.{to_z_pos, to_z-of_z}
use Rattle.rate.proofs.Error.{zero_minus, negative_fits}
use Rattle.rate.proofs.below.Goals as goal

negated : (n : ℕ) → n < 2 ^ 31 → pos 0 -ℤ to_z w32 n ≡ neg_ℤ (pos n)
negated n h = ap (λ (z : ℤ). pos 0 -ℤ z) (to_z_pos w32 n h) ∙ zero_minus n

fits : (n : ℕ) → n < 2 ^ 31 → SFits w32 (pos 0 -ℤ to_z w32 n)
fits n h = subst (λ (z : ℤ). SFits w32 z) (sym (negated n h)) (negative_fits n h)

pub overflow_sub-result : goal.overflow_sub-result
overflow_sub-result c = fits c.args.parts c.requires

pub returns : goal.returns
returns c =
    to_z-of_z w32 (pos 0 -ℤ to_z w32 c.args.parts) (fits c.args.parts c.requires) ∙ negated c.args.parts c.requires
