-- Laws of the definitions that the proofs use.
use Prim.Native.Nat.{ℕ}
use mathlib.Core.Path.{◌≡◌, refl}
use lib.Dec.{eqb}
use borrow.Author.Tests.{ne_eqb}
use Rattle.flag.proofs.Laws.{cond_same}
use Rattle.device.specs.declared.Reading.{Reading}
use Rattle.device.specs.declared.State.{State}
use Rattle.device.specs.Calls.{read_register}

-- A read at any other address leaves the state.
pub read_elsewhere : (s : State) (a : ℕ) → (a ≡ 0 → ⊥) → (a ≡ 2 → ⊥) → (a ≡ 5 → ⊥) → (a ≡ 6 → ⊥) → (read_register s a).state ≡ s
unfolding read_register
read_elsewhere s a n0 n2 n5 n6 =
    simp (ne_eqb _ _ n0, ne_eqb _ _ n2, ne_eqb _ _ n5, ne_eqb _ _ n6)
    (cond_same (λ (r : Reading). r.state) (eqb a 1) _ _ s refl
    (cond_same (λ (r : Reading). r.state) (eqb a 3) _ _ s refl
    (cond_same (λ (r : Reading). r.state) (eqb a 4) _ _ s refl refl)))
