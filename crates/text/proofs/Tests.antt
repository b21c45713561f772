-- Tests of which one side is settled.
use mathlib.Core.Path.{◌≡◌, refl}
use mathlib.Core.Bool.{Bool, true, false, cond, ◌&&◌}

pub and_false : (t : Bool) → t && false ≡ false
and_false true = refl
and_false false = refl

pub and-true : (t : Bool) → t ≡ t && true
and-true true = refl
and-true false = refl

pub cond_same : {A : Type 0} (t : Bool) (x : A) → cond t x x ≡ x
cond_same true x = refl
cond_same false x = refl
