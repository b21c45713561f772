-- The test of every number of a list, as the library makes it.
use mathlib.Core.Bool.{Bool, ◌&&◌}
use mathlib.Core.Path.{◌≡◌, refl, ap}
use mathlib.Core.List.{List, [], ◌∷◌}
use Prim.Native.Nat.{ℕ}
use Rattle.std.specs.List.{list_all}
use Rattle.flag.specs.Flag.{all_of}
use Rattle.numbers.specs.Numbers.{is_byte}

pub all_is : (ns : List ℕ) → list_all is_byte ns ≡ all_of is_byte ns
all_is [] = refl
all_is (n ∷ ns) = ap (λ (t : Bool). is_byte n && t) (all_is ns)
