-- Texts as lists of bytes.
use Rattle.std.specs.Prelude.{ℕ, suc, ◌+◌, Bool, true, false, cond, ◌&&◌, List, [], ◌∷◌, ◌++◌, ◌≡◌, length, take, eqb}
use Prim.Native.Char.{code}
use Prim.Native.String.{String, [] as none, ◌∷◌ as ◌first◌}

-- the bytes of a text
abbrev pub text : String → List ℕ
text none = []
text (◌first◌ c cs) = code c ∷ text cs

-- two texts are the same
unfoldable pub same : List ℕ → List ℕ → Bool
same [] [] = true
same [] (d ∷ ds) = false
same (c ∷ cs) [] = false
same (c ∷ cs) (d ∷ ds) = eqb c d && same cs ds

-- how many bytes stand before the first b: all of them where there is none
unfoldable pub before : ℕ → List ℕ → ℕ
before b [] = 0
before b (c ∷ cs) = cond (eqb c b) 0 (suc (before b cs))

-- a buffer that held `from` holds `to`: up to `at` as it was, then what is said, which ends at `end`
pub record Appended {A : Type 0} (from : List A) (at : ℕ) (said : List A) (to : List A) (end : ℕ) : Type 0 where
  pub holds : take end to ≡ take at from ++ said
  pub place : end ≡ at + length said
