-- What is handed to the writes, for the bytes that are read: no contract says which these are.
use Rattle.std.specs.Prelude.{ℕ, ◌≡◌, List, ◌++◌}
use Rattle.expected_file.specs.declared.Progress.{Progress}
use Rattle.expected_file.specs.File.{after, expected_of, made_by, rest_of}

-- a header: it, and then what is made of the bytes that follow it, is what is made of the file
abbrev pub HeaderOf : Progress → List ℕ → Type 0
HeaderOf p header = (rest : List ℕ) → after header (rest_of p rest) ≡ expected_of (header ++ rest)

-- what is made of some bytes of a file that goes on
pub record NextOf (p q : Progress) (made : List ℕ) : Type 0 where
  pub bytes : List ℕ
  pub goes_on : (rest : List ℕ) → after made (rest_of q rest) ≡ rest_of p (bytes ++ rest)

-- what is made of some bytes with which a file ends
pub record LastOf (p r : Progress) (made : List ℕ) : Type 0 where
  pub bytes : List ℕ
  pub ends : made_by r made ≡ rest_of p bytes

-- the number for a file, where some bytes were still to come
pub record NumberOfRest (p : Progress) (number : ℕ) : Type 0 where
  pub bytes : List ℕ
  pub answers : number ≡ (rest_of p bytes).number

-- the number for a file of some bytes
pub record NumberOf (number : ℕ) : Type 0 where
  pub bytes : List ℕ
  pub answers : number ≡ (expected_of bytes).number
