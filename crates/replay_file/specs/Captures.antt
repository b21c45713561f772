-- What is answered for the bytes that are read: no contract says which these are.
use Rattle.std.specs.Prelude.{ℕ, ◌≡◌, List}
use Rattle.capture.specs.declared.Replayed.{Replayed}
use Rattle.capture_file.specs.declared.Progress.{Progress}
use Rattle.capture_file.specs.File.{capture_of, rest_of}

-- the answer for the file, where some bytes were still to come
pub record OfRest (p : Progress) (r : Replayed) : Type 0 where
  pub bytes : List ℕ
  pub answers : r ≡ rest_of p bytes

-- the answer for a file of some bytes
pub record OfFile (r : Replayed) : Type 0 where
  pub bytes : List ℕ
  pub answers : r ≡ capture_of bytes
