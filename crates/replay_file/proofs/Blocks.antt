-- The bytes that were read, block by block: the answer is that of all of them.
use Prim.Native.Nat.{ℕ, ◌*◌, ◌/◌, ◌≤◌}
use mathlib.Core.Path.{◌≡◌, refl, sym, ap, ◌∙◌}
use mathlib.Core.Bool.{false}
use mathlib.Core.List.{List, [], ◌++◌, append_assoc}
use lib.ListN.{length, drop, drop_of_length-le}
use native.Mathlib.Omega.{arith}
use Rattle.capture.specs.declared.Replayed.{Replayed}
use Rattle.capture_file.specs.declared.Progress.{Progress}
use Rattle.capture.specs.Replay.{agreeing}
use Rattle.capture_file.specs.File.{capture_of, rest_of}
use Rattle.capture_file.proofs.Carried.{rest-none}
use Rattle.replay_file.specs.Captures.{OfRest, OfFile}

-- The bytes read since p₀ lead to p.
pub record Read (p₀ p : Progress) : Type 0 where
  pub bytes : List ℕ
  pub leads : (rest : List ℕ) → rest_of p rest ≡ rest_of p₀ (bytes ++ rest)

pub read_none : (p : Progress) → Read p p
read_none p = record { bytes = []; leads = λ rest. refl }

module _ {p₀ p : Progress} (read : Read p₀ p) where
  -- a block of whole records
  pub read_block : (q : Progress) (block : List ℕ) → length block ≡ 32768
      → ((rest : List ℕ) → rest_of q (drop (4 * (length block / 4)) block ++ rest) ≡ rest_of p (block ++ rest)) → Read p₀ q
  read_block q block e f =
      let none : drop (4 * (length block / 4)) block ≡ [] = drop_of_length-le block {i = 4 * (length block / 4)} (omega arith) in
      record {
        bytes = read.bytes ++ block;
        leads = λ rest.
            ap (λ (l : List ℕ). rest_of q (l ++ rest)) (sym none) ∙ f rest ∙ read.leads (block ++ rest)
            ∙ ap (rest_of p₀) (sym (append_assoc read.bytes block rest));
      }

  -- the answer stands
  pub read-stands : agreeing p.replayed.outcome ≡ false → OfRest p₀ p.replayed
  read-stands e = record { bytes = read.bytes ++ []; answers = sym (rest-none p [] e) ∙ read.leads [] }

-- A file whose header was read, and its rest.
pub file_of : (p : Progress) (header : List ℕ) (r : Replayed) → (8 ≤ length header → (rest : List ℕ) → rest_of p (drop 8 header ++ rest) ≡ capture_of (header ++ rest)) → length header ≡ 8 → OfRest p r → OfFile r
file_of p header r f e o =
    let none : drop 8 header ≡ [] = drop_of_length-le header {i = 8} (omega arith) in
    record { bytes = header ++ o.bytes; answers = o.answers ∙ ap (λ (l : List ℕ). rest_of p (l ++ o.bytes)) (sym none) ∙ f (omega arith) o.bytes }
