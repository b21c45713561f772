-- The bytes that were read, block by block: what is handed to the writes is what is made of all of them.
use Prim.Native.Nat.{ℕ, ◌*◌, ◌/◌, ◌≤◌}
use mathlib.Core.Path.{◌≡◌, refl, sym, ap, ◌∙◌}
use mathlib.Core.List.{List, [], ◌++◌, append_assoc}
use lib.ListN.{length, take, drop, drop_of_length-le}
use lib.Seq.{take_all}
use native.Mathlib.Omega.{arith}
use borrow.Author.Tests.{ne_eqb}
use Rattle.recorder.proofs.Laws.{left}
use Rattle.expected_file.specs.declared.Progress.{Progress}
use Rattle.expected_file.specs.File.{Made, after, expected_of, begun_of, rest_of}
use Rattle.expected_file.proofs.Carried.{after-after, rest-none, refused_file}
use Rattle.expect_blocks.specs.Written.{HeaderOf, NumberOfRest, NumberOf}

-- A block of whole records leaves nothing.
pub whole_block : (p q : Progress) (block made : List ℕ) → length block ≡ 32768 →
    ((rest : List ℕ) → after made (rest_of q (left block ++ rest)) ≡ rest_of p (block ++ rest)) → (rest : List ℕ) → after made (rest_of q rest) ≡ rest_of p (block ++ rest)
whole_block p q block made e step rest =
    let none : left block ≡ [] = drop_of_length-le block {i = 4 * (length block / 4)} (omega arith) in
    ap (λ (l : List ℕ). after made (rest_of q (l ++ rest))) (sym none) ∙ step rest

-- What was read since p₀, and what was handed to the writes for it, lead to p.
pub record Led (p₀ p : Progress) : Type 0 where
  pub read : List ℕ
  pub handed : List ℕ
  pub leads : (rest : List ℕ) → after handed (rest_of p rest) ≡ rest_of p₀ (read ++ rest)

pub led_none : (p : Progress) → Led p p
led_none p = record { read = []; handed = []; leads = λ rest. refl }

module _ {p₀ p : Progress} (led : Led p₀ p) where
  -- a block more
  pub led_next : (q : Progress) (block made : List ℕ) → ((rest : List ℕ) → after made (rest_of q rest) ≡ rest_of p (block ++ rest)) → Led p₀ q
  led_next q block made step =
      record {
        read = led.read ++ block;
        handed = led.handed ++ made;
        leads = λ rest.
            after-after led.handed made (rest_of q rest)
            ∙ ap (after led.handed) (step rest)
            ∙ led.leads (block ++ rest)
            ∙ ap (rest_of p₀) (sym (append_assoc led.read block rest));
      }

  -- the last bytes
  pub led_ends : (number : ℕ) (bytes : List ℕ) → number ≡ (rest_of p bytes).number → NumberOfRest p₀ number
  led_ends number bytes e = record { bytes = led.read ++ bytes; answers = e ∙ ap (λ (m : Made). m.number) (led.leads bytes) }

  -- a refusal stands
  pub led_stands : (p.number ≡ 0 → ⊥) → NumberOfRest p₀ p.number
  led_stands n = led_ends p.number [] (sym (ap (λ (m : Made). m.number) (rest-none p [] (ne_eqb _ _ n))))

-- The header.

pub refused-number : (p : Progress) (header : List ℕ) → p ≡ begun_of header → (p.number ≡ 0 → ⊥) → NumberOf p.number
refused-number p header e n =
    let number : p.number ≡ (begun_of header).number = ap (λ (q : Progress). q.number) e in
    record {
      bytes = header;
      answers =
          sym (ap (λ (m : Made). m.number) (rest-none p [] (ne_eqb _ _ n)))
          ∙ ap (λ (q : Progress). (rest_of q []).number) e
          ∙ ap (λ (m : Made). m.number) (refused_file header header [] refl (λ z. n (number ∙ z)));
    }

pub good_header_lem : (p : Progress) (header : List ℕ) → length header ≤ 8 →
    ((rest : List ℕ) → after (take 8 header) (rest_of p (drop 8 header ++ rest)) ≡ expected_of (header ++ rest)) → HeaderOf p header
good_header_lem p header h f rest =
    let none : drop 8 header ≡ [] = drop_of_length-le header {i = 8} (omega arith) in
    ap (λ (l : List ℕ). after l (rest_of p rest)) (sym (take_all 8 header h))
    ∙ ap (λ (l : List ℕ). after (take 8 header) (rest_of p (l ++ rest))) (sym none)
    ∙ f rest

pub file_number : (p : Progress) (header : List ℕ) (number : ℕ) → HeaderOf p header → NumberOfRest p number → NumberOf number
file_number p header number h r =
    record { bytes = header ++ r.bytes; answers = r.answers ∙ ap (λ (m : Made). m.number) (h r.bytes) }
