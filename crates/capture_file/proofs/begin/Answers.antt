-- The header of a file is that of its first eight bytes.
use Rattle.std.specs.Prelude.{Ok, Err}
use Rattle.recorder.specs.File.{bad_header, header_of}
use Rattle.recorder.proofs.Laws.{header_long, header_append}
use Rattle.capture_file.specs.File.{records_of, capture_of, rest_of}
use Rattle.capture.specs.Replay.{agreed, refused}
use Rattle.capture_file.specs.declared.Progress.{Progress}
use Rattle.device.specs.State.{fresh_of}
use Rattle.capture_file.proofs.Carried.{onward-none, rest-none, rest_records, refused_file, headed_file}
use Prim.Native.Nat.{ℕ}
use mathlib.Core.Path.{◌≡◌, refl, sym, ap, ◌∙◌}
use mathlib.Core.List.{List, [], ◌++◌}
use lib.ListN.{drop}
use native.Mathlib.Omega.{arith}
use Rattle.capture_file.proofs.begin.Goals as goal

-- a file refused before its first record

abbrev unread : ℕ → Progress
unread number = record { version = 0; place = 0; replayed = refused number fresh_of 0 }

pub returns-in-Err : goal.returns-in-Err
returns-in-Err c =
    let first = c.args.first.now in
    let error = c.in-Err.error in
    let bad : header_of first ≡ Err error = sym c.header_of.ensures ∙ c.in-Err.is in
    let made : c.unread.result ≡ unread (bad_header error) = c.unread.ensures ∙ ap unread c.number.ensures in
    let file : (bytes rest : List ℕ) → header_of bytes ≡ header_of first → rest_of c.unread.result rest ≡ capture_of bytes =
    λ bytes rest e. ap (λ (p : Progress). rest_of p rest) made ∙ rest-none (unread (bad_header error)) rest refl ∙ sym (refused_file bytes error (e ∙ bad))
    in record { rest_value = λ h rest. file (first ++ rest) (drop 8 first ++ rest) (header_append first rest h); result_value = λ h. file first [] refl; place_value = ap (λ (p : Progress). p.place) made }

pub returns-in-Ok : goal.returns-in-Ok
returns-in-Ok c =
    let first = c.args.first.now in
    let version = c.in-Ok.version in
    let good : header_of first ≡ Ok version = sym c.header_of.ensures ∙ c.in-Ok.is in record {
      rest_value = λ h rest.
          rw c.fresh.ensures
          (rest_records (record { version = version; place = 0; replayed = agreed fresh_of }) (drop 8 first ++ rest) refl ∙ onward-none (records_of version fresh_of (drop 8 first ++ rest)) ∙ sym (headed_file first rest version good h));
      result_value = λ h. absurd (omega (arith, h, header_long first version good));
      place_value = refl;
    }
