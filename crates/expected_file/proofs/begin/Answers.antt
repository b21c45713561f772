-- The header is judged, and the state is the fresh one.
use Rattle.recorder.specs.File.{header_of}
use Rattle.recorder.proofs.Laws.{header_append}
use Rattle.expected_file.specs.declared.Progress.{Progress}
use Rattle.expected_file.specs.File.{after, begun_by, begun_of, rest_of}
use Rattle.expected_file.proofs.Carried.{begun_long, headed_file, refused_file}
use Rattle.device.specs.State.{fresh_of}
use Prim.Native.Nat.{ℕ}
use mathlib.Core.Path.{◌≡◌, refl, sym, ap, ◌∙◌}
use mathlib.Core.List.{[], ◌++◌}
use lib.ListN.{take, drop}
use native.Mathlib.Omega.{arith}
use Rattle.expected_file.proofs.begin.Goals as goal

pub returns-in-Ok : goal.returns-in-Ok
returns-in-Ok c =
    let first = c.args.first.now in
    let same : c.begun.result ≡ begun_of first = c.begun.ensures ∙ ap begun_by (sym c.in-Ok.is ∙ c.header_of.ensures) in
    let number = ap (λ (p : Progress). p.number) same in
    record {
      value = same;
      rest_value = λ z rest. ap (λ (p : Progress). after (take 8 first) (rest_of p (drop 8 first ++ rest))) same ∙ headed_file first rest (sym number ∙ z);
      rest_value_2 = λ n h rest. ap (λ (p : Progress). rest_of p rest) same ∙ refused_file first (first ++ rest) rest (header_append first rest h) (λ z. n (number ∙ z));
      result_value = λ h. ap (λ (p : Progress). rest_of p []) same ∙ refused_file first first [] refl (λ z. absurd (omega (arith, h, begun_long first z)));
    }

pub returns-in-Err : goal.returns-in-Err
returns-in-Err c =
    let first = c.args.first.now in
    let same : c.begun-in-Err.result ≡ begun_of first = c.begun-in-Err.ensures ∙ ap (λ (n : ℕ). record { number = n; part = 0; version = 0; count = 0; state = fresh_of }) c.number.ensures ∙ ap begun_by (sym c.in-Err.is ∙ c.header_of.ensures) in
    let number = ap (λ (p : Progress). p.number) same in
    record {
      value = same;
      rest_value = λ z rest. ap (λ (p : Progress). after (take 8 first) (rest_of p (drop 8 first ++ rest))) same ∙ headed_file first rest (sym number ∙ z);
      rest_value_2 = λ n h rest. ap (λ (p : Progress). rest_of p rest) same ∙ refused_file first (first ++ rest) rest (header_append first rest h) (λ z. n (number ∙ z));
      result_value = λ h. ap (λ (p : Progress). rest_of p []) same ∙ refused_file first first [] refl (λ z. absurd (omega (arith, h, begun_long first z)));
    }
