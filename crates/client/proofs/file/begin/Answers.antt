-- What is begun is handed out.
use Rattle.client.proofs.Agreed.{capture_told, told_by_rest}
use Rattle.client.proofs.Parts.{carried_again, told_handed, either}
use Rattle.capture_file.specs.File.{rest_of}
use Rattle.capture_file.specs.declared.Progress as parts
use Rattle.client.specs.declared.file.Progress.{Progress}
use Rattle.client.specs.Replay.{replay_answer, Told}
use Rattle.client.specs.File.{rest_answer}
use Prim.Native.Nat.{ℕ}
use mathlib.Core.Path.{◌≡◌, sym, ap, subst, ◌∙◌}
use Rattle.capture.specs.declared.Replayed.{Replayed}
use mathlib.Core.List.{List, [], ◌++◌}
use lib.ListN.{length, drop}
use Rattle.client.proofs.file.begin.Goals as goal

pub returns : goal.returns
returns c =
    let q = c.begin.result in
    let same : (l : List ℕ) → rest_answer c.from.result l ≡ replay_answer (rest_of q l) =
    λ l. ap (λ (x : Progress). rest_answer x l) c.from.ensures ∙ ap (λ (x : parts.Progress). replay_answer (rest_of x l)) (carried_again q)
    in
    let begun = c.begin.ensures in
    let bytes = c.args.first.now in
    let told : Told q.replayed.outcome =
    either 8 (length bytes)
    (λ h. told_by_rest q (drop 8 bytes ++ []) (subst (λ (x : Replayed). Told x.outcome) (sym (begun.rest_value h [])) (capture_told (bytes ++ []))))
    (λ h. told_by_rest q [] (subst (λ (x : Replayed). Told x.outcome) (sym (begun.result_value h)) (capture_told bytes)))
    in
    record {
      rest_value = λ h rest. same (drop 8 bytes ++ rest) ∙ ap replay_answer (begun.rest_value h rest);
      result_value = λ h. same [] ∙ ap replay_answer (begun.result_value h);
      done_value = ap (λ (x : Progress). x.done) c.from.ensures ∙ begun.place_value;
      told_so_far = told_handed q c.from.result c.from.ensures told;
    }
