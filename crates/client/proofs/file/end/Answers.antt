-- All whole records, and then what is left; a file of too many records is refused.
use Rattle.client.proofs.Parts.{end_told}
use Rattle.capture_file.specs.File.{rest_of}
use Rattle.capture_file.proofs.Parts.{rest-ends}
use Rattle.client.specs.File.{rest_answer}
use Prim.Native.Nat.{◌+◌, ◌-◌, ◌*◌, ◌/◌, ◌≤◌}
use mathlib.Core.Path.{◌≡◌, sym, ap, ◌∙◌}
use lib.ListN.{length}
use native.Mathlib.Omega.{arith}
use Rattle.capture_file.specs.declared.Progress as parts
use Rattle.client.specs.Replay.{replay_answer}
use borrow.Author.Tests.{ltb-false}
use Rattle.client.proofs.file.end.Goals as goal

pub returns : goal.returns
returns c =
    let bytes = c.args.bytes.now in
    let n = length bytes - 4 * (length bytes / 4) in
    let whole : length bytes ≤ 4 * (length bytes / 4) + n = omega arith in
    let blocks = c.replay_blocks-q in
    let begun = c.from-begun in
    let all : c.answered-2.result ≡ rest_answer c.args.p bytes =
    c.answered-2.ensures ∙ ap replay_answer (c.finish-r.ensures ∙ rest-ends begun.result blocks.result bytes n whole blocks.ensures.by_index ∙ ap (λ (x : parts.Progress). rest_of x bytes) begun.ensures)
    in record { value = λ h. all; value_2 = λ h. absurd (omega (arith, h, ltb-false _ _ (sym c.beyond.ensures ∙ c.if-beyond.false))); agreed = λ t. end_told c.args.p c.answered-2.result bytes all t }
