-- The header's words are the first two of the file.
use Rattle.std.proofs.Common.{◌≤◌, ap, sym, ◌∙◌, length, arith}
use lib.Seq.{length-take-le}
use Rattle.recorder.specs.File.{headed, header_of}
use Rattle.recorder.proofs.Laws.{header_short, two-words}
use Rattle.recorder.proofs.file.header_of.Goals as goal

pub returns-then-first-lt8 : goal.returns-then-first-lt8
returns-then-first-lt8 c = sym (header_short _ c.if-first-lt8.true)

pub returns : goal.returns
unfolding header_of
returns c =
    let first = c.args.first.now in
    let decode = c.decode in
    let words = decode.new.words in
    let long : 8 ≤ length first = omega (arith, c.if-first-lt8.false) in
    c.headed.ensures ∙ ap headed (sym (sym decode.ensures.words_after ∙ two-words words decode.result decode.auto.words (omega (arith, decode.ensures.value, length-take-le 8 first long))))
