-- A line of the number, the divisor and the error.
use Rattle.std.proofs.Common.{rules}
use Rattle.rate.specs.declared.Picked.{Picked}
use Rattle.reply.specs.Reply.{divisor_line}
use Rattle.text.specs.Decimal.{word_of, signed_word_of}
use Rattle.text.proofs.Decimals.{long_room}
use Rattle.text.proofs.Signed.{signed_room}
use mathlib.Core.Path.{◌≡◌, ap, ◌∙◌}
use mathlib.Core.List.{◌++◌, append_assoc}
use lib.ListN.{length-append}
use lib.IntN.{ℤ}
use mir.Syntax.{w32}
use mir.Val.{SFits, to_z, of_z}
use mir.ValLaws.{to_z-of_z}
use native.Mathlib.Omega.{arith}
use Rattle.reply.proofs.put_divisor.Goals as goal

-- the error that is handed on
line : (p : Picked) → SFits w32 p.error → word_of p.number 32 ++ (word_of p.divisor 32 ++ signed_word_of (to_z w32 (of_z w32 p.error)) 10) ≡ divisor_line p
unfolding divisor_line
line p f = ap (λ (z : ℤ). word_of p.number 32 ++ (word_of p.divisor 32 ++ signed_word_of z 10)) (to_z-of_z w32 p.error f)

pub put_word-requires : goal.put_word-requires
put_word-requires g c =
    (search rules, omega (arith, c.requires, long_room c.divisor_for-a.result.number))

pub put_word-requires-2 : goal.put_word-requires-2
put_word-requires-2 g c =
    let p = c.divisor_for-a.result in
    (search rules, simp (c.put_word.ensures, length-append) (omega (arith, c.requires, long_room p.number, long_room p.divisor)))

pub put_signed_word-requires : goal.put_signed_word-requires
put_signed_word-requires g c =
    let p = c.divisor_for-a.result in
    (search rules, simp (c.put_word-2.ensures, c.put_word.ensures, length-append) (omega (arith, c.requires, long_room p.number, long_room p.divisor, signed_room (to_z w32 (of_z w32 p.error)))))

pub returns : goal.returns
returns g c =
    let a = c.divisor_for-a in
    let old = c.args.out.now.items in
    rw (c.put_signed_word.ensures, c.put_word-2.ensures, c.put_word.ensures) (simp append_assoc) ∙ ap (λ s. old ++ s) (line a.result (record { sfits = search a.type_inv }) ∙ ap divisor_line a.ensures.outcome)
