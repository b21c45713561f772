-- A minus sign where the number is negative, then the digits of its amount.
use Rattle.std.proofs.Common.{rules, ◌+◌, ◌≤◌, ◌∙◌, ap, length, arith}
use Rattle.arrayvec.specs.ArrayVec.{array_vec_len}
use mathlib.Core.List.{◌++◌}
use Rattle.text.specs.Decimal.{long_decimal_of}
use Rattle.text.proofs.Signed.{signed_negative, signed_positive, sign_appended}
use Rattle.text.proofs.decimal.put_signed.Goals as goal
use Rattle.text.proofs.decimal.put_signed.Goals.{then-n-lt0, else-n-lt0}

pub put_number-requires : goal.put_number-requires
put_number-requires g c =
    let amount = c.from.ensures ∙ c.unsigned_abs.ensures.value in
    let room : array_vec_len c.if-n-lt0.out + length (long_decimal_of c.from.result) ≤ g.row.N = elim c.if-n-lt0.branch [ then-n-lt0 w ↦ omega (arith, c.requires, ap array_vec_len w.out-is, w.push.ensures.len, ap length (signed_negative c.args.n c.ranges.n c.from.result w.if-n-lt0.true amount)) | else-n-lt0 w ↦ omega (arith, c.requires, ap array_vec_len w.out-is, ap length (signed_positive c.args.n c.ranges.n c.from.result w.if-n-lt0.false amount)) ] in
    (search rules, room)

pub returns : goal.returns
returns g c =
    let amount = c.from.ensures ∙ c.unsigned_abs.ensures.value in
    elim c.if-n-lt0.branch [ then-n-lt0 w ↦ sign_appended _ _ _ _ _ _ (omega arith) w.push.ensures.items (rw w.out-is at c.put_number.ensures) (signed_negative c.args.n c.ranges.n c.from.result w.if-n-lt0.true amount) | else-n-lt0 w ↦ rw w.out-is at c.put_number.ensures ∙ ap (λ ds. c.args.out.now.items ++ ds) (signed_positive c.args.n c.ranges.n c.from.result w.if-n-lt0.false amount) ]
