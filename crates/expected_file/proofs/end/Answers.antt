-- What is left behind the last record is no record.
use Rattle.expected_file.proofs.Pieces.{end_refused, end_none, end_left}
use native.Mathlib.Omega.{arith}
use Rattle.expected_file.proofs.end.Goals as goal

pub returns-then-q-ne-DONE : goal.returns-then-q-ne-DONE
returns-then-q-ne-DONE c =
    let done = c.go_on-q in
    let went = done.ensures in
    record { bytes_after = end_refused c.args.p done.result c.args.bytes.now done.new.bytes went c.if-q-ne-DONE.true; bytes_unchanged = went.bytes_unchanged; count_in_bounds = went.count_in_bounds; count_value = went.count_value }

pub returns-then-bytes-eq0 : goal.returns-then-bytes-eq0
returns-then-bytes-eq0 c =
    let done = c.go_on-q in
    let went = done.ensures in
    record { bytes_after = end_none c.args.p done.result c.args.bytes.now done.new.bytes went (omega (arith, c.if-q-ne-DONE.false)) (omega (arith, c.if-bytes-eq0.true)); bytes_unchanged = went.bytes_unchanged; count_in_bounds = went.count_in_bounds; count_value = went.count_value }

pub returns : goal.returns
returns c =
    let done = c.go_on-q in
    let went = done.ensures in
    record { bytes_after = end_left c.args.p done.result c.args.bytes.now done.new.bytes went (omega (arith, c.if-q-ne-DONE.false)) (λ e. absurd (omega (arith, e, c.if-bytes-eq0.false, done.auto.bytes))); bytes_unchanged = went.bytes_unchanged; count_in_bounds = went.count_in_bounds; count_value = went.count_value }
