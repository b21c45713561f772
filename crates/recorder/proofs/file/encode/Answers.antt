use Rattle.std.proofs.Common.{◌≡◌, ◌∙◌, ℕ, ◌+◌, ◌-◌, ◌*◌, List, length, arith}
use Rattle.std.proofs.lemmas.Slice.{take-put_mid, drop-put_mid}
use Rattle.std.proofs.lemmas.Grind.{common_steps}
use Rattle.recorder.proofs.Laws.{bytes-take}
use Rattle.recorder.proofs.file.encode.Goals as goal

pub loop-i-preserved : goal.loop-i-preserved
loop-i-preserved c =
    let i : ℕ = c.loop-i.i in
    let bytes : List ℕ = c.loop-i.bytes in
    let new : List ℕ = c.copy_from_slice.new.self in
    let four : length new ≡ 4 = grind (arith, common_steps) in
    let k : ℕ = 4 * i + 4 - 4 * i in
    record {
      written =
          take-put_mid (4 * i) k bytes new (4 * (i + 1)) (omega arith) (grind arith)
          ∙ grind (arith, bytes-take c.args.words.now i c.loop-i-test.true);
      kept = drop-put_mid (4 * i) k bytes new (4 * (i + 1)) (omega arith) (grind arith) (omega arith) ∙ grind (arith, common_steps);
    }
