-- The header, and then the blocks.
use Rattle.replay_file.specs.Captures.{OfRest, OfFile}
use Rattle.replay_file.proofs.Blocks.{file_of}
use Rattle.std.proofs.lemmas.Result.{IfOk-weaker}
use mathlib.Core.Path.{◌≡◌}
use lib.ListN.{length, take}
use native.Mathlib.Omega.{arith}
use Rattle.replay_file.proofs.judge.Goals as goal

pub returns : goal.returns
returns g c =
    let begun = c.begin-p in
    let header = take c.in_ok-n.n c.fill.new.block in
    let full : length header ≡ 8 = omega (arith, c.in_ok-n.ensures, c.fill.auto.block, c.if-n-lt8.false) in
    IfOk-weaker _ (OfRest begun.result) OfFile (λ r rest. file_of begun.result header r begun.ensures.rest_value full rest) c.replay_blocks.ensures
