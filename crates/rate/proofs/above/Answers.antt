-- A number below 2 ^ 31 is the same with a sign.
use mir.Syntax.{w32}
use mir.ValLaws.{to_z_pos}
use Rattle.rate.proofs.above.Goals as goal

pub returns : goal.returns
returns c = to_z_pos w32 c.args.parts c.requires
