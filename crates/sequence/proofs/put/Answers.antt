-- Beyond the last place nothing is put.
use mathlib.Core.Path.{sym}
use lib.Seq.{set_out}
use Rattle.sequence.proofs.put.Goals as goal

pub returns-else-place-words : goal.returns-else-place-words
returns-else-place-words c = sym (set_out _ _ _ c.if-place-words.false)
