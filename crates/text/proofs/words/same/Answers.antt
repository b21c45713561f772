-- The library's comparison is the one of the definitions.
use mathlib.Core.Path.{◌∙◌}
use Rattle.text.proofs.Texts.{same_is}
use Rattle.text.proofs.words.same.Goals as goal

pub returns : goal.returns
returns c = c.eq.ensures ∙ same_is _ _
