-- The numbers are copied to those that are kept, and loaded.
use Rattle.device.specs.Ranges.{part_of}
use Rattle.current.specs.declared.Session.{Session}
use Rattle.current.specs.Current.{loaded_of}
use Rattle.current.proofs.Parts.{load_part}
use mathlib.Core.Path.{ap, ◌∙◌}
use Rattle.current.proofs.load.Goals as goal

pub returns-clause-part : goal.returns-clause-part
returns-clause-part g c =
    ap (λ (s : Session). part_of s.state) (c.loaded.ensures ∙ ap loaded_of c.copy_from_slice.ensures.after) ∙ load_part _
