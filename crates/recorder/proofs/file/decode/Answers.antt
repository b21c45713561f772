use Rattle.std.proofs.Common.{arith}
use Rattle.std.proofs.lemmas.Grind.{common_steps}
use Rattle.recorder.proofs.Laws.{words-chunks}
use Rattle.recorder.proofs.file.decode.Goals as goal

pub returns-clause-words_after : goal.returns-clause-words_after
returns-clause-words_after c = grind (arith, common_steps, words-chunks)
