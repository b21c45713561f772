-- The line of a byte's number has at most four characters.
use native.Mathlib.Omega.{arith}
use borrow.Author.Rules.{rules}
use mathlib.Core.Path.{ap}
use lib.ListN.{length}
use Rattle.text.proofs.Decimals.{byte_room}
use Rattle.expect_blocks.proofs.tell_number.Goals as goal

pub put_word-requires : goal.put_word-requires
put_word-requires c =
    (search rules, omega (arith, ap length c.new-line.ensures, byte_room c.from.result (search rules)))
