-- A place has twenty digits at most, and a byte three.
use Rattle.std.proofs.Common.{rules, arith, length-append}
use Rattle.text.proofs.Decimals.{long_room, byte_room}
use Rattle.outcome.proofs.put_differs.Goals as goal

pub put_word-requires : goal.put_word-requires
put_word-requires g c =
    (search rules, simp (c.put.ensures, length-append) (omega (arith, c.requires, long_room c.args.place)))

pub put_word-requires-2 : goal.put_word-requires-2
put_word-requires-2 g c =
    (search rules, simp (c.put_word.ensures, c.put.ensures, length-append) (omega (arith, c.requires, long_room c.args.place, byte_room c.args.seen (omega arith))))

pub put_word-requires-3 : goal.put_word-requires-3
put_word-requires-3 g c =
    (search rules, simp (c.put_word-2.ensures, c.put_word.ensures, c.put.ensures, length-append) (omega (arith, c.requires, long_room c.args.place, byte_room c.args.seen (omega arith), byte_room c.args.model (omega arith))))
