use Rattle.numbers.proofs.Made.{Making}
use mathlib.Core.List.{map}
use Rattle.numbers.specs.Numbers.{low}
use Rattle.numbers.proofs.bytes_of.Given as goal

abbrev pub invariant-loop-i : goal.invariant-loop-i
invariant-loop-i l = Making 0 64 (map low l.n) l.b-items l.i
