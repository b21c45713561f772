use Prim.Native.Nat.{min}
use mathlib.Core.Path.{◌≡◌}
use Rattle.flag.specs.Flag.{any_of}
use Rattle.queue.specs.Queue.{contents, has_error}
use Rattle.queue.proofs.Laws.{Finding}
use Rattle.queue.proofs.entries.any_error.Given as goal

abbrev pub invariant-loop-e : goal.invariant-loop-e
invariant-loop-e l = (l.n ≡ min l.fn.q.count 64) × Finding has_error 64 l.fn.q.count l.fn.q.entries (any_of has_error (contents l.fn.q.count l.fn.q.entries)) l.error l.e-index
