use Rattle.std.proofs.Common.{◌+◌, ◌≤◌}
use Rattle.command.specs.Command.{longest_line}
use Rattle.calls.proofs.serve.Given as goal

abbrev pub invariant-loop : goal.invariant-loop
invariant-loop l = l.t.used ≤ longest_line + 1
