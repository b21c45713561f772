-- What a line makes of the current state, and is answered.
use Rattle.std.specs.Prelude.{ℕ, List}
use Rattle.current.specs.declared.Session.{Session}
use Rattle.current.specs.Commands.{said_of, next_of, kept_of}
use Rattle.command.specs.Command.{command_of, operands_of}

-- where a run of lines stands: the current state, and the numbers loaded last
pub record Standing : Type 0 where
  pub session : Session
  pub kept : List ℕ

abbrev pub standing : Session → List ℕ → Standing
standing s kept = record { session = s; kept = kept }

-- what a line, without its newline, is answered
unfoldable pub line_said : Standing → List ℕ → List ℕ
line_said w line = said_of w.session w.kept (operands_of line) (command_of line)

-- where the run stands after it
unfoldable pub line_next : Standing → List ℕ → Standing
line_next w line =
    record {
      session = next_of w.session (operands_of line) (command_of line);
      kept = kept_of w.kept (operands_of line) (command_of line);
    }
