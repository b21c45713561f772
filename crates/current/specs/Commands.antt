-- What each command makes of the current state, and writes.
use Rattle.std.specs.Prelude.{ℕ, Bool, true, false, List, [], ◌∷◌, drop, replicate}
use Rattle.device.specs.declared.State.{State}
use Rattle.device.specs.State.{fresh_of}
use Rattle.device.specs.Calls.{pins_of}
use Rattle.device.specs.Forecast.{forecast_of, level_of, run_of}
use Rattle.device.specs.Jump.{jump_of, jump_run_of}
use Rattle.capture.specs.declared.Replayed.{Replayed}
use Rattle.capture.specs.Replay.{replay_of}
use Rattle.expected.specs.Expected.{Written, expect_of}
use Rattle.rate.specs.Rate.{divisor_for}
use Rattle.command.specs.declared.Command.{Command}
use Rattle.current.specs.declared.Session.{Session}
use Rattle.text.specs.Text.{text}
use Rattle.text.specs.Decimal.{line_of}
use Rattle.outcome.specs.Outcome.{outcome_line}
use Rattle.reply.specs.Reply.{step_of, step_numbers, look_numbers, forecast_numbers, level_numbers, part_numbers, run_numbers, jump_numbers, jump_run_numbers, divisor_line}
use Rattle.current.specs.Current.{held, loaded_of, current_numbers, moved}

-- replay of a line's records, which follow the version in its numbers ns
abbrev pub replayed_of : State → ℕ → List ℕ → Replayed
replayed_of s version ns = replay_of version s (drop 1 ns)

-- a word that nothing was written into
abbrev pub unwritten : ℕ
unwritten = 0xAAAAAAAA

-- the capture expected for records of a version, written into a room of words
abbrev pub expected_of : State → ℕ → ℕ → List ℕ → Written
expected_of s version room records = expect_of version s records (replicate room unwritten)

-- number, words written, and all words of the room as they are then
abbrev pub written_numbers : Written → List ℕ
written_numbers w = w.answer.number ∷ w.answer.count ∷ w.words

-- What a command writes. The numbers kept are those loaded last; the numbers ns are the line's.
unfoldable pub said_of : Session → List ℕ → List ℕ → Command → List ℕ
said_of s kept ns Command.Fresh = line_of (0 ∷ [])
said_of s kept ns Command.Load = line_of (0 ∷ [])
said_of s kept ns Command.State = line_of (current_numbers s kept)
said_of s kept ns (Command.Step c) = line_of (step_numbers (step_of s.state c))
said_of s kept ns Command.Pins = line_of (look_numbers (pins_of s.state))
said_of s kept ns Command.Forecast = line_of (forecast_numbers (forecast_of s.state))
said_of s kept ns (Command.Level t) = line_of (level_numbers (level_of s.state t))
said_of s kept ns (Command.Run n) = line_of (run_numbers (run_of s.state n))
said_of s kept ns (Command.Replay v n) = outcome_line (replayed_of s.state v ns).outcome
said_of s kept ns Command.Part = line_of (part_numbers (pins_of s.state))
said_of s kept ns (Command.Divisor c r) = divisor_line (divisor_for c r)
said_of s kept ns (Command.Expect v room n) = line_of (written_numbers (expected_of s.state v room (drop 2 ns)))
said_of s kept ns (Command.Jump n) = line_of (jump_numbers (jump_of s.state n))
said_of s kept ns (Command.JumpRun n) = line_of (jump_run_numbers (jump_run_of s.state n))
said_of s kept ns Command.Bad = text "bad\n"

-- The current state after a command.
unfoldable pub next_of : Session → List ℕ → Command → Session
next_of s ns Command.Fresh = held fresh_of
next_of s ns Command.Load = loaded_of ns
next_of s ns Command.State = s
next_of s ns (Command.Step c) = moved s (step_of s.state c).state
next_of s ns Command.Pins = s
next_of s ns Command.Forecast = s
next_of s ns (Command.Level t) = s
next_of s ns (Command.Run n) = moved s (run_of s.state n).state
next_of s ns (Command.Replay v n) = moved s (replayed_of s.state v ns).state
next_of s ns Command.Part = s
next_of s ns (Command.Divisor c r) = s
next_of s ns (Command.Expect v room n) = moved s (expected_of s.state v room (drop 2 ns)).answer.state
next_of s ns (Command.Jump n) = moved s (jump_of s.state n).state
next_of s ns (Command.JumpRun n) = moved s (jump_run_of s.state n).state
next_of s ns Command.Bad = s

-- The numbers loaded last, after a command.
unfoldable pub kept_of : List ℕ → List ℕ → Command → List ℕ
kept_of kept ns Command.Fresh = kept
kept_of kept ns Command.Load = ns
kept_of kept ns Command.State = kept
kept_of kept ns (Command.Step c) = kept
kept_of kept ns Command.Pins = kept
kept_of kept ns Command.Forecast = kept
kept_of kept ns (Command.Level t) = kept
kept_of kept ns (Command.Run n) = kept
kept_of kept ns (Command.Replay v n) = kept
kept_of kept ns Command.Part = kept
kept_of kept ns (Command.Divisor c r) = kept
kept_of kept ns (Command.Expect v room n) = kept
kept_of kept ns (Command.Jump n) = kept
kept_of kept ns (Command.JumpRun n) = kept
kept_of kept ns Command.Bad = kept

-- a command that leaves both as they are
abbrev pub changes_nothing : Command → Bool
changes_nothing Command.Fresh = false
changes_nothing Command.Load = false
changes_nothing Command.State = true
changes_nothing (Command.Step c) = false
changes_nothing Command.Pins = true
changes_nothing Command.Forecast = true
changes_nothing (Command.Level t) = true
changes_nothing (Command.Run n) = false
changes_nothing (Command.Replay v n) = false
changes_nothing Command.Part = true
changes_nothing (Command.Divisor c r) = true
changes_nothing (Command.Expect v room n) = false
changes_nothing (Command.Jump n) = false
changes_nothing (Command.JumpRun n) = false
changes_nothing Command.Bad = true
