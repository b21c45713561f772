-- What a line says: the table of the protocol, row by row.
use Rattle.std.specs.Prelude.{ℕ, ◌+◌, ◌*◌, Bool, true, cond, ◌&&◌, List, [], ◌∷◌, map, length, take, leb, eqb, Option, None, Some, is_some}
use Rattle.std.specs.Option.{unwrap_or}
use Prim.Native.String.{String}
use Rattle.flag.specs.Flag.{all_of}
use Rattle.command.specs.declared.Call.{Call}
use Rattle.command.specs.declared.Command.{Command}
use Rattle.text.specs.Text.{text, same}
use Rattle.text.specs.Decimal.{number_of}
use Rattle.text.specs.Words.{words}
use Rattle.numbers.specs.Numbers.{state_count}

-- the largest version that a line may name
abbrev pub most_version : ℕ
most_version = 65535

-- the most records of a line
abbrev pub most_records : ℕ
most_records = 1024

-- the most words that `expect` writes into
abbrev pub most_room : ℕ
most_room = 1024

-- the most numbers that a line has: a version, a room and the records of `expect`
abbrev pub most_numbers : ℕ
most_numbers = most_records + 2

-- the longest line that is a command: `expect` with a version of five digits, a room of four, and a space and ten
-- digits for each of its records
abbrev pub longest_line : ℕ
longest_line = length (text "expect") + 1 + 5 + 1 + 4 + 11 * most_records

-- What the words after the first make of a command: their numbers have to be as many as it takes, each in its range.

-- a command with a number of this range
abbrev pub ranged : ℕ → ℕ → (ℕ → Command) → Option ℕ → Command
ranged least most f (Some n) = cond (leb least n && leb n most) (f n) Command.Bad
ranged least most f None = Command.Bad

-- no number
abbrev pub bare : Command → List (List ℕ) → Command
bare c [] = c
bare c (w ∷ ws) = Command.Bad

-- one number
abbrev pub one : ℕ → ℕ → (ℕ → Command) → List (List ℕ) → Command
one least most f [] = Command.Bad
one least most f (w ∷ []) = ranged least most f (number_of w)
one least most f (w ∷ v ∷ ws) = Command.Bad

-- a number of this range, and what the words after it make
abbrev pub leading : ℕ → ℕ → (ℕ → List (List ℕ) → Command) → List (List ℕ) → Command
leading least most f [] = Command.Bad
leading least most f (w ∷ ws) = ranged least most (λ n. f n ws) (number_of w)

-- two numbers, each of this range
abbrev pub two : ℕ → ℕ → (ℕ → ℕ → Command) → List (List ℕ) → Command
two least most f = leading least most (λ n. one least most (f n))

-- what two numbers that were read make of a command, and that neither is above the most
abbrev pub paired : (ℕ → ℕ → Command) → Option (ℕ × ℕ) → Command
paired f (Some p) = f p.0 p.1
paired f None = Command.Bad

abbrev pub at_most : ℕ → Option (ℕ × ℕ) → Bool
at_most most (Some p) = leb p.0 most && leb p.1 most
at_most most None = true

-- words that are all numbers
unfoldable pub all_numbers : List (List ℕ) → Bool
all_numbers ws = all_of (λ (w : List ℕ). is_some (number_of w)) ws

-- so many numbers
unfoldable pub are_numbers : ℕ → List (List ℕ) → Bool
are_numbers k ws = eqb (length ws) k && all_numbers ws

-- at most so many numbers
unfoldable pub few_numbers : ℕ → List (List ℕ) → Bool
few_numbers k ws = leb (length ws) k && all_numbers ws

-- how many they are, where they are at most k: none where they are more, or one is no number
unfoldable pub numbers_in : ℕ → List (List ℕ) → Option ℕ
numbers_in k ws = cond (few_numbers k ws) (Some (length ws)) None

-- the numbers that words spell
unfoldable pub values_of : List (List ℕ) → List ℕ
values_of ws = map (λ (w : List ℕ). unwrap_or (number_of w) 0) ws

abbrev pub many : ℕ → Command → List (List ℕ) → Command
many k c ws = cond (are_numbers k ws) c Command.Bad

-- at most k numbers: how many they are
abbrev pub listed : ℕ → (ℕ → Command) → List (List ℕ) → Command
listed k f ws = cond (few_numbers k ws) (f (length ws)) Command.Bad

-- a row of the table: the first word of a line, and what the others make
pub record Row : Type 0 where
  pub name : String
  pub form : List (List ℕ) → Command

abbrev row : String → (List (List ℕ) → Command) → Row
row s f = record { name = s; form = f }

unfoldable pub table : List Row
table =
    row "fresh" (bare Command.Fresh)
    ∷ row "load" (many state_count Command.Load)
    ∷ row "state" (bare Command.State)
    ∷ row "reset" (bare (Command.Step Call.Reset))
    ∷ row "read" (one 0 255 (λ a. Command.Step (Call.Read a)))
    ∷ row "write" (two 0 255 (λ a b. Command.Step (Call.Write a b)))
    ∷ row "sin" (one 0 255 (λ v. Command.Step (Call.Sin v)))
    ∷ row "modem" (one 0 255 (λ v. Command.Step (Call.Modem v)))
    ∷ row "tick" (bare (Command.Step Call.Tick))
    ∷ row "ticks" (one 1 4294967295 (λ n. Command.Step (Call.Ticks n)))
    ∷ row "pins" (bare Command.Pins)
    ∷ row "forecast" (bare Command.Forecast)
    ∷ row "level" (one 0 4294967295 Command.Level)
    ∷ row "run" (one 0 4294967295 Command.Run)
    ∷ row "replay" (leading 0 most_version (λ v. listed most_records (Command.Replay v)))
    ∷ row "part" (bare Command.Part)
    ∷ row "divisor" (two 0 4294967295 Command.Divisor)
    ∷ row "expect" (leading 0 most_version (λ v. leading 0 most_room (λ room. listed most_records (Command.Expect v room))))
    ∷ row "jump" (one 0 4294967295 Command.Jump)
    ∷ row "jumprun" (one 0 4294967295 Command.JumpRun)
    ∷ []

-- the row of a word
unfoldable pub look_up : List Row → List ℕ → List (List ℕ) → Command
look_up [] w ws = Command.Bad
look_up (r ∷ rs) w ws = cond (same w (text r.name)) (r.form ws) (look_up rs w ws)

-- the words of a line as a command
unfoldable pub by_words : List (List ℕ) → Command
by_words [] = Command.Bad
by_words (w ∷ ws) = look_up table w ws

-- the command of a line, which has no newline
unfoldable pub command_of : List ℕ → Command
command_of line = by_words (words line)

-- the words after the first
abbrev pub rest : List (List ℕ) → List (List ℕ)
rest [] = []
rest (w ∷ ws) = ws

-- how many of a line's numbers stand beside its command: the state of `load`, and all numbers of `replay` and `expect`
abbrev pub beside : Command → ℕ
beside Command.Fresh = 0
beside Command.Load = state_count
beside Command.State = 0
beside (Command.Step c) = 0
beside Command.Pins = 0
beside Command.Forecast = 0
beside (Command.Level t) = 0
beside (Command.Run n) = 0
beside (Command.Replay v n) = n + 1
beside Command.Part = 0
beside (Command.Divisor c r) = 0
beside (Command.Expect v room n) = n + 2
beside (Command.Jump n) = 0
beside (Command.JumpRun n) = 0
beside Command.Bad = 0

-- how many words a command writes into: the room of `expect`
abbrev pub room_of : Command → ℕ
room_of Command.Fresh = 0
room_of Command.Load = 0
room_of Command.State = 0
room_of (Command.Step c) = 0
room_of Command.Pins = 0
room_of Command.Forecast = 0
room_of (Command.Level t) = 0
room_of (Command.Run n) = 0
room_of (Command.Replay v n) = 0
room_of Command.Part = 0
room_of (Command.Divisor c r) = 0
room_of (Command.Expect v room n) = room
room_of (Command.Jump n) = 0
room_of (Command.JumpRun n) = 0
room_of Command.Bad = 0

-- the numbers beside a line's command
unfoldable pub operands_of : List ℕ → List ℕ
operands_of line = take (beside (command_of line)) (values_of (rest (words line)))
