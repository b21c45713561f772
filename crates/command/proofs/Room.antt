-- No line makes a command of more room than the table takes.
use Prim.Native.Nat.{ℕ, ◌≤◌}
use Rattle.std.proofs.Common.{Option, None, Some}
use mathlib.Core.Bool.{cond, ◌&&◌}
use mathlib.Core.List.{List, [], ◌∷◌}
use lib.ListN.{length}
use lib.Dec.{leb}
use native.Mathlib.Omega.{arith}
use borrow.Author.Tests.{leb-true}
use Rattle.flag.proofs.Laws.{by_test, and_right}
use Rattle.text.specs.Text.{text, same}
use Rattle.text.specs.Decimal.{number_of}
use Rattle.text.specs.Words.{words}
use Rattle.numbers.specs.Numbers.{state_count}
use Rattle.command.specs.declared.Command.{Command}
use Rattle.command.specs.Command.{most_version, most_room, ranged, bare, one, leading, are_numbers, few_numbers, listed, table, look_up, by_words, command_of, room_of}

-- a command of a room that a line may name
abbrev Roomy : Command → Type 0
Roomy c = room_of c ≤ most_room

-- Each form, from the commands that it may make.

ranged-room : (least most : ℕ) (f : ℕ → Command) (x : Option ℕ) → ((n : ℕ) → n ≤ most → Roomy (f n)) → Roomy (ranged least most f x)
ranged-room least most f (Some n) h = by_test Roomy (leb least n && leb n most) (f n) Command.Bad (λ t. h n (leb-true n most (and_right (leb least n) _ t))) (λ t. omega arith)
ranged-room least most f None h = omega arith

bare-room : (c : Command) (ws : List (List ℕ)) → Roomy c → Roomy (bare c ws)
bare-room c [] h = h
bare-room c (w ∷ ws) h = omega arith

leading-room : (least most : ℕ) (f : ℕ → List (List ℕ) → Command) (ws : List (List ℕ)) → ((n : ℕ) (vs : List (List ℕ)) → n ≤ most → Roomy (f n vs)) → Roomy (leading least most f ws)
leading-room least most f [] h = omega arith
leading-room least most f (w ∷ ws) h = ranged-room least most (λ n. f n ws) (number_of w) (λ n m. h n ws m)

one-room : (least most : ℕ) (f : ℕ → Command) (ws : List (List ℕ)) → ((n : ℕ) → n ≤ most → Roomy (f n)) → Roomy (one least most f ws)
one-room least most f [] h = omega arith
one-room least most f (w ∷ []) h = ranged-room least most f (number_of w) h
one-room least most f (w ∷ v ∷ ws) h = omega arith

listed-room : (k : ℕ) (f : ℕ → Command) (ws : List (List ℕ)) → Roomy (f (length ws)) → Roomy (listed k f ws)
listed-room k f ws h = by_test Roomy (few_numbers k ws) (f (length ws)) Command.Bad (λ t. h) (λ t. omega arith)

-- The table.
module _ (w : List ℕ) (ws : List (List ℕ)) where
  row_room : (name : List ℕ) (c others : Command) → Roomy c → Roomy others → Roomy (cond (same w name) c others)
  row_room name c others h k = by_test Roomy (same w name) c others (λ t. h) (λ t. k)

  table-room : Roomy (look_up table w ws)
  unfolding look_up table
  table-room =
      row_room (text "fresh") _ _ (bare-room _ ws (omega arith))
      (row_room (text "load") _ _ (by_test Roomy (are_numbers state_count ws) Command.Load Command.Bad (λ t. omega arith) (λ t. omega arith))
      (row_room (text "state") _ _ (bare-room _ ws (omega arith))
      (row_room (text "reset") _ _ (bare-room _ ws (omega arith))
      (row_room (text "read") _ _ (one-room 0 255 _ ws (λ n m. omega arith))
      (row_room (text "write") _ _ (leading-room 0 255 _ ws (λ n vs m. one-room 0 255 _ vs (λ k l. omega arith)))
      (row_room (text "sin") _ _ (one-room 0 255 _ ws (λ n m. omega arith))
      (row_room (text "modem") _ _ (one-room 0 255 _ ws (λ n m. omega arith))
      (row_room (text "tick") _ _ (bare-room _ ws (omega arith))
      (row_room (text "ticks") _ _ (one-room 1 4294967295 _ ws (λ n m. omega arith))
      (row_room (text "pins") _ _ (bare-room _ ws (omega arith))
      (row_room (text "forecast") _ _ (bare-room _ ws (omega arith))
      (row_room (text "level") _ _ (one-room 0 4294967295 _ ws (λ n m. omega arith))
      (row_room (text "run") _ _ (one-room 0 4294967295 _ ws (λ n m. omega arith))
      (row_room (text "replay") _ _ (leading-room 0 most_version _ ws (λ n vs m. listed-room _ (Command.Replay n) vs (omega arith)))
      (row_room (text "part") _ _ (bare-room _ ws (omega arith))
      (row_room (text "divisor") _ _ (leading-room 0 4294967295 _ ws (λ n vs m. one-room 0 4294967295 _ vs (λ k l. omega arith)))
      (row_room (text "expect") _ _ (leading-room 0 most_version _ ws (λ v vs m. leading-room 0 most_room _ vs (λ room us k. listed-room _ (Command.Expect v room) us k)))
      (row_room (text "jump") _ _ (one-room 0 4294967295 _ ws (λ n m. omega arith))
      (row_room (text "jumprun") _ _ (one-room 0 4294967295 _ ws (λ n m. omega arith)) (omega arith))))))))))))))))))))

pub room_most : (l : List ℕ) → room_of (command_of l) ≤ most_room
unfolding command_of by_words
room_most l = go (words l)
  where
    go : (ws : List (List ℕ)) → room_of (by_words ws) ≤ most_room
    go [] = omega arith
    go (w ∷ ws) = table-room w ws
