-- The table of commands: the row of a word.
use Rattle.command.specs.declared.Command.{Command}
use Rattle.command.specs.declared.Call.{Call}
use Prim.Native.Nat.{ℕ, ◌≤◌, ◌<◌}
use Rattle.std.proofs.Common.{Some}
use mathlib.Core.Path.{◌≡◌, sym, ap}
use mathlib.Core.Bool.{true, false}
use mathlib.Core.List.{List, [], ◌∷◌}
use borrow.Author.Tests.{le-leb, lt-leb}
use Rattle.text.specs.Text.{text, same}
use Rattle.text.specs.Decimal.{number_of}
use Rattle.command.specs.Command.{all_numbers, are_numbers, table, look_up}
use Rattle.text.proofs.Texts.{same_equal}
use Rattle.text.proofs.Tests.{and_false, cond_same}

-- the row of a word that is this one
pub found : (w s : List ℕ) (ws : List (List ℕ)) → same w s ≡ true → look_up table s ws ≡ look_up table w ws
found w s ws t = ap (λ (v : List ℕ). look_up table v ws) (sym (same_equal w s t))

-- No row: the words that take no number are none of these.
pub no_bare : (w : List ℕ) → same w (text "tick") ≡ false → same w (text "pins") ≡ false → same w (text "state") ≡ false → same w (text "fresh") ≡ false → same w (text "reset") ≡ false → same w (text "forecast") ≡ false → same w (text "part") ≡ false → Command.Bad ≡ look_up table w []
unfolding look_up table are_numbers all_numbers
no_bare w a b c d e f g = simp (a, b, c, d, e, f, g, cond_same)

-- The words that take one number.

module _ (a : List ℕ) (n : ℕ) (e : number_of a ≡ Some n) where
  pub ticks-none : n < 1 → look_up table (text "ticks") (a ∷ []) ≡ Command.Bad
  unfolding look_up table same
  ticks-none h = simp (e, lt-leb _ _ h)

  pub ticks_some : 1 ≤ n → n ≤ 4294967295 → look_up table (text "ticks") (a ∷ []) ≡ Command.Step (Call.Ticks n)
  unfolding look_up table same
  ticks_some h k = simp (e, le-leb _ _ h, le-leb _ _ k)

  pub level_some : 0 ≤ n → n ≤ 4294967295 → look_up table (text "level") (a ∷ []) ≡ Command.Level n
  unfolding look_up table same
  level_some h k = simp (e, le-leb _ _ h, le-leb _ _ k)

  pub run_some : 0 ≤ n → n ≤ 4294967295 → look_up table (text "run") (a ∷ []) ≡ Command.Run n
  unfolding look_up table same
  run_some h k = simp (e, le-leb _ _ h, le-leb _ _ k)

  pub jump_some : 0 ≤ n → n ≤ 4294967295 → look_up table (text "jump") (a ∷ []) ≡ Command.Jump n
  unfolding look_up table same
  jump_some h k = simp (e, le-leb _ _ h, le-leb _ _ k)

  pub jumprun_some : 0 ≤ n → n ≤ 4294967295 → look_up table (text "jumprun") (a ∷ []) ≡ Command.JumpRun n
  unfolding look_up table same
  jumprun_some h k = simp (e, le-leb _ _ h, le-leb _ _ k)

  pub read_some : 0 ≤ n → n ≤ 255 → look_up table (text "read") (a ∷ []) ≡ Command.Step (Call.Read n)
  unfolding look_up table same
  read_some h k = simp (e, le-leb _ _ h, le-leb _ _ k)

  pub sin_some : 0 ≤ n → n ≤ 255 → look_up table (text "sin") (a ∷ []) ≡ Command.Step (Call.Sin n)
  unfolding look_up table same
  sin_some h k = simp (e, le-leb _ _ h, le-leb _ _ k)

  pub modem_some : 0 ≤ n → n ≤ 255 → look_up table (text "modem") (a ∷ []) ≡ Command.Step (Call.Modem n)
  unfolding look_up table same
  modem_some h k = simp (e, le-leb _ _ h, le-leb _ _ k)

-- none of those whose number may be large, and the number is no byte
pub no_large : (w a : List ℕ) (n : ℕ) → number_of a ≡ Some n → 255 < n → same w (text "ticks") ≡ false → same w (text "level") ≡ false → same w (text "run") ≡ false → same w (text "jump") ≡ false → same w (text "jumprun") ≡ false → same w (text "replay") ≡ false → Command.Bad ≡ look_up table w (a ∷ [])
unfolding look_up table are_numbers all_numbers
no_large w a n e h t l r j k p = simp (e, lt-leb _ _ h, and_false, t, l, r, j, k, p, cond_same)

pub no_one : (w a : List ℕ) (n : ℕ) → number_of a ≡ Some n → same w (text "ticks") ≡ false → same w (text "level") ≡ false → same w (text "run") ≡ false → same w (text "jump") ≡ false → same w (text "jumprun") ≡ false → same w (text "read") ≡ false → same w (text "sin") ≡ false → same w (text "modem") ≡ false → same w (text "replay") ≡ false → Command.Bad ≡ look_up table w (a ∷ [])
unfolding look_up table are_numbers all_numbers
no_one w a n e t l r j k d s m p = simp (e, t, l, r, j, k, d, s, m, p, cond_same)
