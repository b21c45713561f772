-- Which commands change nothing.
use Prim.Native.Nat.{ℕ}
use mathlib.Core.Path.{◌≡◌, refl}
use mathlib.Core.Bool.{true, false≢true}
use Rattle.command.specs.declared.Command.{Command}
use Rattle.current.specs.Commands.{changes_nothing}

-- Of the commands that `put_answer` does not name only a bad line's changes nothing.
pub is_bad :
    (c : Command)
    → changes_nothing c ≡ true
    → (c ≡ Command.State → ⊥)
    → (c ≡ Command.Pins → ⊥)
    → (c ≡ Command.Forecast → ⊥)
    → ((t : ℕ) → c ≡ Command.Level t → ⊥)
    → (c ≡ Command.Part → ⊥)
    → ((a b : ℕ) → c ≡ Command.Divisor a b → ⊥)
    → c ≡ Command.Bad
is_bad Command.Fresh h _ _ _ _ _ _ = absurd (false≢true h)
is_bad Command.Load h _ _ _ _ _ _ = absurd (false≢true h)
is_bad Command.State h n _ _ _ _ _ = absurd (n refl)
is_bad (Command.Step c) h _ _ _ _ _ _ = absurd (false≢true h)
is_bad Command.Pins h _ n _ _ _ _ = absurd (n refl)
is_bad Command.Forecast h _ _ n _ _ _ = absurd (n refl)
is_bad (Command.Level t) h _ _ _ n _ _ = absurd (n t refl)
is_bad (Command.Run n) h _ _ _ _ _ _ = absurd (false≢true h)
is_bad (Command.Replay v n) h _ _ _ _ _ _ = absurd (false≢true h)
is_bad Command.Part h _ _ _ _ n _ = absurd (n refl)
is_bad (Command.Divisor a b) h _ _ _ _ _ n = absurd (n a b refl)
is_bad (Command.Expect v room n) h _ _ _ _ _ _ = absurd (false≢true h)
is_bad (Command.Jump n) h _ _ _ _ _ _ = absurd (false≢true h)
is_bad (Command.JumpRun n) h _ _ _ _ _ _ = absurd (false≢true h)
is_bad Command.Bad h _ _ _ _ _ _ = refl
