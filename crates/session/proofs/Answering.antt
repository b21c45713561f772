-- A line's answer: that of its command and of the numbers beside it.
use Prim.Native.Nat.{ℕ, zero, suc, ◌-◌}
use mathlib.Core.Path.{◌≡◌, refl, ap₂, ◌∙◌}
use mathlib.Core.Bool.{true, false≢true}
use mathlib.Core.List.{List, [], ◌∷◌}
use lib.ListN.{take, drop}
use lib.Seq.{take-nil}
use native.Mathlib.Omega.{arith}
use Rattle.command.specs.declared.Call.{Call}
use Rattle.command.specs.declared.Command.{Command}
use Rattle.current.specs.declared.Session.{Session}
use Rattle.command.specs.Command.{command_of, operands_of}
use Rattle.current.specs.Commands.{said_of, next_of, kept_of, changes_nothing}
use Rattle.session.specs.Session.{standing, line_said, line_next}

-- what stands from one place of a list up to another
pub drop-take : (from to : ℕ) (l : List ℕ) → take (to - from) (drop from l) ≡ drop from (take to l)
drop-take zero to l =
    let e : to - 0 ≡ to = omega arith in
    rw e
drop-take (suc from) zero l =
    let e : 0 - suc from ≡ 0 = omega arith in
    rw e
drop-take (suc from) (suc to) [] = take-nil (suc to - suc from)
drop-take (suc from) (suc to) (x ∷ xs) =
    let e : suc to - suc from ≡ to - from = omega arith in
    rw e (drop-take from to xs)

-- The commands that `answer` leaves to `query` change nothing.
pub no_change :
    (c : Command)
    → ((s : Call) → c ≡ Command.Step s → ⊥)
    → (c ≡ Command.Fresh → ⊥)
    → (c ≡ Command.Load → ⊥)
    → ((n : ℕ) → c ≡ Command.Run n → ⊥)
    → ((n : ℕ) → c ≡ Command.Jump n → ⊥)
    → ((n : ℕ) → c ≡ Command.JumpRun n → ⊥)
    → ((v n : ℕ) → c ≡ Command.Replay v n → ⊥)
    → ((v room n : ℕ) → c ≡ Command.Expect v room n → ⊥)
    → changes_nothing c ≡ true
no_change Command.Fresh _ h _ _ _ _ _ _ = absurd (h refl)
no_change Command.Load _ _ h _ _ _ _ _ = absurd (h refl)
no_change Command.State _ _ _ _ _ _ _ _ = refl
no_change (Command.Step c) h _ _ _ _ _ _ _ = absurd (h c refl)
no_change Command.Pins _ _ _ _ _ _ _ _ = refl
no_change Command.Forecast _ _ _ _ _ _ _ _ = refl
no_change (Command.Level t) _ _ _ _ _ _ _ _ = refl
no_change (Command.Run n) _ _ _ h _ _ _ _ = absurd (h n refl)
no_change (Command.Replay v n) _ _ _ _ _ _ h _ = absurd (h v n refl)
no_change Command.Part _ _ _ _ _ _ _ _ = refl
no_change (Command.Divisor c r) _ _ _ _ _ _ _ _ = refl
no_change (Command.Expect v room n) _ _ _ _ _ _ _ h = absurd (h v room n refl)
no_change (Command.Jump n) _ _ _ _ h _ _ _ = absurd (h n refl)
no_change (Command.JumpRun n) _ _ _ _ _ h _ _ = absurd (h n refl)
no_change Command.Bad _ _ _ _ _ _ _ _ = refl

-- what such a command leaves, and writes
pub unchanged : (s : Session) (kept ns : List ℕ) (c : Command) → changes_nothing c ≡ true → (s ≡ next_of s ns c) × (kept ≡ kept_of kept ns c) × (said_of s kept [] c ≡ said_of s kept ns c)
unfolding said_of next_of kept_of
unchanged s kept ns Command.Fresh h = absurd (false≢true h)
unchanged s kept ns Command.Load h = absurd (false≢true h)
unchanged s kept ns Command.State h = (refl, refl, refl)
unchanged s kept ns (Command.Step c) h = absurd (false≢true h)
unchanged s kept ns Command.Pins h = (refl, refl, refl)
unchanged s kept ns Command.Forecast h = (refl, refl, refl)
unchanged s kept ns (Command.Level t) h = (refl, refl, refl)
unchanged s kept ns (Command.Run n) h = absurd (false≢true h)
unchanged s kept ns (Command.Replay v n) h = absurd (false≢true h)
unchanged s kept ns Command.Part h = (refl, refl, refl)
unchanged s kept ns (Command.Divisor c r) h = (refl, refl, refl)
unchanged s kept ns (Command.Expect v room n) h = absurd (false≢true h)
unchanged s kept ns (Command.Jump n) h = absurd (false≢true h)
unchanged s kept ns (Command.JumpRun n) h = absurd (false≢true h)
unchanged s kept ns Command.Bad h = (refl, refl, refl)

module _ (s : Session) (kept line ns : List ℕ) (c : Command) (e : c ≡ command_of line) (f : ns ≡ operands_of line) where
  pub line_next_lem : (t : Session) (kept' : List ℕ) → t ≡ next_of s ns c → kept' ≡ kept_of kept ns c → standing t kept' ≡ line_next (standing s kept) line
  unfolding line_next
  line_next_lem t kept' p q = ap₂ standing (p ∙ ap₂ (next_of s) f e) (q ∙ ap₂ (kept_of kept) f e)

  pub line_said_lem : said_of s kept ns c ≡ line_said (standing s kept) line
  unfolding line_said
  line_said_lem = ap₂ (said_of s kept) f e
