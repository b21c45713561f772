-- The copy has each place but the last, which is then filled.
use Prim.Native.Nat.{ℕ, ◌-◌}
use mathlib.Core.Path.{◌≡◌, ap, ◌∙◌}
use lib.ListN.{length, drop}
use lib.Seq.{paste}
use native.Mathlib.Omega.{arith}
use borrow.Author.Rules.{rules}
use Rattle.queue.proofs.Laws.{shift_copied}
use Rattle.queue.proofs.shift.Goals as goal

pub returns : goal.returns
returns g c =
    let xs = c.args.places.now in
    let l : length xs ≡ 64 = search rules in
    let n : length xs - 1 ≡ 63 = omega (arith, l) in
    shift_copied c.args.empty xs c.copy_within.new.self 63 l (c.copy_within.ensures.after ∙ ap (λ (j : ℕ). paste xs 0 (drop 1 xs) j) n)
