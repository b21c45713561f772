-- What is held is the start of what was copied.
use Rattle.lines.proofs.Blocks.{held-part}
use Rattle.std.proofs.lemmas.List.Edits.{take-paste}
use Prim.Native.Nat.{ℕ, ◌+◌, ◌-◌}
use lib.ListN.{take, drop, length-drop}
use lib.Seq.{paste}
use mathlib.Core.List.{◌++◌}
use mathlib.Core.Path.{◌≡◌, sym, ap, ◌∙◌}
use native.Mathlib.Omega.{arith}
use Rattle.lines.proofs.hold.Goals as goal

pub returns : goal.returns
returns c =
    let n = c.min-n in
    let args = c.args in
    let xs = args.block.now in
    let s = drop args.from xs in
    let much : args.from + n.result - args.from ≡ n.result = omega arith in
    let start : 0 + n.result ≡ n.result = omega arith in
    let pasted : take (0 + n.result) (paste xs 0 s n.result) ≡ take 0 xs ++ take n.result s = take-paste xs 0 s n.result (omega arith) (simp length-drop (omega (arith, n.ensures))) in
    let copied : take n.result (paste xs 0 s n.result) ≡ take n.result s = ap (λ (j : ℕ). take j (paste xs 0 s n.result)) (sym start) ∙ pasted in
    let front : take n.result c.copy_within.new.self ≡ take n.result s = ap (take n.result) (c.copy_within.ensures.after ∙ ap (paste xs 0 s) much) ∙ copied in
    record { block_after = front ∙ held-part args.from args.to _ _ n.ensures; upper_bound = omega (arith, n.ensures); upper_bound_2 = omega (arith, n.ensures, c.copy_within.ensures.len) }
