-- The blocks before `block-index` are replayed.
use Rattle.std.specs.Simd.{first_chunks}
use Rattle.recorder.proofs.Laws.{left}
use Rattle.capture_file.specs.declared.Progress.{Progress}
use Rattle.capture_file.specs.File.{rest_of}
use Rattle.capture_file.proofs.Parts.{Blocks, block_done, last_done}
use Prim.Native.Nat.{ℕ, zero, suc, ◌+◌, ◌-◌, ◌*◌, ◌/◌, ◌≤◌, ◌<◌}
use mathlib.Core.Path.{◌≡◌, sym, ap, subst, ◌∙◌}
use mathlib.Core.List.{List, ◌++◌}
use lib.ListN.{length, take, drop, get_or, length-drop}
use lib.Seq.{take_all, drop-drop}
use native.Mathlib.Omega.{arith}
use Rattle.client.proofs.file.replay_blocks.Goals as goal

chunk-at : (n k i : ℕ) (xs d : List ℕ) → i < k → get_or (first_chunks n k xs) i d ≡ take n (drop (n * i) xs)
chunk-at n zero i xs d h = absurd (omega arith)
chunk-at n (suc k) zero xs d h = let none : 0 ≡ n * 0 = omega arith in ap (λ (m : ℕ). take n (drop m xs)) none
chunk-at n (suc k) (suc i) xs d h =
    let next : n * i + n ≡ n * suc i = grind arith in
    chunk-at n k i (drop n xs) d (omega arith) ∙ ap (take n) (drop-drop (n * i) n xs ∙ ap (λ (m : ℕ). drop m xs) (grind (arith, next)))

module _ {p q : Progress} {bytes : List ℕ} (i : ℕ) (b : Blocks p bytes q (16384 * i)) (r : Progress) (part : List ℕ) where
  next_block : part ≡ take 16384 (drop (16384 * i) bytes) → 16384 * (i + 1) ≤ length bytes →
      ((rest : List ℕ) → rest_of r (left part ++ rest) ≡ rest_of q (part ++ rest)) → r.place ≤ q.place + length part / 4 → Blocks p bytes r (16384 * (i + 1))
  next_block e h step place =
      block_done b r 16384 (16384 * (i + 1)) (omega arith) (omega arith) h
      (subst (λ (l : List ℕ). (rest : List ℕ) → rest_of r (left l ++ rest) ≡ rest_of q (l ++ rest)) e step)
      (subst (λ (l : List ℕ). r.place ≤ q.place + length l / 4) e place)

  last_block : part ≡ drop (16384 * i) bytes →
      ((rest : List ℕ) → rest_of r (left part ++ rest) ≡ rest_of q (part ++ rest)) → (rest : List ℕ) → rest_of r (left bytes ++ rest) ≡ rest_of p (bytes ++ rest)
  last_block e step =
      let n : ℕ = length bytes - 16384 * i in
      let all : part ≡ take n (drop (16384 * i) bytes) = e ∙ sym (take_all n (drop (16384 * i) bytes) (omega (arith, length-drop (16384 * i) bytes))) in
      last_done b r n (omega (arith, b.most))
      (subst (λ (l : List ℕ). (rest : List ℕ) → rest_of r (left l ++ rest) ≡ rest_of q (l ++ rest)) all step)

pub loop-block-preserved : goal.loop-block-preserved
loop-block-preserved c =
    let inv = c.loop-block.invariant in
    let i : ℕ = c.loop-block.block-index in
    let bytes = c.args.bytes.now in
    let within : i < length bytes / 16384 = omega (arith, c.loop-block-test.true, c.as_chunks.ensures.front_len) in
    let fits : 16384 * (i + 1) ≤ length bytes = omega (arith, within) in
    (next_block i inv.0 c.go_on-q.result _ (ap (λ (l : List (List ℕ)). get_or l i _) c.as_chunks.ensures.front ∙ chunk-at 16384 (length bytes / 16384) i bytes _ within) fits c.go_on-q.ensures.by_index c.go_on-q.ensures.place_bound, omega (arith, c.go_on-q.auto.records, inv.1), inv.2)

pub returns-clause-by_index : goal.returns-clause-by_index
returns-clause-by_index c =
    let i : ℕ = c.loop-block.block-index in
    let bytes = c.args.bytes.now in
    let end : length bytes / 16384 * 16384 ≡ 16384 * i = omega (arith, c.loop-block-test.false, c.loop-block.auto.block-index-end, c.as_chunks.ensures.front_len) in
    last_block i c.loop-block.invariant.0 c.go_on.result _ (c.as_chunks.ensures.back ∙ ap (λ (m : ℕ). drop m bytes) end) c.go_on.ensures.by_index
