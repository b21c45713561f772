-- The loops over a block: its lines answered one by one, and what is held of its rest moved to its start.
use Prim.Native.Nat.{ℕ, suc, ◌+◌, ◌-◌, ◌≤◌, ◌<◌, min}
use mathlib.Core.Path.{refl, ◌≡◌, sym, ap, ◌∙◌}
use mathlib.Core.Bool.{Bool, true, false, cond, false≢true}
use mathlib.Core.List.{List, [], ◌∷◌, ◌++◌, append_assoc, append-nil}
use lib.ListN.{length, take, drop, length-take, length-drop}
use lib.Seq.{take_all, take-take, drop-drop}
use lib.Dec.{eqb}
use native.Mathlib.Decide.{dec_le}
use native.Mathlib.Omega.{arith}
use Rattle.text.specs.Text.{before}
use Rattle.command.specs.Command.{longest_line}
use Rattle.current.specs.Current.{longest_answer}
use Rattle.session.specs.Session.{Standing, line_said, line_next}
use Rattle.session.proofs.Answering.{drop-take}
use Rattle.lines.specs.Lines.{reading, read_after, written_after, last_said, Answered, Answers, held_of}

-- what a line that ends in d leads to, and what is written for it
module _ (w : Standing) where
  read-line : (line d : List ℕ) → before 10 d < length d
      → read_after w line d ≡ read_after (line_next w (line ++ take (before 10 d) d)) [] (drop (suc (before 10 d)) d)
  unfolding before read_after
  read-line line [] h = absurd (omega arith)
  read-line line (c ∷ cs) h = go (eqb c 10) (λ k. read-line (line ++ (c ∷ [])) cs k) h
    where
      go : (t : Bool)
          → (before 10 cs < length cs → read_after w (line ++ (c ∷ [])) cs ≡ read_after (line_next w ((line ++ (c ∷ [])) ++ take (before 10 cs) cs)) [] (drop (suc (before 10 cs)) cs))
          → cond t 0 (suc (before 10 cs)) < suc (length cs)
          → cond t (read_after (line_next w line) [] cs) (read_after w (line ++ (c ∷ [])) cs)
          ≡ read_after (line_next w (line ++ take (cond t 0 (suc (before 10 cs))) (c ∷ cs))) [] (drop (suc (cond t 0 (suc (before 10 cs)))) (c ∷ cs))
      go true f h = ap (λ (l : List ℕ). read_after (line_next w l) [] cs) (sym (append-nil line))
      go false f h =
          f (omega arith) ∙ ap (λ (l : List ℕ). read_after (line_next w l) [] (drop (suc (before 10 cs)) cs)) (append_assoc line (c ∷ []) (take (before 10 cs) cs))

  written-line : (line d : List ℕ) → before 10 d < length d
      → written_after w line d ≡ line_said w (line ++ take (before 10 d) d) ++ written_after (line_next w (line ++ take (before 10 d) d)) [] (drop (suc (before 10 d)) d)
  unfolding before written_after
  written-line line [] h = absurd (omega arith)
  written-line line (c ∷ cs) h = go (eqb c 10) (λ k. written-line (line ++ (c ∷ [])) cs k) h
    where
      go : (t : Bool)
          → (before 10 cs < length cs → written_after w (line ++ (c ∷ [])) cs ≡ line_said w ((line ++ (c ∷ [])) ++ take (before 10 cs) cs) ++ written_after (line_next w ((line ++ (c ∷ [])) ++ take (before 10 cs) cs)) [] (drop (suc (before 10 cs)) cs))
          → cond t 0 (suc (before 10 cs)) < suc (length cs)
          → cond t (line_said w line ++ written_after (line_next w line) [] cs) (written_after w (line ++ (c ∷ [])) cs)
          ≡ line_said w (line ++ take (cond t 0 (suc (before 10 cs))) (c ∷ cs)) ++ written_after (line_next w (line ++ take (cond t 0 (suc (before 10 cs))) (c ∷ cs))) [] (drop (suc (cond t 0 (suc (before 10 cs)))) (c ∷ cs))
      go true f h = ap (λ (l : List ℕ). line_said w l ++ written_after (line_next w l) [] cs) (sym (append-nil line))
      go false f h =
          f (omega arith)
          ∙ ap (λ (l : List ℕ). line_said w l ++ written_after (line_next w l) [] (drop (suc (before 10 cs)) cs)) (append_assoc line (c ∷ []) (take (before 10 cs) cs))

  -- no line ends in d
  pub read-part : (line d more : List ℕ) → before 10 d ≡ length d → read_after w line (d ++ more) ≡ read_after w (line ++ d) more
  unfolding before read_after
  read-part line [] more e = ap (λ (l : List ℕ). read_after w l more) (sym (append-nil line))
  read-part line (c ∷ cs) more e = go (eqb c 10) (λ k. read-part (line ++ (c ∷ [])) cs more k) e
    where
      go : (t : Bool) → (before 10 cs ≡ length cs → read_after w (line ++ (c ∷ [])) (cs ++ more) ≡ read_after w ((line ++ (c ∷ [])) ++ cs) more)
          → cond t 0 (suc (before 10 cs)) ≡ suc (length cs)
          → cond t (read_after (line_next w line) [] (cs ++ more)) (read_after w (line ++ (c ∷ [])) (cs ++ more)) ≡ read_after w (line ++ (c ∷ cs)) more
      go true f e = absurd (omega arith)
      go false f e = f (omega arith) ∙ ap (λ (l : List ℕ). read_after w l more) (append_assoc line (c ∷ []) cs)

  pub read_no_line : (d : List ℕ) → before 10 d ≡ length d → read_after w [] d ≡ reading w d
  unfolding read_after
  read_no_line d e = ap (read_after w []) (sym (append-nil d)) ∙ read-part [] d [] e

-- Answering: the lines before place next are made, and out holds their answers.
pub record Answering (w₀ : Standing) (block : List ℕ) (from : ℕ) (w : Standing) (next : ℕ) (out : List ℕ) : Type 0 where
  pub inside : next ≤ length block
  pub started : from ≤ next
  pub none : next ≡ from → out ≡ []
  pub leads : read_after w₀ [] (drop from block) ≡ read_after w [] (drop next block)
  pub written : Answers w₀ block from w next out

module _ {w₀ : Standing} {block : List ℕ} {from : ℕ} {w : Standing} {next : ℕ} {out : List ℕ} where
  pub answer_turns : (w' : Standing) (stop : ℕ) (out' : List ℕ)
      → Answering w₀ block from w next out → stop ≡ next + before 10 (drop next block) → stop < length block
      → w' ≡ line_next w (take (stop - next) (drop next block)) → out' ≡ out ++ line_said w (take (stop - next) (drop next block))
      → Answering w₀ block from w' (stop + 1) out'
  answer_turns w' stop out' a e h n p =
      let d : List ℕ = drop next block in
      let k : before 10 d ≡ stop - next = omega (arith, e) in
      let b : before 10 d < length d = simp length-drop (omega (arith, e)) in
      let j : next + suc (before 10 d) ≡ stop + 1 = omega (arith, e) in
      let f : drop (suc (before 10 d)) d ≡ drop (stop + 1) block = drop-drop (suc (before 10 d)) next block ∙ rw j in
      record {
        inside = omega arith;
        started = omega (arith, a.started, e);
        none = λ z. absurd (omega (arith, a.started, e));
        leads = a.leads ∙ read-line w [] d b ∙ rw (f, k, ← n);
        written =
            a.written
            ∙ ap (λ (s : List ℕ). out ++ s) (written-line w [] d b ∙ rw (f, k, ← n))
            ∙ sym (append_assoc out (line_said w (take (stop - next) d)) (written_after w' [] (drop (stop + 1) block)))
            ∙ ap (λ (s : List ℕ). s ++ written_after w' [] (drop (stop + 1) block)) (sym p);
      }

-- what is held of the bytes from `from` up to `to`
pub held-part : (from to n : ℕ) (l : List ℕ) → n ≡ min (to - from) (suc longest_line) → take n (drop from l) ≡ held_of (drop from (take to l))
held-part from to n l e = go (dec_le (to - from) (suc longest_line)) ∙ ap held_of (drop-take from to l)
  where
    go : Dec (to - from ≤ suc longest_line) → take n (drop from l) ≡ held_of (take (to - from) (drop from l))
    go (yes h) =
        let k : n ≡ to - from = omega arith in
        rw k (sym (take_all (suc longest_line) (take (to - from) (drop from l)) (omega (arith, length-take (to - from) (drop from l)))))
    go (no h) =
        let k : n ≡ suc longest_line = omega (arith, h) in
        rw k (sym (take-take (suc longest_line) (to - from) (drop from l) (omega (arith, h))))
