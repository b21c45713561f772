-- What is held of a long line shows that it is no command, so an input leads on from there as from the whole line.
use Prim.Native.Nat.{ℕ, zero, suc, ◌≤◌, ◌<◌, min}
use mathlib.Core.Path.{◌≡◌, refl, sym, ap, ◌∙◌}
use mathlib.Core.Bool.{Bool, true, false, cond}
use mathlib.Core.List.{List, [], ◌∷◌, ◌++◌, append-nil}
use lib.ListN.{length, take, length-take}
use lib.Seq.{take_all, take-take}
use lib.Dec.{eqb}
use native.Mathlib.Decide.{dec_le}
use native.Mathlib.Omega.{arith}
use Rattle.text.specs.Text.{text, before}
use Rattle.command.specs.declared.Command.{Command}
use Rattle.command.specs.Command.{longest_line, operands_of}
use Rattle.command.proofs.Longest.{long_line}
use Rattle.current.specs.Commands.{said_of, next_of, kept_of}
use Rattle.session.specs.Session.{Standing, standing, line_said, line_next}
use Rattle.lines.specs.Lines.{Reading, reading, read_after, held_of, held, Led}
use Rattle.lines.proofs.Blocks.{read-part}

-- A line that is no command leaves the run where it stands, and is answered `bad`.
module _ (w : Standing) (line : List ℕ) (h : longest_line < length line) where
  bad_next : line_next w line ≡ w
  unfolding line_next next_of kept_of
  bad_next = ap (λ (c : Command). standing (next_of w.session (operands_of line) c) (kept_of w.kept (operands_of line) c)) (long_line line h)

  bad_said : line_said w line ≡ text "bad\n"
  unfolding line_said said_of
  bad_said = ap (said_of w.session w.kept (operands_of line)) (long_line line h)

-- Two lines of which the same is held are the same line, or are both bad.
module _ (w : Standing) (a b : List ℕ) (e : held_of a ≡ held_of b) where
  alike : {A : Type 0} (f : List ℕ → A) → (longest_line < length a → longest_line < length b → f a ≡ f b) → f a ≡ f b
  alike f both = go (dec_le (length a) longest_line)
    where
      long : min (suc longest_line) (length a) ≡ min (suc longest_line) (length b)
      long = sym (length-take (suc longest_line) a) ∙ ap length e ∙ length-take (suc longest_line) b

      go : Dec (length a ≤ longest_line) → f a ≡ f b
      go (yes h) =
          let k : length b ≤ longest_line = omega (arith, long) in
          ap f (sym (take_all (suc longest_line) a (omega arith)) ∙ e ∙ take_all (suc longest_line) b (omega (arith, k)))
      go (no h) = both (omega (arith, h)) (omega (arith, long, h))

  alike_next : line_next w a ≡ line_next w b
  alike_next = alike (line_next w) (λ p q. bad_next w a p ∙ sym (bad_next w b q))

  alike_said : line_said w a ≡ line_said w b
  alike_said = alike (line_said w) (λ p q. bad_said w a p ∙ sym (bad_said w b q))

take_front : (n : ℕ) (a x : List ℕ) → take n (a ++ x) ≡ take n (take n a ++ x)
take_front zero a x = refl
take_front (suc n) [] x = refl
take_front (suc n) (y ∷ a) x = ap (λ (l : List ℕ). y ∷ l) (take_front n a x)

alike_more : (a b x : List ℕ) → held_of a ≡ held_of b → held_of (a ++ x) ≡ held_of (b ++ x)
alike_more a b x e =
    take_front (suc longest_line) a x ∙ ap (λ (l : List ℕ). held_of (l ++ x)) e ∙ sym (take_front (suc longest_line) b x)

-- They lead to the same.
pub alike_read : (w : Standing) (more a b : List ℕ) → held_of a ≡ held_of b → held (read_after w a more) ≡ held (read_after w b more)
unfolding read_after
alike_read w [] a b e = ap (reading w) e
alike_read w (c ∷ cs) a b e = go (eqb c 10) (alike_read w cs (a ++ (c ∷ [])) (b ++ (c ∷ [])) (alike_more a b (c ∷ []) e))
  where
    go : (t : Bool) → held (read_after w (a ++ (c ∷ [])) cs) ≡ held (read_after w (b ++ (c ∷ [])) cs)
        → held (cond t (read_after (line_next w a) [] cs) (read_after w (a ++ (c ∷ [])) cs)) ≡ held (cond t (read_after (line_next w b) [] cs) (read_after w (b ++ (c ∷ [])) cs))
    go true f = ap (λ (v : Standing). held (read_after v [] cs)) (alike_next w a b e)
    go false f = f

-- Bytes that come in two parts: the second follow what the first lead to.
abbrev Joined : List ℕ → Reading → Reading → Type 0
Joined b all r = all ≡ read_after r.stands r.line b

read-append : (w : Standing) (line a b : List ℕ) → Joined b (read_after w line (a ++ b)) (read_after w line a)
unfolding read_after
read-append w line [] b = refl
read-append w line (c ∷ cs) b = go (eqb c 10) (read-append (line_next w line) [] cs b) (read-append w (line ++ (c ∷ [])) cs b)
  where
    go : (t : Bool) → Joined b (read_after (line_next w line) [] (cs ++ b)) (read_after (line_next w line) [] cs) → Joined b (read_after w (line ++ (c ∷ [])) (cs ++ b)) (read_after w (line ++ (c ∷ [])) cs)
        → Joined b (cond t (read_after (line_next w line) [] (cs ++ b)) (read_after w (line ++ (c ∷ [])) (cs ++ b))) (cond t (read_after (line_next w line) [] cs) (read_after w (line ++ (c ∷ [])) cs))
    go true f g = f
    go false f g = g

-- A line that has not ended has no newline.
abbrev Plain : List ℕ → Type 0
Plain line = before 10 line ≡ length line

plain_more : (line : List ℕ) (c : ℕ) → Plain line → eqb c 10 ≡ false → Plain (line ++ (c ∷ []))
unfolding before
plain_more [] c e f = simp f
plain_more (x ∷ xs) c e f = go (eqb x 10) (λ k. plain_more xs c k f) e
  where
    go : (t : Bool) → (Plain xs → Plain (xs ++ (c ∷ []))) → cond t 0 (suc (before 10 xs)) ≡ suc (length xs)
        → cond t 0 (suc (before 10 (xs ++ (c ∷ [])))) ≡ suc (length (xs ++ (c ∷ [])))
    go true g e = absurd (omega arith)
    go false g e = ap suc (g (omega arith))

plain_take : (n : ℕ) (line : List ℕ) → Plain line → Plain (take n line)
unfolding before
plain_take zero line e = refl
plain_take (suc n) [] e = refl
plain_take (suc n) (x ∷ xs) e = go (eqb x 10) (λ k. plain_take n xs k) e
  where
    go : (t : Bool) → (Plain xs → Plain (take n xs)) → cond t 0 (suc (before 10 xs)) ≡ suc (length xs)
        → cond t 0 (suc (before 10 (take n xs))) ≡ suc (length (take n xs))
    go true g e = absurd (omega arith)
    go false g e = ap suc (g (omega arith))

line_plain : (bytes : List ℕ) (w : Standing) (line : List ℕ) → Plain line → Plain (read_after w line bytes).line
unfolding read_after before
line_plain [] w line e = e
line_plain (c ∷ cs) w line e = go (eqb c 10) refl (λ v. line_plain cs v [] refl) (λ k. line_plain cs w (line ++ (c ∷ [])) k)
  where
    go : (t : Bool) → eqb c 10 ≡ t → ((v : Standing) → Plain (read_after v [] cs).line) → (Plain (line ++ (c ∷ [])) → Plain (read_after w (line ++ (c ∷ [])) cs).line)
        → Plain (cond t (read_after (line_next w line) [] cs) (read_after w (line ++ (c ∷ [])) cs)).line
    go true d f g = f (line_next w line)
    go false d f g = g (plain_more line c e d)

-- The input leads on: what came after it follows what is held.
pub led_on : (w₀ w w' : Standing) (input line came line' : List ℕ) → Led w₀ input w line → read_after w [] (line ++ came) ≡ reading w' line' → Led w₀ (input ++ came) w' (held_of line')
unfolding before
led_on w₀ w w' input line came line' e f =
    let r : Reading = read_after w₀ [] input in
    let stands : r.stands ≡ w = ap (λ (x : Reading). x.stands) e in
    let holds : held_of r.line ≡ line = ap (λ (x : Reading). x.line) e in
    let plain : Plain line = rw holds at (plain_take (suc longest_line) r.line (line_plain input w₀ [] refl)) in
    let same : held_of line ≡ held_of r.line = ap held_of (sym holds) ∙ take-take (suc longest_line) (suc longest_line) r.line (omega arith) in
    ap held (read-append w₀ [] input came)
    ∙ ap (λ (v : Standing). held (read_after v r.line came)) stands
    ∙ sym (alike_read w came line r.line same)
    ∙ ap held (sym (read-part w [] line came plain) ∙ f)

-- Nothing came.
pub led_still : (w₀ w : Standing) (input line : List ℕ) → Led w₀ input w line → Led w₀ (input ++ []) w line
led_still w₀ w input line e = ap (λ (l : List ℕ). held (read_after w₀ [] l)) (append-nil input) ∙ e
