-- A whole line: its first word, its row, and the numbers that stand beside its command.
use Prim.Native.Nat.{ℕ, suc, ◌+◌, ◌-◌, ◌≤◌, ◌<◌}
use Rattle.std.proofs.Common.{None, Some}
use mathlib.Core.Path.{◌≡◌, refl, ◌∙◌}
use mathlib.Core.Bool.{Bool, true, false, cond}
use mathlib.Core.List.{List, [], ◌∷◌}
use lib.ListN.{length, take, drop}
use lib.Seq.{take_all}
use lib.Dec.{leb, eqb}
use native.Mathlib.Decide.{dec_lt}
use native.Mathlib.Omega.{arith}
use borrow.Author.Tests.{le-leb, eqb-true}
use Rattle.flag.proofs.Laws.{and_right}
use Rattle.command.specs.declared.Command.{Command}
use Rattle.text.specs.Text.{text, same, before}
use Rattle.text.specs.Decimal.{number_of}
use Rattle.text.specs.Words.{words}
use Rattle.numbers.specs.Numbers.{state_count}
use Rattle.command.specs.Command.{most_numbers, all_numbers, are_numbers, few_numbers, many, numbers_in, values_of, table, look_up, by_words, command_of, beside, operands_of}
use Rattle.text.proofs.Tests.{and-true, cond_same}
use Rattle.text.proofs.Splitting.{before-most, words_whole, words-part, words_split, rest_of, number_word, led}
use Rattle.command.proofs.Commands.{found}
use Rattle.command.proofs.Loading.{all_few, not_few}

-- A word that takes one number, or none, where what follows is no number.
pub no_number-row : (w r : List ℕ) → number_of r ≡ None → same w (text "write") ≡ false → same w (text "load") ≡ false → same w (text "divisor") ≡ false → same w (text "replay") ≡ false → same w (text "expect") ≡ false → Command.Bad ≡ look_up table w (words r)
unfolding look_up table
no_number-row w r e a b d p x = go (dec_lt (before 32 r) (length r))
  where
    go : Dec (before 32 r < length r) → Command.Bad ≡ look_up table w (words r)
    go (yes h) = rw (words_split r h, (led (drop (suc (before 32 r)) r)).are) (simp (a, b, d, p, x, cond_same))
    go (no n) = rw (words_whole r (omega (arith, n, before-most 32 r))) (simp (e, a, b, d, p, x, cond_same))

-- The row of `load`: k numbers, of those that a buffer of m takes.
load_form : (ws : List (List ℕ)) → many state_count Command.Load ws ≡ look_up table (text "load") ws
unfolding look_up table same
load_form ws = refl

pub load_some : (ws : List (List ℕ)) (n : ℕ) → Some n ≡ numbers_in most_numbers ws → cond (eqb n state_count) Command.Load Command.Bad ≡ look_up table (text "load") ws
unfolding few_numbers are_numbers
load_some ws n e = counted (all_few most_numbers n ws e) ∙ load_form ws
  where
    counted : (few_numbers most_numbers ws ≡ true) × (length ws ≡ n) → cond (eqb n state_count) Command.Load Command.Bad ≡ many state_count Command.Load ws
    counted p = rw (p.1, and_right (leb (length ws) most_numbers) _ p.0, ← and-true (eqb n state_count))

pub load_none : (ws : List (List ℕ)) → None ≡ numbers_in most_numbers ws → Command.Bad ≡ look_up table (text "load") ws
unfolding few_numbers are_numbers
load_none ws e = counted (eqb (length ws) state_count) refl (not_few most_numbers ws e) ∙ load_form ws
  where
    counted : (t : Bool) → eqb (length ws) state_count ≡ t → few_numbers most_numbers ws ≡ false → Command.Bad ≡ many state_count Command.Load ws
    counted true p f =
        let l : length ws ≤ most_numbers = omega (arith, eqb-true _ _ p) in
        let n : all_numbers ws ≡ false = simp (le-leb _ _ l) at f in
        rw (p, n)
    counted false p f = rw p

-- The first word of a line: k is the place of its first space.
module _ (l : List ℕ) (k : ℕ) (place : k ≡ 0 + before 32 (drop 0 l)) where
  pub line_whole : k ≡ length l → look_up table (take k l) [] ≡ command_of l
  unfolding command_of by_words
  line_whole e =
      let t : take k l ≡ l = take_all k l (omega arith) in
      let w : words l ≡ l ∷ [] = words_whole l (omega (arith, place)) in
      rw (t, w)

  module _ (h : k < length l) where
    -- what follows the space
    abbrev tail : List ℕ
    tail = take (length l - (k + 1)) (drop (k + 1) l)

    line-part : look_up table (take k l) (words tail) ≡ command_of l
    unfolding command_of by_words
    line-part = rw (words-part l k (omega (arith, place)) h, rest_of l (k + 1))

    pub line_operands : (c : Command) (to : List ℕ) → c ≡ command_of l → take (beside c) to ≡ take (beside c) (values_of (words tail)) → take (beside c) to ≡ operands_of l
    unfolding operands_of
    line_operands c to e f = f ∙ rw (words-part l k (omega (arith, place)) h, rest_of l (k + 1), e)

    pub line_row : (c : Command) (s : List ℕ) → same (take k l) s ≡ true → c ≡ look_up table s (words tail) → c ≡ command_of l
    line_row c s t e = e ∙ found (take k l) s (words tail) t ∙ line-part

    pub line-number : (c : Command) (n : ℕ) → number_of tail ≡ Some n → ((a : List ℕ) → number_of a ≡ Some n → c ≡ look_up table (take k l) (a ∷ [])) → c ≡ command_of l
    line-number c n e f = f tail e ∙ rw (← number_word tail n e) line-part

    pub line-none : number_of tail ≡ None → same (take k l) (text "write") ≡ false → same (take k l) (text "load") ≡ false → same (take k l) (text "divisor") ≡ false → same (take k l) (text "replay") ≡ false → same (take k l) (text "expect") ≡ false → Command.Bad ≡ command_of l
    line-none e a b d p x = no_number-row (take k l) tail e a b d p x ∙ line-part

-- nothing stands beside the command
pub no_operands : (l to : List ℕ) (c : Command) → c ≡ command_of l → beside c ≡ 0 → take (beside c) to ≡ operands_of l
unfolding operands_of
no_operands l to c e z = rw (← e, z)
