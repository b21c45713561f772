-- A line that is longer than the longest command is bad: each of its numbers has at most ten digits.
use Prim.Native.Nat.{ℕ, zero, suc, ◌+◌, ◌-◌, ◌*◌, ◌≤◌, ◌<◌}
use Rattle.std.proofs.Common.{Option, None, Some, is_some, unwrap_or}
use mathlib.Core.Path.{◌≡◌, refl, ap, ◌∙◌}
use mathlib.Core.Bool.{Bool, true, false, cond, not, ◌&&◌, false≢true}
use mathlib.Core.List.{List, [], ◌∷◌}
use lib.ListN.{length}
use lib.Dec.{leb, eqb}
use native.Mathlib.Decide.{dec_le}
use native.Mathlib.Omega.{arith}
use borrow.Author.Tests.{lt-leb, leb-true, eqb-true, eqb-false, not-true}
use Rattle.flag.specs.Flag.{all_of}
use Rattle.command.specs.declared.Command.{Command}
use Rattle.text.specs.Text.{text, same}
use Rattle.text.specs.Decimal.{is_digit, value_after, number_after, number_of}
use Rattle.text.specs.Words.{joined, words}
use Rattle.numbers.specs.Numbers.{state_count}
use Rattle.command.specs.Command.{most_version, most_room, longest_line, ranged, bare, one, leading, two, all_numbers, are_numbers, few_numbers, many, listed, table, look_up, by_words, command_of}
use Rattle.text.proofs.Texts.{same_equal}
use Rattle.text.proofs.Tests.{and_false, cond_same}

-- Digits.

-- ten to the power of k
abbrev tens : ℕ → ℕ
tens zero = 1
tens (suc k) = 10 * tens k

tens_more : (k m : ℕ) → tens k ≤ tens (k + m)
tens_more k zero =
    let e : k + 0 ≡ k = omega arith in
    rw e (omega arith)
tens_more k (suc m) =
    let e : k + suc m ≡ suc (k + m) = omega arith in
    rw e (omega (arith, tens_more k m))

-- digits that follow those of v make it ten times as large, each
value_least : (cs : List ℕ) (v k : ℕ) → tens k ≤ v → tens (k + length cs) ≤ value_after v cs
unfolding value_after
value_least [] v k h =
    let e : k + 0 ≡ k = omega arith in
    rw e h
value_least (c ∷ cs) v k h =
    let e : k + suc (length cs) ≡ suc k + length cs = omega arith in
    let n : 10 * tens k ≤ v * 10 + (c - 48) = omega arith in
    rw e (value_least cs (v * 10 + (c - 48)) (suc k) n)

and_both : (a b : Bool) → a && b ≡ true → (a ≡ true) × (b ≡ true)
and_both true true e = (refl, refl)
and_both true false e = absurd (false≢true e)
and_both false b e = absurd (false≢true e)

if_some : (t : Bool) (x : Option ℕ) (n : ℕ) → cond t x None ≡ Some n → (t ≡ true) × (x ≡ Some n)
if_some true x n e = (refl, e)
if_some false x n e = absurd (false≢true (ap is_some e))

-- a number of more than k digits, whose first is not 0
long_number : (w : List ℕ) (n k : ℕ) → number_of w ≡ Some n → 0 < k → k < length w → (tens k ≤ n) × (n ≤ 4294967295)
unfolding number_of number_after value_after
long_number [] n k e p h = absurd (omega arith)
long_number (c ∷ []) n k e p h = absurd (omega arith)
long_number (c ∷ d ∷ ds) n k e p h =
    let w : List ℕ = c ∷ d ∷ ds in
    let a = if_some (not (eqb c 48)) (number_after 0 w) n e in
    let b = if_some (all_of is_digit w && leb (value_after 0 w) 4294967295) (Some (value_after 0 w)) n a.1 in
    let all = and_both (all_of is_digit w) (leb (value_after 0 w) 4294967295) b.0 in
    let first = and_both (is_digit c) (all_of is_digit (d ∷ ds)) all.0 in
    let low : 48 ≤ c = leb-true 48 c (and_both (leb 48 c) (leb c 57) first.0).0 in
    let v : value_after 0 w ≡ n = ap (λ (o : Option ℕ). unwrap_or o 0) b.1 in
    let some : 1 ≤ 0 * 10 + (c - 48) = omega (arith, low, eqb-false c 48 (not-true _ a.0)) in
    let all_digits : tens (0 + length (d ∷ ds)) ≤ value_after 0 w = value_least (d ∷ ds) (0 * 10 + (c - 48)) 0 some in
    let m : ℕ = length (d ∷ ds) - k in
    let j : k + m ≡ 0 + length (d ∷ ds) = omega arith in
    let least : tens k ≤ tens (0 + length (d ∷ ds)) = rw j at (tens_more k m) in
    (omega (arith, least, all_digits, v), omega (arith, leb-true (value_after 0 w) 4294967295 all.1, v))

short_number : (w : List ℕ) (n : ℕ) → number_of w ≡ Some n → length w ≤ 10
short_number w n e = go (dec_le (length w) 10)
  where
    go : Dec (length w ≤ 10) → length w ≤ 10
    go (yes h) = h
    go (no h) =
        let b = long_number w n 10 e (omega arith) (omega (arith, h)) in
        let least : 10000000000 ≤ n = b.0 in
        absurd (omega (arith, least, b.1))

some_short : (w : List ℕ) (x : Option ℕ) → number_of w ≡ x → is_some x ≡ true → length w ≤ 10
some_short w (Some n) e h = short_number w n e
some_short w None e h = absurd (false≢true h)

-- Words.

-- how many bytes words take, each with the space before it
abbrev total : List (List ℕ) → ℕ
total [] = 0
total (w ∷ ws) = suc (length w) + total ws

total_joined : (c : ℕ) (ws : List (List ℕ)) → 0 < total ws → total (joined c ws) ≡ suc (total ws)
total_joined c [] h = absurd (omega arith)
total_joined c (w ∷ ws) h = omega arith

total_words : (l : List ℕ) → total (words l) ≡ suc (length l)
unfolding words
total_words [] = refl
total_words (c ∷ cs) = go (eqb c 32) (total_words cs)
  where
    go : (t : Bool) → total (words cs) ≡ suc (length cs) → total (cond t ([] ∷ words cs) (joined c (words cs))) ≡ suc (suc (length cs))
    go true e = omega (arith, e)
    go false e = total_joined c (words cs) (omega (arith, e)) ∙ ap suc e

numbers_total : (ws : List (List ℕ)) → all_numbers ws ≡ true → total ws ≤ 11 * length ws
unfolding all_numbers
numbers_total [] e = omega arith
numbers_total (w ∷ ws) e =
    let b = and_both (is_some (number_of w)) (all_numbers ws) e in
    omega (arith, some_short w (number_of w) refl b.0, numbers_total ws b.1)

-- The forms of a command: with more bytes after its word than its numbers take, it is bad.

bare_long : (c : Command) (ws : List (List ℕ)) → 0 < total ws → bare c ws ≡ Command.Bad
bare_long c [] h = absurd (omega arith)
bare_long c (w ∷ ws) h = refl

long_ranged : (least most : ℕ) (f : ℕ → Command) (w : List ℕ) → 10 < length w → ranged least most f (number_of w) ≡ Command.Bad
long_ranged least most f w h = go (number_of w) refl
  where
    go : (x : Option ℕ) → number_of w ≡ x → ranged least most f x ≡ Command.Bad
    go None e = refl
    go (Some n) e = absurd (omega (arith, short_number w n e))

one_long : (least most : ℕ) (f : ℕ → Command) (ws : List (List ℕ)) → 11 < total ws → one least most f ws ≡ Command.Bad
one_long least most f [] h = refl
one_long least most f (w ∷ []) h = long_ranged least most f w (omega arith)
one_long least most f (w ∷ v ∷ ws) h = refl

two_long : (least most : ℕ) (f : ℕ → ℕ → Command) (ws : List (List ℕ)) → 22 < total ws → two least most f ws ≡ Command.Bad
two_long least most f [] h = refl
two_long least most f (w ∷ ws) h = go (number_of w) refl
  where
    go : (x : Option ℕ) → number_of w ≡ x → ranged least most (λ n. one least most (f n) ws) x ≡ Command.Bad
    go None e = refl
    go (Some n) e =
        ap (λ (c : Command). cond (leb least n && leb n most) c Command.Bad) (one_long least most (f n) ws (omega (arith, short_number w n e)))
        ∙ cond_same (leb least n && leb n most) Command.Bad

many_long : (k : ℕ) (c : Command) (ws : List (List ℕ)) → 11 * k < total ws → many k c ws ≡ Command.Bad
unfolding are_numbers
many_long k c ws h = go (eqb (length ws) k) refl (all_numbers ws) refl
  where
    go : (t : Bool) → eqb (length ws) k ≡ t → (u : Bool) → all_numbers ws ≡ u → cond (t && u) c Command.Bad ≡ Command.Bad
    go false e u f = refl
    go true e false f = refl
    go true e true f = absurd (omega (arith, eqb-true (length ws) k e, numbers_total ws f))

few_long : (k : ℕ) (ws : List (List ℕ)) → 11 * k < total ws → few_numbers k ws ≡ false
unfolding few_numbers
few_long k ws h = go (leb (length ws) k) refl (all_numbers ws) refl
  where
    go : (t : Bool) → leb (length ws) k ≡ t → (u : Bool) → all_numbers ws ≡ u → t && u ≡ false
    go false e u f = refl
    go true e false f = refl
    go true e true f = absurd (omega (arith, leb-true (length ws) k e, numbers_total ws f))

listed_long : (k : ℕ) (f : ℕ → Command) (ws : List (List ℕ)) → 11 * k < total ws → listed k f ws ≡ Command.Bad
listed_long k f ws h = simp (few_long k ws h)

-- a number up to `most`, of at most so many digits, and what the words after it make
leading_long : (most digits bytes : ℕ) (f : ℕ → List (List ℕ) → Command) (ws : List (List ℕ)) → 0 < digits → most < tens digits → ((n : ℕ) (vs : List (List ℕ)) → bytes < total vs → f n vs ≡ Command.Bad) → suc digits + bytes < total ws → leading 0 most f ws ≡ Command.Bad
leading_long most digits bytes f [] p m g h = refl
leading_long most digits bytes f (w ∷ ws) p m g h = go (number_of w) refl (dec_le (length w) digits)
  where
    go : (x : Option ℕ) → number_of w ≡ x → Dec (length w ≤ digits) → ranged 0 most (λ n. f n ws) x ≡ Command.Bad
    go None e s = refl
    go (Some n) e (yes s) = rw (g n ws (omega (arith, s))) (cond_same (leb 0 n && leb n most) Command.Bad)
    go (Some n) e (no s) =
        let large : most < n = omega (arith, m, (long_number w n digits e p (omega (arith, s))).0) in
        simp (lt-leb _ _ large, and_false)

replay_long : (k : ℕ) (f : ℕ → ℕ → Command) (ws : List (List ℕ)) → 6 + 11 * k < total ws → leading 0 most_version (λ v. listed k (f v)) ws ≡ Command.Bad
replay_long k f ws h = leading_long most_version 5 (11 * k) (λ v. listed k (f v)) ws (omega arith) (omega arith) (λ v vs. listed_long k (f v) vs) h

expect_long : (k : ℕ) (f : ℕ → ℕ → ℕ → Command) (ws : List (List ℕ)) → 11 + 11 * k < total ws → leading 0 most_version (λ v. leading 0 most_room (λ room. listed k (f v room))) ws ≡ Command.Bad
expect_long k f ws h =
    leading_long most_version 5 (5 + 11 * k) (λ v. leading 0 most_room (λ room. listed k (f v room))) ws (omega arith) (omega arith) (λ v vs. leading_long most_room 4 (11 * k) (λ room. listed k (f v room)) vs (omega arith) (omega arith) (λ room us. listed_long k (f v room) us)) (omega (arith, h))

-- The table.
module _ (w : List ℕ) (ws : List (List ℕ)) (h : longest_line < length w + total ws) where
  row_long : (name : List ℕ) (c others : Command) → (length w ≡ length name → c ≡ Command.Bad) → others ≡ Command.Bad → cond (same w name) c others ≡ Command.Bad
  row_long name c others f e = go (same w name) refl
    where
      go : (t : Bool) → same w name ≡ t → cond t c others ≡ Command.Bad
      go true t = f (ap length (same_equal w name t))
      go false t = e

  table_long : look_up table w ws ≡ Command.Bad
  unfolding look_up table
  table_long =
      row_long (text "fresh") _ _ (λ (e : length w ≡ 5). bare_long _ ws (omega (arith, e)))
      (row_long (text "load") _ _ (λ (e : length w ≡ 4). many_long state_count _ ws (omega (arith, e)))
      (row_long (text "state") _ _ (λ (e : length w ≡ 5). bare_long _ ws (omega (arith, e)))
      (row_long (text "reset") _ _ (λ (e : length w ≡ 5). bare_long _ ws (omega (arith, e)))
      (row_long (text "read") _ _ (λ (e : length w ≡ 4). one_long 0 255 _ ws (omega (arith, e)))
      (row_long (text "write") _ _ (λ (e : length w ≡ 5). two_long 0 255 _ ws (omega (arith, e)))
      (row_long (text "sin") _ _ (λ (e : length w ≡ 3). one_long 0 255 _ ws (omega (arith, e)))
      (row_long (text "modem") _ _ (λ (e : length w ≡ 5). one_long 0 255 _ ws (omega (arith, e)))
      (row_long (text "tick") _ _ (λ (e : length w ≡ 4). bare_long _ ws (omega (arith, e)))
      (row_long (text "ticks") _ _ (λ (e : length w ≡ 5). one_long 1 4294967295 _ ws (omega (arith, e)))
      (row_long (text "pins") _ _ (λ (e : length w ≡ 4). bare_long _ ws (omega (arith, e)))
      (row_long (text "forecast") _ _ (λ (e : length w ≡ 8). bare_long _ ws (omega (arith, e)))
      (row_long (text "level") _ _ (λ (e : length w ≡ 5). one_long 0 4294967295 _ ws (omega (arith, e)))
      (row_long (text "run") _ _ (λ (e : length w ≡ 3). one_long 0 4294967295 _ ws (omega (arith, e)))
      (row_long (text "replay") _ _ (λ (e : length w ≡ 6). replay_long _ Command.Replay ws (omega (arith, e)))
      (row_long (text "part") _ _ (λ (e : length w ≡ 4). bare_long _ ws (omega (arith, e)))
      (row_long (text "divisor") _ _ (λ (e : length w ≡ 7). two_long 0 4294967295 _ ws (omega (arith, e)))
      (row_long (text "expect") _ _ (λ (e : length w ≡ 6). expect_long _ Command.Expect ws (omega (arith, e)))
      (row_long (text "jump") _ _ (λ (e : length w ≡ 4). one_long 0 4294967295 _ ws (omega (arith, e)))
      (row_long (text "jumprun") _ _ (λ (e : length w ≡ 7). one_long 0 4294967295 _ ws (omega (arith, e))) refl)))))))))))))))))))

pub long_line : (l : List ℕ) → longest_line < length l → command_of l ≡ Command.Bad
unfolding command_of by_words
long_line l h = go (words l) (total_words l)
  where
    go : (ws : List (List ℕ)) → total ws ≡ suc (length l) → by_words ws ≡ Command.Bad
    go [] e = refl
    go (w ∷ ws) e = table_long w ws (omega (arith, e))
