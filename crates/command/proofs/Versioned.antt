-- A line of numbers that begin with a version: its row, by the numbers that were read.
use Prim.Native.Nat.{ℕ, ◌-◌, ◌≤◌, ◌<◌}
use Rattle.std.proofs.Common.{Option, None, Some, is_some, unwrap_or}
use mathlib.Core.Path.{◌≡◌, refl, sym, ap, ◌∙◌}
use mathlib.Core.Bool.{Bool, true, false, cond, ◌&&◌, false≢true}
use mathlib.Core.List.{List, [], ◌∷◌}
use lib.ListN.{length, get_or, take}
use lib.Seq.{get_or-take}
use lib.Dec.{leb}
use native.Mathlib.Omega.{arith}
use borrow.Author.Tests.{le-leb, lt-leb, leb-false}
use Rattle.flag.proofs.Laws.{and_right}
use Rattle.text.specs.Text.{text, same}
use Rattle.text.specs.Decimal.{number_of}
use Rattle.text.proofs.Tests.{and_false, and-true, cond_same}
use Rattle.command.specs.declared.Command.{Command}
use Rattle.command.specs.Command.{most_version, most_records, most_room, most_numbers, ranged, leading, listed, all_numbers, few_numbers, numbers_in, values_of, table, look_up, rest}
use Rattle.command.proofs.Loading.{one_number, not_few, all_few}

-- Where not at most k words are numbers, a row of at most k numbers is bad.

few_fewer : (j k : ℕ) (ws : List (List ℕ)) → j ≤ k → few_numbers k ws ≡ false → few_numbers j ws ≡ false
unfolding few_numbers
few_fewer j k ws h = go (leb (length ws) k) refl (all_numbers ws)
  where
    go : (t : Bool) → leb (length ws) k ≡ t → (u : Bool) → t && u ≡ false → leb (length ws) j && u ≡ false
    go true p u e = rw e (and_false (leb (length ws) j))
    go false p u e =
        let m : j < length ws = omega (arith, leb-false (length ws) k p) in
        simp (lt-leb _ _ m)

module _ (most k : ℕ) (f : ℕ → List (List ℕ) → Command) (none : (v : ℕ) (ws : List (List ℕ)) → few_numbers (k - 1) ws ≡ false → f v ws ≡ Command.Bad) (h : 0 < k) where
  few_leading : (ws : List (List ℕ)) → few_numbers k ws ≡ false → leading 0 most f ws ≡ Command.Bad
  few_leading [] e = refl
  few_leading (w ∷ ws) e = go (number_of w) refl
    where
      go : (x : Option ℕ) → number_of w ≡ x → ranged 0 most (λ n. f n ws) x ≡ Command.Bad
      go None d = refl
      go (Some a) d = rw (none a ws (sym (one_number k a w ws d h) ∙ e)) (cond_same (leb 0 a && leb a most) Command.Bad)

  none-leading : (ws : List (List ℕ)) → None ≡ numbers_in k ws → leading 0 most f ws ≡ Command.Bad
  none-leading ws e = few_leading ws (not_few k ws e)

few_listed : (j k : ℕ) (f : ℕ → Command) (ws : List (List ℕ)) → j ≤ k → few_numbers k ws ≡ false → listed j f ws ≡ Command.Bad
few_listed j k f ws h e = simp (few_fewer j k ws h e)

-- Where all words are numbers.

some_leading : (most : ℕ) (f : ℕ → List (List ℕ) → Command) (ws : List (List ℕ)) → all_numbers ws ≡ true → 0 < length ws → leading 0 most f ws ≡ ranged 0 most (λ v. f v (rest ws)) (Some (get_or (values_of ws) 0 0))
unfolding all_numbers values_of
some_leading most f [] e h = absurd (omega arith)
some_leading most f (w ∷ ws) e h = go (number_of w) refl e
  where
    go : (x : Option ℕ) → number_of w ≡ x → is_some x && all_numbers ws ≡ true → ranged 0 most (λ v. f v ws) x ≡ ranged 0 most (λ v. f v ws) (Some (unwrap_or x 0))
    go (Some a) d e = refl
    go None d e = absurd (false≢true e)

some_listed : (k n : ℕ) (f : ℕ → Command) (ws : List (List ℕ)) → all_numbers ws ≡ true → length ws ≡ n → listed k f ws ≡ cond (leb n k) (f n) Command.Bad
unfolding few_numbers
some_listed k n f ws e l = rw (e, l, ← and-true (leb n k))

rest-numbers : (ws : List (List ℕ)) → all_numbers ws ≡ true → all_numbers (rest ws) ≡ true
unfolding all_numbers
rest-numbers [] e = refl
rest-numbers (w ∷ ws) e = and_right (is_some (number_of w)) _ e

rest_long : (ws : List (List ℕ)) (n : ℕ) → length ws ≡ n → length (rest ws) ≡ n - 1
rest_long [] n e = omega (arith, e)
rest_long (w ∷ ws) n e = omega (arith, e)

rest_first : (ws : List (List ℕ)) → get_or (values_of (rest ws)) 0 0 ≡ get_or (values_of ws) 1 0
unfolding values_of
rest_first [] = refl
rest_first (w ∷ ws) = refl

no_leading : (most : ℕ) (f : ℕ → List (List ℕ) → Command) (ws : List (List ℕ)) → length ws ≡ 0 → leading 0 most f ws ≡ Command.Bad
no_leading most f [] e = refl
no_leading most f (w ∷ ws) e = absurd (omega (arith, e))

-- what the words after the version of `expect` make
abbrev roomed : ℕ → List (List ℕ) → Command
roomed v = leading 0 most_room (λ room. listed most_records (Command.Expect v room))

-- The rows.
module _ (ws : List (List ℕ)) where
  replay_row : leading 0 most_version (λ v. listed most_records (Command.Replay v)) ws ≡ look_up table (text "replay") ws
  unfolding look_up table same
  replay_row = refl

  expect_row : leading 0 most_version roomed ws ≡ look_up table (text "expect") ws
  unfolding look_up table same
  expect_row = refl

-- Not all are numbers, or they are more than a line has.
module _ (ws : List (List ℕ)) (e : None ≡ numbers_in most_numbers ws) where
  pub replay_none : Command.Bad ≡ look_up table (text "replay") ws
  replay_none =
      sym (none-leading most_version most_numbers (λ v. listed most_records (Command.Replay v)) (λ v vs. few_listed most_records (most_numbers - 1) (Command.Replay v) vs (omega arith)) (omega arith) ws e)
      ∙ replay_row ws

  pub expect_none : Command.Bad ≡ look_up table (text "expect") ws
  expect_none =
      sym (none-leading most_version most_numbers roomed (λ v. few_leading most_room (most_numbers - 1) (λ room. listed most_records (Command.Expect v room)) (λ room vs. few_listed most_records (most_numbers - 2) (Command.Expect v room) vs (omega arith)) (omega arith)) (omega arith) ws e)
      ∙ expect_row ws

-- n numbers were read.
module _ (ws : List (List ℕ)) (n : ℕ) (e : Some n ≡ numbers_in most_numbers ws) where
  module _ (h : 0 < n) where
    all_read : (all_numbers ws ≡ true) × (length ws ≡ n)
    unfolding few_numbers
    all_read =
        let p = all_few most_numbers n ws e in
        (and_right (leb (length ws) most_numbers) _ p.0, p.1)

    pub expect_one : n < 2 → Command.Bad ≡ look_up table (text "expect") ws
    expect_one m =
        let l : length (rest ws) ≡ 0 = omega (arith, rest_long ws n all_read.1) in
        let v : ℕ = get_or (values_of ws) 0 0 in
        sym (some_leading most_version roomed ws all_read.0 (omega (arith, all_read.1)) ∙ rw (no_leading most_room (λ room. listed most_records (Command.Expect v room)) (rest ws) l) (cond_same (leb 0 v && leb v most_version) Command.Bad))
        ∙ expect_row ws

  -- they stand at the beginning of `to`
  module _ (to : List ℕ) (f : take n to ≡ take n (values_of ws)) where
    number_read : (i : ℕ) → i < n → get_or (values_of ws) i 0 ≡ get_or to i 0
    number_read i h = sym (get_or-take n (values_of ws) i 0 h) ∙ ap (λ (s : List ℕ). get_or s i 0) (sym f) ∙ get_or-take n to i 0 h

    module _ (h : 0 < n) where
      replay_first : look_up table (text "replay") ws ≡ ranged 0 most_version (λ v. cond (leb (n - 1) most_records) (Command.Replay v (n - 1)) Command.Bad) (Some (get_or to 0 0))
      replay_first =
          let r = all_read h in
          let v : ℕ = get_or (values_of ws) 0 0 in
          sym (replay_row ws)
          ∙ some_leading most_version (λ v. listed most_records (Command.Replay v)) ws r.0 (omega (arith, r.1))
          ∙ rw (some_listed most_records (n - 1) (Command.Replay v) (rest ws) (rest-numbers ws r.0) (rest_long ws n r.1)) (rw (number_read 0 h) refl)

      pub replay_large : most_version < get_or to 0 0 → Command.Bad ≡ look_up table (text "replay") ws
      replay_large m = sym (replay_first ∙ simp (lt-leb _ _ m, and_false))

      module _ (small : get_or to 0 0 ≤ most_version) where
        pub replay_many : most_records < n - 1 → Command.Bad ≡ look_up table (text "replay") ws
        replay_many m = sym (replay_first ∙ simp (lt-leb _ _ m, cond_same))

        pub replay_some : n - 1 ≤ most_records → Command.Replay (get_or to 0 0) (n - 1) ≡ look_up table (text "replay") ws
        replay_some m = sym (replay_first ∙ simp (le-leb 0 (get_or to 0 0) (omega arith), le-leb _ _ small, le-leb _ _ m))

    module _ (h : 2 ≤ n) where
      expect_first : look_up table (text "expect") ws ≡ ranged 0 most_version (λ v. ranged 0 most_room (λ room. cond (leb (n - 2) most_records) (Command.Expect v room (n - 2)) Command.Bad) (Some (get_or to 1 0))) (Some (get_or to 0 0))
      expect_first =
          let r = all_read (omega arith) in
          let v : ℕ = get_or (values_of ws) 0 0 in
          let room : ℕ = get_or (values_of (rest ws)) 0 0 in
          let a = rest-numbers ws r.0 in
          let l : length (rest ws) ≡ n - 1 = rest_long ws n r.1 in
          let k : length (rest (rest ws)) ≡ n - 2 = omega (arith, rest_long (rest ws) (n - 1) l) in
          let second : room ≡ get_or to 1 0 = rest_first ws ∙ number_read 1 (omega arith) in
          sym (expect_row ws)
          ∙ some_leading most_version roomed ws r.0 (omega (arith, r.1))
          ∙ rw (some_leading most_room (λ room. listed most_records (Command.Expect v room)) (rest ws) a (omega (arith, l)))
          (rw (some_listed most_records (n - 2) (Command.Expect v room) (rest (rest ws)) (rest-numbers (rest ws) a) k)
          (rw (second, number_read 0 (omega arith)) refl))

      pub expect_large : most_version < get_or to 0 0 → Command.Bad ≡ look_up table (text "expect") ws
      expect_large m = sym (expect_first ∙ simp (lt-leb _ _ m, and_false))

      module _ (small : get_or to 0 0 ≤ most_version) where
        pub expect_wide : most_room < get_or to 1 0 → Command.Bad ≡ look_up table (text "expect") ws
        expect_wide m = sym (expect_first ∙ simp (lt-leb _ _ m, and_false, cond_same))

        pub expect_some : get_or to 1 0 ≤ most_room → n - 2 ≤ most_records → Command.Expect (get_or to 0 0) (get_or to 1 0) (n - 2) ≡ look_up table (text "expect") ws
        expect_some m k =
            sym (expect_first ∙ simp (le-leb 0 (get_or to 0 0) (omega arith), le-leb _ _ small, le-leb 0 (get_or to 1 0) (omega arith), le-leb _ _ m, le-leb _ _ k))
