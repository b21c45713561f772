-- Numbers as text: the loop over a word's digits, and the digits of a number one by one.
use Prim.Native.Nat.{ℕ, zero, suc, ◌+◌, ◌-◌, ◌*◌, ◌/◌, ◌%◌, ◌^◌, ◌≤◌, ◌<◌}
use mathlib.Core.Path.{◌≡◌, refl, sym, ap, ◌∙◌}
use mathlib.Core.Bool.{Bool, true, false, cond}
use Rattle.std.proofs.Common.{None, Some}
use mathlib.Core.List.{List, [], ◌∷◌, ◌++◌, append_assoc, append-nil}
use lib.ListN.{length, get_or, drop, length-append, drop_of_length-le}
use lib.Dec.{leb, ltb}
use native.Mathlib.Omega.{arith}
use borrow.Author.Tests.{lt-ltb, le-ltb, le-leb, lt-leb, eq-eqb, ne_eqb}
use Rattle.text.specs.Decimal.{is_digit, value_after, number_after, number_of, glyph, digits_of, decimal_of, long_decimal_of, word_of, separator, line_of}
use Rattle.std.specs.Prelude.{decimal}
use Rattle.std.proofs.lemmas.Fmt.{decimal_by_steps}
use Rattle.text.proofs.Tests.{and_false}
use Rattle.text.proofs.Texts.{drop_at}

-- Reading.

-- digits that follow make the value no smaller
value_grows : (v : ℕ) (cs : List ℕ) → v ≤ value_after v cs
unfolding value_after
value_grows v [] = omega arith
value_grows v (c ∷ cs) =
    let k = value_grows (v * 10 + (c - 48)) cs in
    omega arith

after_digit : (v c : ℕ) (cs : List ℕ) → is_digit c ≡ true → number_after v (c ∷ cs) ≡ number_after (v * 10 + (c - 48)) cs
unfolding number_after value_after
after_digit v c cs h = simp h

after_other : (v c : ℕ) (cs : List ℕ) → is_digit c ≡ false → None ≡ number_after v (c ∷ cs)
unfolding number_after value_after
after_other v c cs h = simp h

after_large : (v : ℕ) (cs : List ℕ) → 4294967295 < v → None ≡ number_after v cs
unfolding number_after
after_large v cs h =
    let g = value_grows v cs in
    let k : 4294967295 < value_after v cs = omega arith in
    simp (lt-leb _ _ k, and_false)

-- Reading a word: its number is that of the digits from place i on, which follow those of value.
pub record Reading (w : List ℕ) (value i : ℕ) : Type 0 where
  pub most : i ≤ length w
  pub small : value ≤ 4294967295
  pub rest : number_after value (drop i w) ≡ number_after 0 w

module _ {w : List ℕ} {value i : ℕ} where
  read_at : Reading w value i → i < length w → number_after value (get_or w i 0 ∷ drop (i + 1) w) ≡ number_after 0 w
  read_at r h = rw (drop_at w i 0 h) at r.rest

  pub read_other : Reading w value i → i < length w → is_digit (get_or w i 0) ≡ false → None ≡ number_after 0 w
  read_other r h k = after_other value _ _ k ∙ read_at r h

  pub read_digit : (v : ℕ) → Reading w value i → i < length w → is_digit (get_or w i 0) ≡ true → v ≡ value * 10 + (get_or w i 0 - 48) → number_after v (drop (i + 1) w) ≡ number_after 0 w
  read_digit v r h k e = rw e (sym (after_digit value _ _ k) ∙ read_at r h)

  pub read-ends : Reading w value i → length w ≤ i → Some value ≡ number_after 0 w
  unfolding number_after value_after
  read-ends r h =
      let e : cond (leb value 4294967295) (Some value) None ≡ number_after 0 w = rw (drop_of_length-le w h) at r.rest in
      simp (le-leb _ _ r.small) at e

  pub read_large : (v : ℕ) → Reading w value i → i < length w → is_digit (get_or w i 0) ≡ true → v ≡ value * 10 + (get_or w i 0 - 48) → 4294967295 < v → None ≡ number_after 0 w
  read_large v r h k e l = after_large v _ l ∙ read_digit v r h k e

-- a word's first digit
pub number_empty : (w : List ℕ) → length w ≡ 0 → None ≡ number_of w
unfolding number_of
number_empty [] e = refl
number_empty (c ∷ cs) e = absurd (omega arith)

pub number_single : (w : List ℕ) → length w ≡ 1 → number_after 0 w ≡ number_of w
unfolding number_of
number_single [] e = absurd (omega arith)
number_single (c ∷ []) e = refl
number_single (c ∷ d ∷ ds) e = absurd (omega arith)

pub number_led : (w : List ℕ) → (length w ≡ 1 → ⊥) → get_or w 0 0 ≡ 48 → None ≡ number_of w
unfolding number_of
number_led [] n e = absurd (omega arith)
number_led (c ∷ []) n e = absurd (n refl)
number_led (c ∷ d ∷ ds) n e = simp (eq-eqb _ _ e)

pub number_long : (w : List ℕ) → (length w ≡ 0 → ⊥) → (length w ≡ 1 → ⊥) → (get_or w 0 0 ≡ 48 → ⊥) → number_after 0 w ≡ number_of w
unfolding number_of
number_long [] m n e = absurd (m refl)
number_long (c ∷ []) m n e = absurd (n refl)
number_long (c ∷ d ∷ ds) m n e = simp (ne_eqb _ _ e)

-- Writing.

-- no more digits where n has none
more_digits : (k n : ℕ) → n < 10 ^ suc k → digits_of k n ≡ digits_of (suc k) n
unfolding digits_of
more_digits zero n h =
    let l : n < 10 = omega arith in
    let m : n % 10 ≡ n = omega arith in
    simp (lt-ltb _ _ l, m)
more_digits (suc k) n h = go (ltb n 10) (more_digits k (n / 10) (omega arith))
  where
    last : List ℕ
    last = glyph (n % 10) ∷ []

    go : (t : Bool) → digits_of k (n / 10) ≡ digits_of (suc k) (n / 10) → cond t (glyph n ∷ []) (digits_of k (n / 10) ++ last) ≡ cond t (glyph n ∷ []) (digits_of (suc k) (n / 10) ++ last)
    go true e = refl
    go false e = ap (λ (ds : List ℕ). ds ++ last) e

pub one_digit : (n : ℕ) → n < 10 → glyph n ∷ [] ≡ long_decimal_of n
unfolding digits_of
one_digit n h = simp (lt-ltb _ _ h)

pub last_digit : (n : ℕ) → 10 ≤ n → n < 2 ^ 64 → long_decimal_of (n / 10) ++ (glyph (n % 10) ∷ []) ≡ long_decimal_of n
unfolding digits_of
last_digit n h k =
    let l : n / 10 < 10 ^ 19 = omega arith in
    simp (le-ltb _ _ h) (ap (λ (ds : List ℕ). ds ++ (glyph (n % 10) ∷ [])) (sym (more_digits 18 (n / 10) l)))

two_digits : (n : ℕ) → 10 ≤ n → n < 100 → glyph (n / 10) ∷ glyph (n % 10) ∷ [] ≡ long_decimal_of n
two_digits n h l =
    let d : n / 10 < 10 = omega arith in
    let k : n < 2 ^ 64 = omega arith in
    ap (λ (ds : List ℕ). ds ++ (glyph (n % 10) ∷ [])) (one_digit (n / 10) d) ∙ last_digit n h k

pub one_long : (n : ℕ) → n < 10 → length (long_decimal_of n) ≡ 1
one_long n h = ap length (sym (one_digit n h))

pub more_long : (n : ℕ) → 10 ≤ n → n < 2 ^ 64 → length (long_decimal_of n) ≡ length (long_decimal_of (n / 10)) + 1
more_long n h k = ap length (sym (last_digit n h k)) ∙ length-append (long_decimal_of (n / 10)) (glyph (n % 10) ∷ [])

pub two_long : (n : ℕ) → 10 ≤ n → n < 100 → length (long_decimal_of n) ≡ 2
two_long n h l = ap length (sym (two_digits n h l))

three_digits : (n : ℕ) → 100 ≤ n → n < 1000 → glyph (n / 100) ∷ glyph (n / 10 % 10) ∷ glyph (n % 10) ∷ [] ≡ long_decimal_of n
three_digits n h l =
    let k : n < 2 ^ 64 = omega arith in
    let ten : 10 ≤ n = omega arith in
    let low : 10 ≤ n / 10 = omega arith in
    let high : n / 10 < 100 = omega arith in
    let d : n / 100 ≡ n / 10 / 10 = omega arith in
    ap (λ (e : ℕ). glyph e ∷ glyph (n / 10 % 10) ∷ glyph (n % 10) ∷ []) d
    ∙ ap (λ (ds : List ℕ). ds ++ (glyph (n % 10) ∷ [])) (two_digits (n / 10) low high)
    ∙ last_digit n ten k

pub three_long : (n : ℕ) → 100 ≤ n → n < 1000 → length (long_decimal_of n) ≡ 3
three_long n h l = ap length (sym (three_digits n h l))

-- up to three characters and the byte that follows are the word of n, where they are those of its digits
pub word_one : (n a after : ℕ) → n < 10 → a ≡ glyph n → a ∷ after ∷ [] ≡ word_of n after
word_one n a after h e = rw e (ap (λ (ds : List ℕ). ds ++ (after ∷ [])) (one_digit n h))

pub word_two : (n a b after : ℕ) → 10 ≤ n → n < 100 → a ≡ glyph (n / 10) → b ≡ glyph (n % 10) → a ∷ b ∷ after ∷ [] ≡ word_of n after
word_two n a b after h l d e = rw (d, e) (ap (λ (ds : List ℕ). ds ++ (after ∷ [])) (two_digits n h l))

pub word_three : (n a b d after : ℕ) → 100 ≤ n → n < 1000 → a ≡ glyph (n / 100) → b ≡ glyph (n / 10 % 10) → d ≡ glyph (n % 10) → a ∷ b ∷ d ∷ after ∷ [] ≡ word_of n after
word_three n a b d after h l e f g = rw (e, f, g) (ap (λ (ds : List ℕ). ds ++ (after ∷ [])) (three_digits n h l))

digits_room : (k n : ℕ) → length (digits_of k n) ≤ suc k
unfolding digits_of
digits_room zero n = omega arith
digits_room (suc k) n = go (ltb n 10) (digits_room k (n / 10))
  where
    go : (t : Bool) → length (digits_of k (n / 10)) ≤ suc k → length (cond t (glyph n ∷ []) (digits_of k (n / 10) ++ (glyph (n % 10) ∷ []))) ≤ suc (suc k)
    go true r = omega arith
    go false r = simp length-append (omega arith)

-- a number of at most k + 1 digits, where more may stand
digits_among : (j k n : ℕ) → n < 10 ^ suc k → digits_of k n ≡ digits_of (j + k) n
digits_among zero k n h =
    let e : k ≡ 0 + k = omega arith in
    ap (λ (m : ℕ). digits_of m n) e
digits_among (suc j) k n h =
    let e : j + suc k ≡ suc j + k = omega arith in
    more_digits k n h ∙ digits_among j (suc k) n (omega arith) ∙ ap (λ (m : ℕ). digits_of m n) e

-- the text of a number of 32 bits
pub long_decimal : (n : ℕ) → n < 2 ^ 32 → long_decimal_of n ≡ decimal_of n
long_decimal n h = sym (digits_among 10 9 n (omega arith))

pub decimal_room : (n : ℕ) → length (decimal_of n) ≤ 10
decimal_room n = digits_room 9 n

pub long_room : (n : ℕ) → length (long_decimal_of n) ≤ 20
long_room n = digits_room 19 n

-- the digits that the library writes
pub long_decimal_is : (n : ℕ) → n < 2 ^ 64 → decimal n ≡ long_decimal_of n
long_decimal_is n h =
    decimal_by_steps (λ m ds. m < 2 ^ 64 → ds ≡ long_decimal_of m)
    (λ m l k. one_digit m l)
    (λ m ds l g k. ap (λ (es : List ℕ). es ++ (glyph (m % 10) ∷ [])) (g (omega arith)) ∙ last_digit m l k) n h h

pub word_long : (n after : ℕ) → length (word_of n after) ≡ length (long_decimal_of n) + 1
word_long n after = length-append (long_decimal_of n) (after ∷ [])

pub byte_room : (n : ℕ) → n < 256 → length (long_decimal_of n) ≤ 3
byte_room n h = rw (← digits_among 17 2 n (omega arith)) (digits_room 2 n)

-- Writing a line.

pub separates_more : (ns : List ℕ) (i : ℕ) → i < length ns → 32 ≡ separator (drop i ns)
separates_more ns i h = rw (drop_at ns i 0 h)

pub separates_last : (ns : List ℕ) (i : ℕ) → length ns ≤ i → 10 ≡ separator (drop i ns)
separates_last ns i h = rw (drop_of_length-le ns h)

-- Writing a line: out holds what it held at first and the numbers before place i.
pub record Writing (ns from out : List ℕ) (i : ℕ) : Type 0 where
  pub most : i ≤ length ns
  pub rest : from ++ line_of ns ≡ out ++ line_of (drop i ns)

write_at : (ns : List ℕ) (i : ℕ) → i < length ns → line_of (drop i ns) ≡ decimal_of (get_or ns i 0) ++ (separator (drop (i + 1) ns) ∷ line_of (drop (i + 1) ns))
unfolding line_of
write_at ns i h = rw (drop_at ns i 0 h)

write_long : (ns : List ℕ) (i : ℕ) → i < length ns → length (line_of (drop i ns)) ≡ length (decimal_of (get_or ns i 0)) + suc (length (line_of (drop (i + 1) ns)))
write_long ns i h = ap length (write_at ns i h) ∙ length-append (decimal_of (get_or ns i 0)) (separator (drop (i + 1) ns) ∷ line_of (drop (i + 1) ns))

module _ {ns from out : List ℕ} {i : ℕ} where
  pub write_room : (n size : ℕ) → Writing ns from out i → i < length ns → length from + length (line_of ns) ≤ size → n ≡ get_or ns i 0 → n < 2 ^ 32 → length out + length (long_decimal_of n) < size
  write_room n size w h r e s =
      omega (arith, length-append from (line_of ns), length-append out (line_of (drop i ns)), ap length w.rest, write_long ns i h, ap length (long_decimal n s), ap (λ (m : ℕ). length (decimal_of m)) e)

  pub write_turns : (out' : List ℕ) (n v : ℕ) → Writing ns from out i → i < length ns → n ≡ get_or ns i 0 → n < 2 ^ 32 → v ≡ separator (drop (i + 1) ns) → out' ≡ out ++ word_of n v → Writing ns from out' (i + 1)
  write_turns out' n v w h e s d p =
      let q : word_of n v ≡ decimal_of (get_or ns i 0) ++ (separator (drop (i + 1) ns) ∷ []) = ap (λ (ds : List ℕ). ds ++ (v ∷ [])) (long_decimal n s ∙ ap decimal_of e) ∙ rw d in
      record {
        most = omega arith;
        rest = w.rest ∙ ap (λ (s : List ℕ). out ++ s) (write_at ns i h) ∙ rw (p, q) (simp append_assoc);
      }

  pub write_ends : Writing ns from out i → length ns ≤ i → out ≡ from ++ line_of ns
  unfolding line_of
  write_ends w h =
      let e : line_of (drop i ns) ≡ [] = rw (drop_of_length-le ns h) in
      sym (w.rest ∙ rw e (append-nil out))

-- a line of k numbers takes at most 11 bytes for each
pub line_room : (ns : List ℕ) → length (line_of ns) ≤ 11 * length ns
unfolding line_of
line_room [] = omega arith
line_room (n ∷ ns) =
    let r = line_room ns in
    let d = decimal_room n in
    omega (arith, length-append (decimal_of n) (separator ns ∷ line_of ns))
