-- The words of a run of bytes, one after the other, the bytes of words, and the header.
use Prim.Native.Nat.{ℕ, zero, suc, ◌+◌, ◌*◌, ◌/◌, ◌%◌, ◌≤◌, ◌<◌, ◌^◌}
use mathlib.Core.Path.{◌≡◌, refl, sym, ap, ◌∙◌}
use mathlib.Core.Bool.{Bool, true, false}
use mathlib.Core.List.{List, [], ◌∷◌, ◌++◌}
use lib.ListN.{length, take, drop, get_or, length-drop}
use lib.Seq.{take_all, take-suc, take-append-le}
use lib.Dec.{ltb}
use native.Mathlib.Omega.{arith}
use borrow.Author.Tests.{ltb-true, ltb-false}
use Rattle.std.specs.Int.{w32, from_le_bytes, to_le_bytes}
use Rattle.std.specs.Simd.{first_chunks}
use Rattle.recorder.specs.declared.file.HeaderError.{HeaderError}
use Rattle.std.specs.Prelude.{map, Option, Some, None, Ok, Err}
use Rattle.recorder.specs.declared.record.Kind.{Kind}
use Rattle.recorder.specs.Record.{kind, kind_of, by_kind, room, room_of, good}
use Rattle.recorder.specs.File.{word_of, words_of, bytes_of, bad_header, headed, header_of}

-- fewer than four bytes make none
pub no_words : (xs : List ℕ) → length xs < 4 → words_of xs ≡ []
no_words [] h = refl
no_words (a ∷ []) h = refl
no_words (a ∷ b ∷ []) h = refl
no_words (a ∷ b ∷ c ∷ []) h = refl
no_words (a ∷ b ∷ c ∷ d ∷ xs) h = absurd (omega arith)

-- how many there are
pub length-words : (xs : List ℕ) → length (words_of xs) ≡ length xs / 4
length-words [] = refl
length-words (a ∷ []) = refl
length-words (a ∷ b ∷ []) = refl
length-words (a ∷ b ∷ c ∷ []) = refl
length-words (a ∷ b ∷ c ∷ d ∷ xs) = ap suc (length-words xs) ∙ omega arith

-- the bytes of xs that are in none of its words
abbrev pub left : List ℕ → List ℕ
left xs = drop (4 * (length xs / 4)) xs

left_more : (a b c d : ℕ) (xs : List ℕ) → left (a ∷ b ∷ c ∷ d ∷ xs) ≡ left xs
left_more a b c d xs =
    let four : 4 * (suc (suc (suc (suc (length xs)))) / 4) ≡ suc (suc (suc (suc (4 * (length xs / 4))))) = omega arith in
    ap (λ (m : ℕ). drop m (a ∷ b ∷ c ∷ d ∷ xs)) four

-- what follows a run of bytes begins with those that were left
pub words_append : (xs ys : List ℕ) → words_of (xs ++ ys) ≡ words_of xs ++ words_of (left xs ++ ys)
words_append [] ys = refl
words_append (a ∷ []) ys = refl
words_append (a ∷ b ∷ []) ys = refl
words_append (a ∷ b ∷ c ∷ []) ys = refl
words_append (a ∷ b ∷ c ∷ d ∷ xs) ys =
    ap (λ (r : List ℕ). word_of a b c d ∷ r)
    (words_append xs ys ∙ ap (λ (r : List ℕ). words_of xs ++ words_of (r ++ ys)) (sym (left_more a b c d xs)))

pub length_left : (xs : List ℕ) → length (left xs) ≡ length xs % 4
length_left xs = length-drop (4 * (length xs / 4)) xs ∙ omega arith

-- they are the numbers of its runs of four bytes
pub words-chunks : (xs : List ℕ) → map (from_le_bytes w32) (first_chunks 4 (length xs / 4) xs) ≡ words_of xs
words-chunks [] = refl
words-chunks (a ∷ []) = refl
words-chunks (a ∷ b ∷ []) = refl
words-chunks (a ∷ b ∷ c ∷ []) = refl
words-chunks (a ∷ b ∷ c ∷ d ∷ xs) =
    let one : suc (suc (suc (suc (length xs)))) / 4 ≡ suc (length xs / 4) = omega arith in
    ap (λ (n : ℕ). map (from_le_bytes w32) (first_chunks 4 n (a ∷ b ∷ c ∷ d ∷ xs))) one ∙ ap (λ (l : List ℕ). word_of a b c d ∷ l) (words-chunks xs)

-- The bytes of words.

pub length-bytes : (ws : List ℕ) → length (bytes_of ws) ≡ 4 * length ws
length-bytes [] = refl
length-bytes (w ∷ ws) = omega (arith, length-bytes ws)

pub bytes-append : (xs ys : List ℕ) → bytes_of (xs ++ ys) ≡ bytes_of xs ++ bytes_of ys
bytes-append [] ys = refl
bytes-append (w ∷ xs) ys =
    ap (λ (l : List ℕ). w % 2 ^ 8 ∷ w / 2 ^ 8 % 2 ^ 8 ∷ w / 2 ^ 16 % 2 ^ 8 ∷ w / 2 ^ 24 % 2 ^ 8 ∷ l) (bytes-append xs ys)

-- the bytes of the words before i, and of the one there
pub bytes-take : (ws : List ℕ) (i : ℕ) → i < length ws → bytes_of (take (i + 1) ws) ≡ bytes_of (take i ws) ++ to_le_bytes w32 (get_or ws i 0)
bytes-take ws i h =
    let one : i + 1 ≡ suc i = omega arith in
    ap (λ (n : ℕ). bytes_of (take n ws)) one ∙ ap bytes_of (take-suc ws i 0 h) ∙ bytes-append (take i ws) (get_or ws i 0 ∷ [])

-- The header.

pub header_short : (bytes : List ℕ) → length bytes < 8 → header_of bytes ≡ Err HeaderError.CutOff
unfolding header_of
header_short bytes h =
    ap (λ (l : List ℕ). headed (words_of l)) (take_all 8 bytes (omega arith)) ∙ go (words_of bytes) (omega (arith, length-words bytes))
  where
    go : (ws : List ℕ) → length ws < 2 → headed ws ≡ Err HeaderError.CutOff
    go [] h = refl
    go (w ∷ []) h = refl
    go (w ∷ v ∷ ws) h = absurd (omega arith)

pub header_long : (bytes : List ℕ) (version : ℕ) → header_of bytes ≡ Ok version → 8 ≤ length bytes
header_long bytes version z = go (ltb (length bytes) 8) refl
  where
    go : (b : Bool) → ltb (length bytes) 8 ≡ b → 8 ≤ length bytes
    go true e = grind (arith, header_short bytes (ltb-true _ _ e))
    go false e = ltb-false _ _ e

pub header_append : (first rest : List ℕ) → 8 ≤ length first → header_of (first ++ rest) ≡ header_of first
unfolding header_of
header_append first rest h = ap (λ (l : List ℕ). headed (words_of l)) (take-append-le 8 first rest h)

-- a header of two words
pub two-words : (ws : List ℕ) (n : ℕ) → length ws ≡ 2 → n ≡ 2 → take n ws ≡ get_or ws 0 0 ∷ get_or ws 1 0 ∷ []
two-words ws n e k = ap (λ (m : ℕ). take m ws) k ∙ go ws e
  where
    go : (ws : List ℕ) → length ws ≡ 2 → take 2 ws ≡ get_or ws 0 0 ∷ get_or ws 1 0 ∷ []
    go [] e = absurd (omega arith)
    go (a ∷ []) e = absurd (omega arith)
    go (a ∷ b ∷ []) e = refl
    go (a ∷ b ∷ d ∷ ws) e = absurd (omega arith)

-- a refusal has a number
pub bad_header-some : (error : HeaderError) → 0 < bad_header error
bad_header-some HeaderError.NoMark = omega arith
bad_header-some HeaderError.UnknownVersion = omega arith
bad_header-some HeaderError.CutOff = omega arith

-- The kinds.

-- what a kind says of the number in bits 31..28
abbrev pub Numbered : Option Kind → ℕ → Type 0
Numbered (Some Kind.Ticks) k = k ≡ 0
Numbered (Some Kind.Read) k = k ≡ 1
Numbered (Some Kind.Write) k = k ≡ 2
Numbered (Some Kind.Sin) k = k ≡ 3
Numbered (Some Kind.Modem) k = k ≡ 4
Numbered (Some Kind.Reset) k = k ≡ 5
Numbered None k = 5 < k

pub numbered : (w : ℕ) → Numbered (kind_of w) (kind w)
numbered w = go (kind w)
  where
    go : (k : ℕ) → Numbered (by_kind k (Some Kind.Ticks) (Some Kind.Read) (Some Kind.Write) (Some Kind.Sin) (Some Kind.Modem) (Some Kind.Reset) None) k
    go zero = refl
    go (suc zero) = refl
    go (suc (suc zero)) = refl
    go (suc (suc (suc zero))) = refl
    go (suc (suc (suc (suc zero)))) = refl
    go (suc (suc (suc (suc (suc zero))))) = refl
    go (suc (suc (suc (suc (suc (suc k)))))) = grind arith

-- the room of a kind that is known, or of none
abbrev pub room_in : Option Kind → ℕ
room_in None = 0
room_in (Some k) = room_of k

pub good-known : (w : ℕ) → good w ≡ ltb (w % 2 ^ 28) (room_in (kind_of w))
unfolding good
good-known w = ap (λ (n : ℕ). ltb (w % 2 ^ 28) n) (go (kind w))
  where
    go : (k : ℕ) → room k ≡ room_in (by_kind k (Some Kind.Ticks) (Some Kind.Read) (Some Kind.Write) (Some Kind.Sin) (Some Kind.Modem) (Some Kind.Reset) None)
    go k = grind arith
