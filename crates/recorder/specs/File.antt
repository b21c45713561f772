-- The recorder's file (document 02 a): the three letters UTR, a zero byte, a 16-bit version, a 16-bit zero, then the
-- records, all little-endian.
use Rattle.std.specs.Prelude.{ℕ, ◌+◌, ◌*◌, ◌/◌, ◌%◌, ◌^◌, Bool, cond, ◌&&◌, List, [], ◌∷◌, eqb, take, Result, Ok, Err}
use Rattle.recorder.specs.declared.file.HeaderError.{HeaderError}

-- four bytes as a word, little-endian
abbrev pub word_of : ℕ → ℕ → ℕ → ℕ → ℕ
word_of a b c d = a + b * 2 ^ 8 + c * 2 ^ 16 + d * 2 ^ 24

-- the whole words of a run of bytes; one to three bytes at its end make none
abbrev pub words_of : List ℕ → List ℕ
words_of (a ∷ b ∷ c ∷ d ∷ bytes) = word_of a b c d ∷ words_of bytes
words_of [] = []
words_of (a ∷ []) = []
words_of (a ∷ b ∷ []) = []
words_of (a ∷ b ∷ c ∷ []) = []

-- the bytes of words, little-endian
abbrev pub bytes_of : List ℕ → List ℕ
bytes_of [] = []
bytes_of (w ∷ words) =
    w % 2 ^ 8 ∷ w / 2 ^ 8 % 2 ^ 8 ∷ w / 2 ^ 16 % 2 ^ 8 ∷ w / 2 ^ 24 % 2 ^ 8 ∷ bytes_of words

-- U, T, R and a zero byte
abbrev pub mark : ℕ
mark = word_of 85 84 82 0

-- the header's second word: the version, and the pad above it
abbrev pub version : ℕ → ℕ
version w = w % 2 ^ 16

abbrev pub pad : ℕ → ℕ
pad w = w / 2 ^ 16

-- a header whose mark is good and whose pad is zero
abbrev pub good_header : ℕ → ℕ → Bool
good_header first second = eqb first mark && eqb (pad second) 0

-- the versions of the file that are known
abbrev pub known : ℕ → Bool
known v = eqb v 1

-- the number of a refusal: 6 for a bad mark or a nonzero pad, 7 for an unknown version, 8 for a header that is cut off
abbrev pub bad_header : HeaderError → ℕ
bad_header HeaderError.NoMark = 6
bad_header HeaderError.UnknownVersion = 7
bad_header HeaderError.CutOff = 8

-- the words of a header, its version: cut off where they are not two, then the mark and the pad, then the version
abbrev pub headed : List ℕ → Result ℕ HeaderError
headed [] = Err HeaderError.CutOff
headed (first ∷ []) = Err HeaderError.CutOff
headed (first ∷ second ∷ more) =
    cond (good_header first second)
    (cond (known (version second)) (Ok (version second)) (Err HeaderError.UnknownVersion))
    (Err HeaderError.NoMark)

-- the header of a file that begins with these bytes: its first eight
unfoldable pub header_of : List ℕ → Result ℕ HeaderError
header_of bytes = headed (words_of (take 8 bytes))
