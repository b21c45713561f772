-- What `load` makes of numbers that fit prints again as those numbers.
use Prim.Native.Nat.{ℕ, zero, suc, ◌+◌, ◌-◌, ◌*◌, ◌≤◌, ◌<◌}
use mathlib.Core.Path.{◌≡◌, refl, sym, ap, ap₂, ◌∙◌}
use mathlib.Core.Bool.{true, ◌&&◌}
use mathlib.Core.List.{List, [], ◌∷◌, ◌++◌, map}
use lib.ListN.{length, get_or, take, drop, length-take, length-drop, take-append-drop}
use lib.Seq.{drop-cons, take-take, drop-drop, take_all, get_or-take, get_or-drop}
use native.Mathlib.Omega.{arith}
use borrow.Author.Tests.{leb-true}
use Rattle.flag.specs.Flag.{all_of}
use Rattle.flag.proofs.Laws.{and_left, and_right, and_both, Each, each_of}
use Rattle.numbers.specs.Numbers.{receiver_count, state_count, entries_numbers, settings_numbers, frame_numbers, receiver_numbers, numbers_of, place, byte_at, is_byte, bytes_in, fitting, fits, low, entries_of, transmit_of, receive_of, state_of}

-- Bytes.

low_byte : (n : ℕ) → is_byte n ≡ true → low n ≡ n
low_byte n t = omega (arith, leb-true n 255 t)

map-low : (ns : List ℕ) → all_of is_byte ns ≡ true → map low ns ≡ ns
map-low [] t = refl
map-low (n ∷ ns) t =
    ap₂ (λ (a : ℕ) (b : List ℕ). a ∷ b) (low_byte n (and_left (is_byte n) (all_of is_byte ns) t)) (map-low ns (and_right (is_byte n) (all_of is_byte ns) t))

all_at : (ns : List ℕ) (i : ℕ) → all_of is_byte ns ≡ true → i < length ns → is_byte (get_or ns i 0) ≡ true
all_at [] i t h = absurd (omega arith)
all_at (n ∷ ns) zero t h = and_left (is_byte n) (all_of is_byte ns) t
all_at (n ∷ ns) (suc i) t h = all_at ns i (and_right (is_byte n) (all_of is_byte ns) t) (omega arith)

all_take : (k : ℕ) (ns : List ℕ) → all_of is_byte ns ≡ true → all_of is_byte (take k ns) ≡ true
all_take zero ns t = refl
all_take (suc k) [] t = refl
all_take (suc k) (n ∷ ns) t =
    and_both (is_byte n) (all_of is_byte (take k ns)) (and_left (is_byte n) (all_of is_byte ns) t) (all_take k ns (and_right (is_byte n) (all_of is_byte ns) t))

-- a place among those that are bytes
byte_there : (ns : List ℕ) (a b i : ℕ) → bytes_in a b ns ≡ true → b ≤ length ns → 0 < a → a ≤ i → i ≤ b → byte_at i ns ≡ place i ns
unfolding bytes_in
byte_there ns a b i t l z h k =
    let part : List ℕ = take (b + 1 - a) (drop (a - 1) ns) in
    let m : i - a < length part = simp (length-take, length-drop) (omega arith) in
    let p : i - a < b + 1 - a = omega arith in
    let q : a - 1 + (i - a) ≡ i - 1 = omega arith in
    let e : get_or part (i - a) 0 ≡ place i ns = get_or-take (b + 1 - a) (drop (a - 1) ns) (i - a) 0 p ∙ get_or-drop (a - 1) ns (i - a) 0 ∙ ap (λ (j : ℕ). get_or ns j 0) q in
    low_byte (place i ns) (rw e at (all_at part (i - a) t m))

-- Entries.

entries_back : (k : ℕ) (ns : List ℕ) → length ns ≡ 4 * k → all_of is_byte ns ≡ true → entries_numbers (entries_of k ns) ≡ ns
unfolding entries_numbers entries_of
entries_back zero [] l t = refl
entries_back zero (a ∷ ns) l t = absurd (omega arith)
entries_back (suc k) [] l t = absurd (omega arith)
entries_back (suc k) (a ∷ []) l t = absurd (omega arith)
entries_back (suc k) (a ∷ b ∷ []) l t = absurd (omega arith)
entries_back (suc k) (a ∷ b ∷ c ∷ []) l t = absurd (omega arith)
entries_back (suc k) (a ∷ b ∷ c ∷ d ∷ ns) l t =
    let ta = and_right (is_byte a) (all_of is_byte (b ∷ c ∷ d ∷ ns)) t in
    let tb = and_right (is_byte b) (all_of is_byte (c ∷ d ∷ ns)) ta in
    let tc = and_right (is_byte c) (all_of is_byte (d ∷ ns)) tb in
    let td = and_right (is_byte d) (all_of is_byte ns) tc in
    let ea : low a ≡ a = low_byte a (and_left (is_byte a) (all_of is_byte (b ∷ c ∷ d ∷ ns)) t) in
    let eb : low b ≡ b = low_byte b (and_left (is_byte b) (all_of is_byte (c ∷ d ∷ ns)) ta) in
    let ec : low c ≡ c = low_byte c (and_left (is_byte c) (all_of is_byte (d ∷ ns)) tb) in
    let ed : low d ≡ d = low_byte d (and_left (is_byte d) (all_of is_byte ns) tc) in
    let rest : entries_numbers (entries_of k ns) ≡ ns = entries_back k ns (omega arith) td in
    rw (ea, eb, ec, ed, rest)

-- The numbers of n places from index b on, one by one.

abbrev each : ℕ → ℕ → List ℕ → List ℕ
each zero b ns = []
each (suc n) b ns = get_or ns b 0 ∷ each n (suc b) ns

each_part : (n b : ℕ) (ns : List ℕ) → b + n ≤ length ns → each n b ns ≡ take n (drop b ns)
each_part zero b ns h = refl
each_part (suc n) b ns h =
    let k : b < length ns = omega arith in
    ap (λ (s : List ℕ). get_or ns b 0 ∷ s) (each_part n (suc b) ns (omega arith)) ∙ sym (rw (drop-cons ns b 0 k))

join : {a b c d : List ℕ} → a ≡ b → c ≡ d → a ++ c ≡ b ++ d
join p q = ap₂ (λ (x y : List ℕ). x ++ y) p q

-- a list in two parts
split : (n b : ℕ) (ns : List ℕ) → take n (drop b ns) ++ drop (b + n) ns ≡ drop b ns
split n b ns = ap (λ (s : List ℕ). take n (drop b ns) ++ s) (sym (drop-drop n b ns)) ∙ take-append-drop n (drop b ns)

module _ (ns : List ℕ) (long : length ns ≡ state_count) (t : fits ns ≡ true) where
  tests : Each (fitting ns)
  unfolding fits
  tests = each_of (fitting ns) t

  -- the places that are bytes
  b1 : (i : ℕ) → 1 ≤ i → i ≤ 4 → byte_at i ns ≡ place i ns
  b1 i h k = byte_there ns 1 4 i tests.0 (omega arith) (omega arith) h k

  b7 : (i : ℕ) → 7 ≤ i → i ≤ 12 → byte_at i ns ≡ place i ns
  b7 i h k = byte_there ns 7 12 i tests.1.0 (omega arith) (omega arith) h k

  b79 : (i : ℕ) → 79 ≤ i → i ≤ 80 → byte_at i ns ≡ place i ns
  b79 i h k = byte_there ns 79 80 i (and_right (bytes_in 14 77 ns) (bytes_in 79 80 ns) tests.1.1.0) (omega arith) (omega arith) h k

  b82 : (i : ℕ) → 82 ≤ i → i ≤ 338 → byte_at i ns ≡ place i ns
  b82 i h k = byte_there ns 82 338 i (and_left (bytes_in 82 338 ns) _ tests.1.1.1.0) (omega arith) (omega arith) h k

  -- those of part 4 behind the queue
  behind : (bytes_in 340 342 ns && bytes_in 349 351 ns) ≡ true
  behind = and_right (bytes_in 82 338 ns) _ tests.1.1.1.0

  b340 : (i : ℕ) → 340 ≤ i → i ≤ 342 → byte_at i ns ≡ place i ns
  b340 i h k = byte_there ns 340 342 i (and_left (bytes_in 340 342 ns) (bytes_in 349 351 ns) behind) (omega arith) (omega arith) h k

  b343 : (i : ℕ) → 343 ≤ i → i ≤ 345 → byte_at i ns ≡ place i ns
  b343 i h k = byte_there ns 343 345 i (and_left (bytes_in 343 345 ns) (bytes_in 347 348 ns) tests.1.1.1.1.0) (omega arith) (omega arith) h k

  b347 : (i : ℕ) → 347 ≤ i → i ≤ 348 → byte_at i ns ≡ place i ns
  b347 i h k = byte_there ns 347 348 i (and_right (bytes_in 343 345 ns) (bytes_in 347 348 ns) tests.1.1.1.1.0) (omega arith) (omega arith) h k

  b349 : (i : ℕ) → 349 ≤ i → i ≤ 351 → byte_at i ns ≡ place i ns
  b349 i h k = byte_there ns 349 351 i (and_right (bytes_in 340 342 ns) (bytes_in 349 351 ns) behind) (omega arith) (omega arith) h k

  -- The five groups.

  settings_back : settings_numbers (state_of ns).registers (state_of ns).baud (state_of ns).fifo (state_of ns).inputs (state_of ns).tx.count ≡ take 13 (drop 0 ns)
  unfolding state_of transmit_of
  settings_back =
      rw (b1 1 (omega arith) (omega arith), b1 2 (omega arith) (omega arith), b1 3 (omega arith) (omega arith), b1 4 (omega arith) (omega arith), b7 7 (omega arith) (omega arith), b7 8 (omega arith) (omega arith), b7 9 (omega arith) (omega arith), b7 10 (omega arith) (omega arith), b7 11 (omega arith) (omega arith), b7 12 (omega arith) (omega arith))
      (each_part 13 0 ns (omega arith))

  bytes_back : (state_of ns).tx.bytes ≡ take 64 (drop 13 ns)
  unfolding state_of transmit_of bytes_in
  bytes_back = map-low (take 64 (drop 13 ns)) (and_left (bytes_in 14 77 ns) (bytes_in 79 80 ns) tests.1.1.0)

  frame_back : frame_numbers (state_of ns) ≡ take 4 (drop 77 ns)
  unfolding state_of receive_of
  frame_back =
      rw (b79 79 (omega arith) (omega arith), b79 80 (omega arith) (omega arith)) (each_part 4 77 ns (omega arith))

  entries_are : entries_numbers (state_of ns).rx.entries ≡ take 256 (drop 81 ns)
  unfolding state_of receive_of bytes_in
  entries_are =
      let l : length (take 256 (drop 81 ns)) ≡ 4 * 64 = simp (length-take, length-drop) (omega arith) in
      let a : all_of is_byte (take 256 (take 257 (drop 81 ns))) ≡ true = all_take 256 (take 257 (drop 81 ns)) (and_left (bytes_in 82 338 ns) _ tests.1.1.1.0) in
      entries_back 64 (take 256 (drop 81 ns)) l (rw (take-take 256 257 (drop 81 ns) (omega arith)) at a)

  receiver_back : receiver_numbers (state_of ns).receiver (state_of ns).latches (state_of ns).kept ≡ drop 337 ns
  unfolding state_of
  receiver_back =
      rw (b82 338 (omega arith) (omega arith), b340 340 (omega arith) (omega arith), b340 341 (omega arith) (omega arith), b340 342 (omega arith) (omega arith), b343 343 (omega arith) (omega arith), b343 344 (omega arith) (omega arith), b343 345 (omega arith) (omega arith), b347 347 (omega arith) (omega arith), b347 348 (omega arith) (omega arith), b349 349 (omega arith) (omega arith), b349 350 (omega arith) (omega arith), b349 351 (omega arith) (omega arith))
      (each_part receiver_count 337 ns (omega arith) ∙ take_all receiver_count (drop 337 ns) (simp length-drop (omega arith)))

  -- the numbers of the state that is made of them
  pub loaded_prints : numbers_of (state_of ns) ≡ ns
  unfolding numbers_of
  loaded_prints =
      join settings_back
      (join bytes_back
      (join frame_back (join entries_are receiver_back ∙ split 256 81 ns) ∙ split 4 77 ns)
      ∙ split 64 13 ns)
      ∙ split 13 0 ns
