-- The level at a place of the string by division and remainder, as code finds it.
use Prim.Native.Nat.{ℕ, zero, suc, ◌+◌, ◌-◌, ◌*◌, ◌/◌, ◌%◌, ◌≤◌, ◌<◌, max}
use native.Mathlib.Nat.{div-lt_iff_lt-mul, div-eq_of_lt, div-eq-sub-div, mod-eq_of_lt, mod-eq-sub-mod}
use native.Mathlib.Numerals.{add-one}
use native.Mathlib.Decide.{dec_lt}
use native.Mathlib.Omega.{arith}
use mathlib.Core.Path.{◌≡◌, ap, ◌∙◌}
use mathlib.Core.List.{List, [], ◌∷◌, ◌++◌}
use lib.ListN.{length, get_or, get_or-append}
use lib.Seq.{get_or-append-add, get_or-drop}
use lib.Dec.{ltb}
use Rattle.flag.proofs.Laws.{by_test}
use Rattle.frame.specs.Format.{frame_length}
use Rattle.frame.specs.Frame.{frame_levels, last}
use Rattle.frame.specs.Forecast.{pulses_left, queued_levels, spelled}
use Rattle.frame.proofs.Frames.{frame_length_bounds, length-frame_levels}
use Rattle.frame.proofs.Spelled.{spelled-nothing, spelled-waiting, spelled-sending, length_rest}

-- in the current frame: the place F − L + q of it
pub level_in_current : (l x g f q : ℕ) (bs : List ℕ) → l ≤ frame_length g → q < l
    → get_or (spelled l x g f bs) q 1 ≡ get_or (frame_levels x g) (frame_length g - l + q) 1
level_in_current l x g f q bs h lt =
    rw (spelled-sending l x g f bs (omega arith))
    (get_or-append (last l (frame_levels x g)) (queued_levels f bs) 1 q (omega (arith, length_rest l x g h))
    ∙ get_or-drop (length (frame_levels x g) - l) (frame_levels x g) q 1
    ∙ ap (λ (n : ℕ). get_or (frame_levels x g) (n - l + q) 1) (length-frame_levels x g))

-- at the one place before the first frame where L = 0: high
pub level_in_wait : (l x g f q : ℕ) (bs : List ℕ) → l ≡ 0 → q ≡ 0 → get_or (spelled l x g f bs) q 1 ≡ 1
level_in_wait l x g f q [] el eq = rw (el, eq, spelled-nothing)
level_in_wait l x g f q (b ∷ bs) el eq = rw (el, eq, spelled-waiting)

-- Behind the first part, which has L places or the one: m places on, place m % F of the frame of byte number m / F.

frame_length_positive : (f : ℕ) → 0 < frame_length f
frame_length_positive f = omega (arith, frame_length_bounds f)

behind : (xs ys : List ℕ) (q m : ℕ) → q ≡ length xs + m → get_or (xs ++ ys) q 1 ≡ get_or ys m 1
behind xs ys q m e = rw e (get_or-append-add xs ys m 1)

level_in_queue : (f : ℕ) (bs : List ℕ) (m : ℕ) → m / frame_length f < length bs
    → get_or (queued_levels f bs) m 1 ≡ get_or (frame_levels (get_or bs (m / frame_length f) 0) f) (m % frame_length f) 1
unfolding queued_levels
level_in_queue f [] m lt = absurd (omega arith)
level_in_queue f (b ∷ bs) m lt =
    let len = length-frame_levels b f in
    elim (dec_lt m (frame_length f)) [
      | yes h ↦ rw (div-eq_of_lt h, mod-eq_of_lt h) (get_or-append (frame_levels b f) (queued_levels f bs) 1 m (omega arith))
      | no h ↦
          let le : frame_length f ≤ m = omega arith in
          let one_more = div-eq-sub-div (frame_length_positive f) le ∙ add-one ((m - frame_length f) / frame_length f) in
          rw (one_more, mod-eq-sub-mod le)
          (behind (frame_levels b f) (queued_levels f bs) m (m - frame_length f) (omega arith)
          ∙ level_in_queue f bs (m - frame_length f) (omega arith))
    ]

behind_first_part : (l n f q m : ℕ) → q ≡ max l 1 + m → q < pulses_left l n f → m < n * f
unfolding pulses_left
behind_first_part l n f q m e =
    by_test (λ (p : ℕ). q < p → m < n * f) (ltb 0 l) _ _
    (λ _. omega arith)
    (λ _. by_test (λ (p : ℕ). q < p → m < n * f) (ltb 0 n) _ _ (λ _. omega arith) (λ _. omega arith))

pub byte-number_in_queue : (l n f q m : ℕ) → q ≡ max l 1 + m → q < pulses_left l n (frame_length f) → m / frame_length f < n
byte-number_in_queue l n f q m e lt = (div-lt_iff_lt-mul (frame_length_positive f)).1 (behind_first_part l n (frame_length f) q m e lt)

pub level_in_queued : (l x g f q m : ℕ) (bs : List ℕ) → l ≤ frame_length g → q ≡ max l 1 + m
    → q < pulses_left l (length bs) (frame_length f)
    → get_or (spelled l x g f bs) q 1 ≡ get_or (frame_levels (get_or bs (m / frame_length f) 0) f) (m % frame_length f) 1
level_in_queued zero x g f q m [] h e lt = absurd (omega (arith, byte-number_in_queue 0 0 f q m e lt))
level_in_queued zero x g f q m (b ∷ bs) h e lt =
    rw spelled-waiting
    (behind (1 ∷ []) (queued_levels f (b ∷ bs)) q m (omega arith)
    ∙ level_in_queue f (b ∷ bs) m (byte-number_in_queue _ _ _ _ _ e lt))
level_in_queued (suc l) x g f q m bs h e lt =
    rw (spelled-sending (suc l) x g f bs (omega arith))
    (behind (last (suc l) (frame_levels x g)) (queued_levels f bs) q m (omega (arith, length_rest (suc l) x g h))
    ∙ level_in_queue f bs m (byte-number_in_queue _ _ _ _ _ e lt))
