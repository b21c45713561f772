-- The string of levels: it has p of them, a pulse drops the first, and the first is the line's.
use Prim.Native.Nat.{ℕ, zero, suc, ◌+◌, ◌-◌, ◌*◌, ◌≤◌}
use native.Mathlib.Nat.{suc-mul, sub-zero, sub_self}
use native.Mathlib.Omega.{arith}
use mathlib.Core.Path.{◌≡◌, refl, sym, ap, ◌∙◌}
use mathlib.Core.Bool.{true, false≢true}
use mathlib.Core.List.{List, [], ◌∷◌, ◌++◌}
use lib.ListN.{length, get_or, drop, length-append, length-drop, get_or-append}
use lib.Seq.{drop-length, drop-drop, drop-append-le, drop_at}
use lib.Dec.{eqb-suc-zero}
use borrow.Author.Tests.{lt-ltb, ne_eqb}
use Rattle.frame.specs.Format.{frame_length}
use Rattle.frame.specs.Frame.{frame_levels, last, line_level}
use Rattle.frame.specs.Forecast.{work_left, pulses_left, queued_levels, spelled}
use Rattle.frame.proofs.Frames.{frame_length_bounds, length-frame_levels}

-- The string by its cases.

pub spelled-nothing : (x g f : ℕ) → spelled 0 x g f [] ≡ []
unfolding spelled queued_levels
spelled-nothing x g f = simp (sub-zero, drop-length)

pub spelled-waiting : (x g f b : ℕ) (bs : List ℕ) → spelled 0 x g f (b ∷ bs) ≡ 1 ∷ queued_levels f (b ∷ bs)
unfolding spelled
spelled-waiting x g f b bs = simp (lt-ltb 0 (suc (length bs)) (omega arith))

pub spelled-sending : (l x g f : ℕ) (bs : List ℕ) → 1 ≤ l → spelled l x g f bs ≡ last l (frame_levels x g) ++ queued_levels f bs
unfolding spelled
spelled-sending l x g f bs h = simp (ne_eqb l 0 (omega arith))

-- Its length.

pub length_rest : (l x g : ℕ) → l ≤ frame_length g → length (last l (frame_levels x g)) ≡ l
length_rest l x g h = simp (length-drop, length-frame_levels) (omega arith)

length-queued : (f : ℕ) (bs : List ℕ) → length (queued_levels f bs) ≡ length bs * frame_length f
unfolding queued_levels
length-queued f [] = omega arith
length-queued f (b ∷ bs) = simp (length-append, length-frame_levels, length-queued f bs, suc-mul) (omega arith)

pub length-spelled : (l x g f : ℕ) (bs : List ℕ) → l ≤ frame_length g
    → length (spelled l x g f bs) ≡ pulses_left l (length bs) (frame_length f)
unfolding pulses_left
length-spelled zero x g f [] h = simp spelled-nothing
length-spelled zero x g f (b ∷ bs) h = simp (spelled-waiting, length-queued, lt-ltb 0 (suc (length bs)) (omega arith)) (omega arith)
length-spelled (suc l) x g f bs h =
    simp (spelled-sending (suc l) x g f bs (omega arith), length-append, length_rest (suc l) x g h, length-queued, lt-ltb 0 (suc l) (omega arith))

-- A pulse drops the first level.

-- with the frame over, what is left is what the queue spells
pub drops_one_at_end : (l x g f : ℕ) (bs : List ℕ) → l ≤ frame_length g → l ≤ 1 → drop 1 (spelled l x g f bs) ≡ queued_levels f bs
unfolding queued_levels
drops_one_at_end zero x g f [] h e = simp spelled-nothing
drops_one_at_end zero x g f (b ∷ bs) h e = simp spelled-waiting
drops_one_at_end (suc l) x g f bs h e =
    let one : suc l ≡ 1 = omega arith in
    simp (spelled-sending (suc l) x g f bs (omega arith))
    (drop_at (last (suc l) (frame_levels x g)) (queued_levels f bs) 1 (length_rest (suc l) x g h ∙ one))

-- within the frame one level less is left of it
pub drops_one-within : (l x g f : ℕ) (bs : List ℕ) → l ≤ frame_length g → 2 ≤ l
    → drop 1 (spelled l x g f bs) ≡ spelled (l - 1) x g f bs
drops_one-within l x g f bs h e =
    let n : length (frame_levels x g) - l + 1 ≡ length (frame_levels x g) - (l - 1) = rw length-frame_levels (omega arith) in
    simp (spelled-sending l x g f bs (omega arith), spelled-sending (l - 1) x g f bs (omega arith))
    (drop-append-le 1 (last l (frame_levels x g)) (queued_levels f bs) (omega (arith, length_rest l x g h))
    ∙ ap (λ (xs : List ℕ). xs ++ queued_levels f bs)
    (drop-drop 1 (length (frame_levels x g) - l) (frame_levels x g) ∙ ap (λ (m : ℕ). drop m (frame_levels x g)) n))

-- a byte that is taken spells its whole frame
pub taken_spells_frame : (f b : ℕ) (bs : List ℕ) → spelled (frame_length f) b f f bs ≡ queued_levels f (b ∷ bs)
unfolding queued_levels
taken_spells_frame f b bs =
    let one : 1 ≤ frame_length f = omega (arith, frame_length_bounds f) in
    simp (spelled-sending (frame_length f) b f f bs one, length-frame_levels, sub_self)

-- The line has the first level.
pub line_is_first : (l x g f : ℕ) (bs : List ℕ) → l ≤ frame_length g → line_level l x g ≡ get_or (spelled l x g f bs) 0 1
unfolding line_level
line_is_first zero x g f [] h = simp spelled-nothing
line_is_first zero x g f (b ∷ bs) h = simp spelled-waiting
line_is_first (suc l) x g f bs h =
    simp (eqb-suc-zero, spelled-sending (suc l) x g f bs (omega arith))
    (sym (get_or-append (last (suc l) (frame_levels x g)) (queued_levels f bs) 1 0 (omega (arith, length_rest (suc l) x g h))))

-- Work is left exactly when a level is.

pub work_has_pulses : (l n f : ℕ) → work_left l n ≡ true → 1 ≤ pulses_left l n f
unfolding pulses_left
work_has_pulses zero zero f e = absurd (false≢true e)
work_has_pulses zero (suc n) f e = simp (lt-ltb 0 (suc n) (omega arith)) (omega arith)
work_has_pulses (suc l) n f e = simp (lt-ltb 0 (suc l) (omega arith)) (omega arith)

pub no_work_is_empty : (l : ℕ) (bs : List ℕ) → (work_left l (length bs) ≡ true → ⊥) → (l ≡ 0) × (bs ≡ [])
no_work_is_empty zero [] h = (refl, refl)
no_work_is_empty zero (b ∷ bs) h = absurd (h (simp (lt-ltb 0 (suc (length bs)) (omega arith))))
no_work_is_empty (suc l) bs h = absurd (h (simp (lt-ltb 0 (suc l) (omega arith))))
