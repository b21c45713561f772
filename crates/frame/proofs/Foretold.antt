-- Demand 3 over the transmitter: a tick lowers T by one and moves the string by one place, so t ticks do it t times.
use Prim.Native.Nat.{ℕ, zero, suc, ◌-◌, ◌≤◌}
use native.Mathlib.Nat.{eq-zero-or-pos}
use native.Mathlib.Omega.{arith}
use mathlib.Core.Path.{◌≡◌, refl, sym, ap, ◌∙◌}
use mathlib.Core.Bool.{Bool, true, false, ◌||◌, true≢false, false≢true}
use mathlib.Core.List.{List, [], ◌∷◌}
use mathlib.Core.Logic.{⊎_elim}
use lib.ListN.{length, get_or, drop, length-drop}
use lib.Seq.{get_or-drop}
use lib.Dec.{eqb, eqb-suc-zero}
use Rattle.frame.specs.Format.{frame_length}
use Rattle.frame.specs.Forecast.{work_left, ticks_left, queued_levels, spelled, level_after}
use Rattle.frame.proofs.Transmitter.{Transmitter, with_k, pulse, tick, ticks, line_of, Empty, pulses_of, forecast, string_of, foretold_level, Ready, Foretold}
use Rattle.frame.proofs.Clock.{pulses_in, level_after_pulses, place_shifts_at_quiet_tick, ticks_fall_at_quiet_tick, place_shifts_at_pulse, ticks_fall_at_pulse, place_starts_at_zero, no_ticks_no_pulses}
use Rattle.frame.proofs.Spelled.{spelled-nothing, length-spelled, drops_one_at_end, drops_one-within, taken_spells_frame, line_is_first, work_has_pulses, no_work_is_empty}
use Rattle.frame.proofs.Ticks.{by_pulse, by_tick}

-- T and the level after t ticks, over the string
abbrev time_of : Transmitter → ℕ
time_of s = ticks_left s.k s.divisor (length (string_of s))

abbrev level_in : Transmitter → ℕ → ℕ
level_in s t = get_or (string_of s) (pulses_in s.k s.divisor t) 1

length_string : (s : Transmitter) → Ready s → length (string_of s) ≡ pulses_of s
length_string s r = length-spelled s.left s.byte s.format s.next s.queue r.left_range

-- An empty transmitter.

empty_without_work : (s : Transmitter) → (work_left s.left (length s.queue) ≡ true → ⊥) → Empty s
empty_without_work s h = let n = no_work_is_empty s.left s.queue h in record { sent = n.0; taken = n.1 }

string_of_empty : (s : Transmitter) → Empty s → string_of s ≡ []
string_of_empty s e = rw (e.sent, e.taken) (spelled-nothing s.byte s.format s.next)

stopped_is_empty : (s : Transmitter) → Ready s → s.divisor ≡ 0 → Empty s
stopped_is_empty s r e = empty_without_work s (λ w. omega (arith, r.clocked w))

time_of_empty : (s : Transmitter) → Empty s → time_of s ≡ 0
unfolding ticks_left
time_of_empty s e = rw (string_of_empty s e)

empty_at_time_zero : (s : Transmitter) → Ready s → time_of s ≡ 0 → Empty s
empty_at_time_zero s r z =
    empty_without_work s
    (λ w.
    let none = no_ticks_no_pulses s.k s.divisor (length (string_of s)) (r.k_range (r.clocked w)) z in
    omega (arith, length_string s r, work_has_pulses s.left (length s.queue) (frame_length s.next) w))

-- A pulse drops the string's first level.

record Pulsed (s r : Transmitter) : Type 0 where
  divisor : r.divisor ≡ s.divisor
  k : r.k ≡ s.k
  fits : r.left ≤ frame_length r.format
  free : r.held ≡ true → r.queue ≡ []
  spells : string_of r ≡ drop 1 (string_of s)

none_to_take : (bs : List ℕ) (h : Bool) → (h ≡ true → bs ≡ []) → (eqb (length bs) 0 || h) ≡ true → bs ≡ []
none_to_take [] h free e = refl
none_to_take (b ∷ bs) true free e = free refl
none_to_take (b ∷ bs) false free e = absurd (false≢true (simp eqb-suc-zero at e))

oldest_taken : (f : ℕ) (bs : List ℕ) (h : Bool) → (eqb (length bs) 0 || h) ≡ false
    → spelled (frame_length f) (get_or bs 0 0) f f (drop 1 bs) ≡ queued_levels f bs
oldest_taken f [] h e = absurd (true≢false e)
oldest_taken f (b ∷ bs) h e = taken_spells_frame f b bs

over : (s : Transmitter) → s.left ≤ frame_length s.format → s.left ≤ 1 → drop 1 (string_of s) ≡ queued_levels s.next s.queue
over s = drops_one_at_end s.left s.byte s.format s.next s.queue

pulsed : (s : Transmitter) → s.left ≤ frame_length s.format → (s.held ≡ true → s.queue ≡ []) → Pulsed s (pulse s)
unfolding queued_levels
pulsed s fits free =
    by_pulse (Pulsed s) s
    (λ l e.
    let none = none_to_take s.queue s.held free e in
    record {
      divisor = refl;
      k = refl;
      fits = omega arith;
      free = free;
      spells = rw none (spelled-nothing 0 0 s.next) ∙ sym (over s fits l ∙ ap (queued_levels s.next) none);
    })
    (λ l e.
    record {
      divisor = refl;
      k = refl;
      fits = omega arith;
      free = λ h. ap (drop 1) (free h);
      spells = oldest_taken s.next s.queue s.held e ∙ sym (over s fits l);
    })
    (λ l.
    record {
      divisor = refl;
      k = refl;
      fits = omega arith;
      free = free;
      spells = sym (drops_one-within s.left s.byte s.format s.next s.queue fits l);
    })

-- A tick lowers T by one and moves the string by one place.

record Step (s r : Transmitter) : Type 0 where
  ready : Ready r
  falls : time_of r ≡ time_of s - 1
  shifts : (t : ℕ) → level_in r t ≡ level_in s (suc t)

step_stopped : (s : Transmitter) → Ready s → s.divisor ≡ 0 → Step s s
unfolding ticks_left
step_stopped s r e =
    let none = string_of_empty s (stopped_is_empty s r e) in
    record { ready = r; falls = rw none; shifts = λ t. rw none }

step_pulse : (s r : Transmitter) → 1 ≤ s.divisor → s.k ≡ 1 → Pulsed (with_k s s.divisor) r → Step s r
step_pulse s r d one p =
    let xs = string_of s in
    record {
      ready = record { k_range = omega arith; left_range = p.fits; clocked = λ _. omega arith; free = p.free };
      falls = rw (p.k, p.divisor, p.spells, length-drop, one) (ticks_fall_at_pulse s.divisor (length xs));
      shifts = λ t. rw (p.k, p.divisor, p.spells, get_or-drop, one) (ap (λ (q : ℕ). get_or xs q 1) (place_shifts_at_pulse s.divisor t d));
    }

step_quiet : (s : Transmitter) → Ready s → 2 ≤ s.k → Step s (with_k s (s.k - 1))
step_quiet s r two =
    let xs = string_of s in
    record {
      ready = record { k_range = omega arith; left_range = r.left_range; clocked = r.clocked; free = r.free };
      falls = ticks_fall_at_quiet_tick s.k s.divisor (length xs) two;
      shifts = λ t. ap (λ (q : ℕ). get_or xs q 1) (place_shifts_at_quiet_tick s.k s.divisor t two);
    }

step : (s : Transmitter) → Ready s → Step s (tick s)
step s r =
    by_tick (Step s) s
    (step_stopped s r)
    (λ d l. step_pulse s _ d (omega (arith, r.k_range d)) (pulsed (with_k s s.divisor) r.left_range r.free))
    (λ _ l. step_quiet s r l)

-- t ticks lower T by t and move the string by t places.

record After (s r : Transmitter) (t : ℕ) : Type 0 where
  ready : Ready r
  rest : time_of r ≡ time_of s - t
  now : level_in r 0 ≡ level_in s t

after : (t : ℕ) (s : Transmitter) → Ready s → After s (ticks t s) t
after zero s r = record { ready = r; rest = omega arith; now = refl }
after (suc t) s r =
    let one = step s r in
    let more = after t (tick s) one.ready in
    record { ready = more.ready; rest = omega (arith, more.rest, one.falls); now = more.now ∙ one.shifts t }

-- the line has the string's first level
line_now : (s : Transmitter) → Ready s → line_of s ≡ level_in s 0
line_now s r =
    line_is_first s.left s.byte s.format s.next s.queue r.left_range
    ∙ ⊎_elim
    (λ (e : s.divisor ≡ 0). rw (string_of_empty s (stopped_is_empty s r e)))
    (λ (d : 1 ≤ s.divisor). rw (place_starts_at_zero s.k s.divisor (r.k_range d)))
    (eq-zero-or-pos s.divisor)

time_is_forecast : (s : Transmitter) → Ready s → time_of s ≡ forecast s
time_is_forecast s r = ap (ticks_left s.k s.divisor) (length_string s r)

level_is_foretold : (s : Transmitter) → Ready s → (t : ℕ) → level_in s t ≡ foretold_level s t
level_is_foretold s r t =
    sym (level_after_pulses s.k s.divisor t (string_of s))
    ∙ ap (λ (p : ℕ). level_after s.k s.divisor p (string_of s) t) (length_string s r)

-- demand 3: the forecast holds of every number of ticks
pub foretold : (s : Transmitter) → Ready s → (t : ℕ) → Foretold s t
foretold s r t =
    let a = after t s r in
    let time = time_is_forecast s r in
    record {
      empties = λ l. empty_at_time_zero (ticks t s) a.ready (omega (arith, a.rest));
      not_before = λ e. omega (arith, a.rest, time_of_empty (ticks t s) e);
      level = line_now (ticks t s) a.ready ∙ a.now ∙ level_is_foretold s r t;
    }
