-- The first test that fails is the part that stands; the ranges that join two parts hold by computation.
use Prim.Native.Nat.{ℕ, zero, suc, ◌+◌, ◌<◌}
use mathlib.Core.Path.{◌≡◌, refl, ◌∙◌}
use mathlib.Core.Bool.{Bool, true, false, false≢true}
use mathlib.Core.List.{List, [], ◌∷◌}
use lib.ListN.{get_or}
use native.Mathlib.Omega.{arith}
use Rattle.flag.specs.Flag.{every}
use Rattle.frame.specs.Format.{stop_pulses, frame_length}
use Rattle.queue.specs.Queue.{no_bytes, byte_rest, no_entries, entry_rest, entries_within}
use Rattle.device.specs.declared.State.{State}
use Rattle.device.specs.State.{fresh_of}
use Rattle.device.specs.Fifo.{capacity, trigger_level}
use Rattle.device.specs.Autoflow.{autoflow, auto_rts}
use Rattle.device.specs.Ranges.{parts, well_formed, first_failing, part_of}
use Rattle.device.specs.Parts.{Lowest, Joined}

every-none : (n : ℕ) (ts : List Bool) → every ts ≡ true → first_failing n ts ≡ 0
every-none n [] e = refl
every-none n (true ∷ ts) e = every-none (suc n) ts e
every-none n (false ∷ ts) e = absurd (false≢true e)

none-every : (n : ℕ) (ts : List Bool) → first_failing (suc n) ts ≡ 0 → every ts ≡ true
none-every n [] e = refl
none-every n (true ∷ ts) e = none-every (suc n) ts e
none-every n (false ∷ ts) e = absurd (omega (arith, e))

-- counted from suc n, a place is above n
above : (n : ℕ) (ts : List Bool) → 0 < first_failing (suc n) ts → n < first_failing (suc n) ts
above n [] h = absurd (omega (arith, h))
above n (true ∷ ts) h =
    let k = above (suc n) ts h in
    omega (arith, k)
above n (false ∷ ts) h = omega arith

-- Where the place is p above the first, the test there fails, and those before it hold.

first_stands : (n p : ℕ) (ts : List Bool) → first_failing (suc n) ts ≡ suc (n + p) → get_or ts p true ≡ false
first_stands n p [] e = absurd (omega (arith, e))
first_stands n zero (true ∷ ts) e =
    let k = above (suc n) ts (omega (arith, e)) in
    absurd (omega (arith, e, k))
first_stands n (suc p) (true ∷ ts) e =
    let f : suc (n + suc p) ≡ suc (suc n + p) = omega arith in
    first_stands (suc n) p ts (e ∙ f)
first_stands n zero (false ∷ ts) e = refl
first_stands n (suc p) (false ∷ ts) e = absurd (omega (arith, e))

first_before : (n p q : ℕ) (ts : List Bool) → first_failing (suc n) ts ≡ suc (n + p) → q < p → get_or ts q false ≡ true
first_before n p q [] e h = absurd (omega (arith, e))
first_before n p zero (true ∷ ts) e h = refl
first_before n zero (suc q) (true ∷ ts) e h = absurd (omega (arith, h))
first_before n (suc p) (suc q) (true ∷ ts) e h =
    let f : suc (n + suc p) ≡ suc (suc n + p) = omega arith in
    first_before (suc n) p q ts (e ∙ f) (omega (arith, h))
first_before n p q (false ∷ ts) e h = absurd (omega (arith, e, h))

from_none : (p : ℕ) → suc p ≡ suc (0 + p)
from_none p = omega arith

pub lowest : (s : State) → Lowest s
unfolding well_formed part_of
lowest s =
    record {
      well = every-none 1 (parts s);
      none = none-every 0 (parts s);
      stands = λ p e. first_stands 0 p (parts s) (e ∙ from_none p);
      before = λ p q e h. first_before 0 p q (parts s) (e ∙ from_none p) h;
    }

pub joined : Joined
unfolding stop_pulses frame_length no_bytes byte_rest no_entries entry_rest entries_within fresh_of capacity trigger_level autoflow auto_rts part_of
joined =
    record {
      transmit_fits = refl;
      transmit_count = refl;
      receive_fits = refl;
      receive_count = refl;
      entry_on = refl;
      entry_off = refl;
      kept_off = refl;
      kept_range = refl;
      kept_on = refl;
      empty_alone = refl;
      empty_queued = refl;
      overrun_set = refl;
      overrun_range = refl;
      timeout_waits = refl;
      timeout_off = refl;
      timeout_none = refl;
      idle_waits = refl;
      idle_off = refl;
      idle_none = refl;
      cts_change = refl;
      cts_autoflow = refl;
      hold_trigger = refl;
      hold_clear = refl;
      hold_without = refl;
      hold_none = refl;
    }
