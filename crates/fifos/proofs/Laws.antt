-- Laws of the definitions that the proofs use.
use mathlib.Core.Path.{◌≡◌, refl, sym, ap}
use mathlib.Core.Bool.{true}
use mathlib.Core.List.{List, [], ◌∷◌}
use lib.Dec.{eqb}
use lib.ListN.{get_or, set}
use Rattle.queue.specs.declared.Entry.{Entry}
use Rattle.queue.specs.declared.Errors.{Errors}
use Rattle.queue.specs.Queue.{no_entry, no_errors, errors_of}
use Rattle.device.specs.declared.State.{State}
use Rattle.device.specs.Rbr.{oldest, rbr_read}
use Rattle.device.specs.Lsr.{without_errors, clear_errors, lsr_read}

-- Where a read finds nothing to take or to clear, the state stays.

pub rbr_kept : (s : State) → eqb s.rx.count 0 ≡ true → (rbr_read s).state ≡ s
unfolding rbr_read
rbr_kept s e = simp e

-- the first place set to what stands there
same_first : (xs : List Entry) (e : Entry) → e ≡ get_or xs 0 no_entry → set xs 0 e ≡ xs
same_first [] e p = refl
same_first (x ∷ xs) e p = ap (λ (y : Entry). y ∷ xs) p

without_none : (e : Entry) → errors_of e ≡ no_errors → without_errors e ≡ e
without_none e h = ap (λ (k : Errors). record { byte = e.byte; pe = k.pe; fe = k.fe; bi = k.bi }) (sym h)

pub lsr_kept : (s : State) → s.latches.overrun ≡ 0 → errors_of (oldest s.rx) ≡ no_errors → s.kept ≡ no_errors → (lsr_read s).state ≡ s
unfolding lsr_read clear_errors
lsr_kept s o e k =
    rw (same_first s.rx.entries _ (without_none (oldest s.rx) e), o, k)
