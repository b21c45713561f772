-- The loops over the places of a state: entries copied into a buffer.
use Prim.Native.Nat.{ℕ, ◌+◌, ◌*◌, ◌≤◌, ◌<◌}
use mathlib.Core.Path.{◌≡◌, refl, sym, ap, ◌∙◌}
use mathlib.Core.List.{List, [], ◌∷◌, ◌++◌, append_assoc, append-nil}
use lib.ListN.{length, get_or, take}
use lib.Seq.{take-suc, take_all}
use native.Mathlib.Numerals.{add-one}
use native.Mathlib.Omega.{arith}
use Rattle.queue.specs.declared.Entry.{Entry}
use Rattle.text.specs.Text.{Appended}
use Rattle.text.proofs.Texts.{appended_then}
use Rattle.device.specs.declared.State.{State}
use Rattle.numbers.specs.Numbers.{state_count, settings_numbers, frame_numbers, receiver_numbers, numbers_of, entry_numbers, entries_numbers}

-- the numbers of entries, one after another
entries_append : (es fs : List Entry) → entries_numbers (es ++ fs) ≡ entries_numbers es ++ entries_numbers fs
unfolding entries_numbers
entries_append [] fs = refl
entries_append (e ∷ es) fs = ap (λ (s : List ℕ). entry_numbers e ++ s) (entries_append es fs) ∙ sym (append_assoc (entry_numbers e) (entries_numbers es) (entries_numbers fs))

entries_next : (es : List Entry) (i : ℕ) (d : Entry) → i < length es → entries_numbers (take (i + 1) es) ≡ entries_numbers (take i es) ++ entry_numbers (get_or es i d)
unfolding entries_numbers
entries_next es i d h = rw (add-one, take-suc es i d h) (entries_append (take i es) (get_or es i d ∷ []) ∙ rw append-nil)

pub entries_long : (es : List Entry) → length (entries_numbers es) ≡ 4 * length es
unfolding entries_numbers
entries_long [] = refl
entries_long (e ∷ es) =
    let r = entries_long es in
    omega arith

-- Spreading: the numbers of the first i entries stand in the buffer from `at` on.
pub record Spreading (es : List Entry) (from : List ℕ) (at : ℕ) (to : List ℕ) (i : ℕ) : Type 0 where
  pub most : i ≤ length es
  pub long : length to ≡ length from
  pub so_far : take (at + 4 * i) to ≡ take at from ++ entries_numbers (take i es)

pub spread_begins : (es : List Entry) (from : List ℕ) (at : ℕ) → Spreading es from at from 0
unfolding entries_numbers
spread_begins es from at =
    let z : at + 4 * 0 ≡ at = omega arith in
    record { most = omega arith; long = refl; so_far = rw z (sym (append-nil (take at from))) }

module _ {es : List Entry} {from : List ℕ} {at : ℕ} {to : List ℕ} {i : ℕ} where
  pub spread_turns : (d : Entry) (four to' : List ℕ) → Spreading es from at to i → i < length es → four ≡ entry_numbers (get_or es i d) → length to' ≡ length to → Appended to (at + 4 * i) four to' (at + 4 * i + length four) → Spreading es from at to' (i + 1)
  spread_turns d four to' w h e l p =
      let f : length four ≡ 4 = ap length e in
      let q : at + 4 * (i + 1) ≡ at + 4 * i + length four = omega arith in
      record {
        most = omega arith;
        long = l ∙ w.long;
        so_far =
            ap (λ (k : ℕ). take k to') q
            ∙ p.holds
            ∙ ap (λ (s : List ℕ). s ++ four) w.so_far
            ∙ append_assoc (take at from) (entries_numbers (take i es)) four
            ∙ ap (λ (s : List ℕ). take at from ++ s) (ap (λ (s : List ℕ). entries_numbers (take i es) ++ s) e ∙ sym (entries_next es i d h));
      }

  pub spread_ends : (n : ℕ) → Spreading es from at to i → length es ≡ n → n ≤ i → Appended from at (entries_numbers es) to (at + 4 * n)
  spread_ends n w l h =
      let e : i ≡ n = omega (arith, w.most) in
      record {
        holds = rw (← e) w.so_far ∙ ap (λ (s : List Entry). take at from ++ entries_numbers s) (take_all i es (omega arith));
        place = omega (arith, entries_long es);
      }

-- the groups of a state's numbers, one after another
pub numbers_put : (s : State) {out a b c d e st fr re : List ℕ}
    → st ≡ settings_numbers s.registers s.baud s.fifo s.inputs s.tx.count → Appended out 0 st a (0 + length st)
    → Appended a 13 s.tx.bytes b 77
    → fr ≡ frame_numbers s → Appended b 77 fr c (77 + length fr)
    → Appended c 81 (entries_numbers s.rx.entries) d 337
    → re ≡ receiver_numbers s.receiver s.latches s.kept → Appended d 337 re e (337 + length re)
    → length e ≡ state_count → e ≡ numbers_of s
unfolding numbers_of
numbers_put s {out} {a} {b} {c} {d} {e} {st} {fr} {re} e1 p1 p2 e3 p3 p4 e5 p5 l =
    let q1 : Appended out 0 (settings_numbers s.registers s.baud s.fifo s.inputs s.tx.count) a 13 = rw e1 at p1 in
    let q3 : Appended b 77 (frame_numbers s) c 81 = rw e3 at p3 in
    let q5 : Appended d 337 (receiver_numbers s.receiver s.latches s.kept) e state_count = rw e5 at p5 in
    let q = appended_then q1 (appended_then p2 (appended_then q3 (appended_then p4 q5))) in
    sym (take_all state_count e (omega arith)) ∙ q.holds
