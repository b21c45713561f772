-- The parity sent and checked is that of the logic 1s on the line.
use Prim.Native.Nat.{ℕ, zero, suc, ◌+◌, ◌/◌, ◌%◌, ◌^◌, ◌≤◌}
use native.Mathlib.Nat.{mod-one, add_assoc}
use native.Mathlib.Numerals.{add-one}
use native.Mathlib.Decide.{ℕ_discrete}
use native.Mathlib.Omega.{arith}
use mathlib.Core.Path.{◌≡◌, sym, ap, ap₂, ◌∙◌}
use mathlib.Core.Bool.{true, not}
use mathlib.Core.List.{List, [], ◌∷◌, ◌++◌}
use lib.ListN.{replicate}
use lib.Dec.{eqb}
use lib.Pow.{field, mod-mod-pow}
use lib.Count.{ones, ones_step}
use borrow.Author.Tests.{eq-eqb, ne_eqb, eqb-true}
use Rattle.flag.specs.Flag.{bit, bit_of}
use Rattle.frame.specs.Format.{data_bits, parity_bits, character_of, parity_bit}
use Rattle.frame.specs.Frame.{bits, frame_bits}
use Rattle.frame.proofs.Parity.{parity-even, parity-odd, parity-stick}
use Rattle.device.specs.declared.Receiver.{Receiver}
use Rattle.device.specs.Receiver.{entry_of}
use Rattle.device.specs.Parity.{logic_ones, sent_bits, ParitySent, ParityChecked, Parity}

-- the ones of a number's n lowest digits are those among its n lowest bits
ones-bits : (n x : ℕ) → logic_ones (bits n x) ≡ ones (x % 2 ^ n)
unfolding logic_ones bits ones
ones-bits zero x = sym (ap ones (mod-one x))
ones-bits (suc n) x =
    let low : x % 2 ^ suc n % 2 ≡ x % 2 = ap (λ (m : ℕ). x % 2 ^ m % 2) (sym (add-one n)) ∙ mod-mod-pow x n 1 in
    let high : x % 2 ^ suc n / 2 ≡ x / 2 % 2 ^ n = ap (λ (m : ℕ). x % 2 ^ m / 2) (sym (add-one n)) ∙ field x n 1 in
    sym (ones_step (x % 2 ^ suc n) ∙ ap₂ (λ (a b : ℕ). a + b) low (ap ones high ∙ sym (ones-bits n (x / 2))))

ones_behind : (bs : List ℕ) (p : ℕ) → logic_ones (bs ++ (p ∷ [])) ≡ logic_ones bs + p
unfolding logic_ones
ones_behind [] p = omega arith
ones_behind (b ∷ bs) p = ap (λ (n : ℕ). b + n) (ones_behind bs p) ∙ sym (add_assoc b (logic_ones bs) p)

-- the logic 1s of a character and its parity bit
ones_with : (x f p : ℕ) → logic_ones (bits (data_bits f) x ++ (p ∷ [])) ≡ ones (character_of x f) + p
ones_with x f p = ones_behind (bits (data_bits f) x) p ∙ ap (λ (n : ℕ). n + p) (ones-bits (data_bits f) x)

sent_bits_lem : (x f : ℕ) → bit 3 f ≡ true → sent_bits x f ≡ bits (data_bits f) x ++ (parity_bit x f ∷ [])
unfolding frame_bits
sent_bits_lem x f one = ap (λ (n : ℕ). bits (data_bits f) x ++ replicate n (parity_bit x f)) (eqb-true (parity_bits f) 1 one)

sent-ones : (x f : ℕ) → bit 3 f ≡ true → logic_ones (sent_bits x f) ≡ ones (character_of x f) + parity_bit x f
sent-ones x f one = ap logic_ones (sent_bits_lem x f one) ∙ ones_with x f (parity_bit x f)

-- PE with a parity bit
pe_with : (v : Receiver) (h : ℕ) → bit 3 v.format ≡ true → (entry_of v h).pe ≡ bit_of (not (eqb v.parity (parity_bit v.samples v.format)))
unfolding entry_of
pe_with v h one = simp one

-- two bits differ where their sum is odd
differing : (p q : ℕ) → p ≤ 1 → q ≤ 1 → bit_of (not (eqb p q)) ≡ (p + q) % 2
differing p q l m =
    elim (ℕ_discrete p q) [
      | yes e ↦ simp (eq-eqb p q e) (omega arith)
      | no d ↦ simp (ne_eqb p q d) (omega arith)
    ]

-- PE of a character whose parity bit is to be q
pe_by : (v : Receiver) (h q : ℕ) → bit 3 v.format ≡ true → v.parity ≤ 1 → q ≤ 1 → parity_bit v.samples v.format ≡ q → (entry_of v h).pe ≡ (v.parity + q) % 2
pe_by v h q one l m e = pe_with v h one ∙ ap (λ (n : ℕ). bit_of (not (eqb v.parity n))) e ∙ differing v.parity q l m

sent : (f : ℕ) → bit 3 f ≡ true → ParitySent f
sent f one =
    record {
      follows = λ x. sent_bits_lem x f one;
      even = λ even stick x. let n = sent-ones x f one in let p = parity-even x f stick even in omega arith;
      odd = λ even stick x. let n = sent-ones x f one in let p = parity-odd x f stick even in omega arith;
      stick = λ stick x. parity-stick x f stick;
    }

checked : (v : Receiver) → bit 3 v.format ≡ true → v.parity ≤ 1 → ParityChecked v
checked v one l =
    let n = ones_with v.samples v.format v.parity in
    record {
      even = λ even stick h. pe_by v h _ one l (omega arith) (parity-even v.samples v.format stick even) ∙ omega arith;
      odd = λ even stick h. pe_by v h _ one l (omega arith) (parity-odd v.samples v.format stick even) ∙ omega arith;
      stick = λ stick h. pe_with v h one ∙ ap (λ (q : ℕ). bit_of (not (eqb v.parity q))) (parity-stick v.samples v.format stick);
    }

pub parity : Parity
parity = record { sent = sent; checked = checked }
