-- The records of the piece, written and put in their place.
use Rattle.recorder.specs.File.{words_of, bytes_of}
use Rattle.recorder.proofs.Laws.{left, length-words}
use Rattle.expected.specs.Expected.{Written, expect_of}
use Rattle.expected_file.specs.File.{after, rest_of}
use Rattle.expected_file.proofs.Carried.{written-most, written_all, rest_records, next, next_ready, goes_on}
use Prim.Native.Nat.{ℕ, ◌*◌, ◌/◌, ◌≤◌}
use mathlib.Core.Path.{◌≡◌, sym, ap, ◌∙◌}
use mathlib.Core.List.{List, ◌++◌}
use lib.ListN.{length, take, drop, length-take}
use native.Mathlib.Omega.{arith}
use borrow.Author.Tests.{eq-eqb}
use Rattle.expected_file.proofs.rewrite.Goals as goal

pub encode-requires : goal.encode-requires
encode-requires c =
    let bytes = c.args.bytes.now in
    let p = c.args.p in
    let expect = c.expect-e in
    let decode = c.decode-n in
    let count : expect.result.count ≤ length bytes / 4 =
    let answer = ap (λ (r : Written). r.answer.count) expect.ensures.outcome in
    omega (arith, answer, written-most p.version p.state (take decode.result decode.new.words) c.args.words.now, length-take decode.result decode.new.words, decode.ensures.value)
    in
    omega (arith, count, expect.ensures.count_value)

pub returns : goal.returns
returns c =
    let p = c.args.p in
    let s = p.state in
    let bytes = c.args.bytes.now in
    let words₀ = c.args.words.now in
    let decode = c.decode-n in
    let expect = c.expect-e in
    let encode = c.encode in
    let w : Written = record { answer = expect.result; words = expect.new.words } in
    let is : w ≡ expect_of p.version s (words_of bytes) words₀ = expect.ensures.outcome ∙ ap (λ (ws : List ℕ). expect_of p.version s ws words₀) decode.ensures.words_after in
    let number : expect.result.number ≡ (expect_of p.version s (words_of bytes) words₀).answer.number = ap (λ (r : Written). r.answer.number) is in
    let count : expect.result.count ≡ (expect_of p.version s (words_of bytes) words₀).answer.count = ap (λ (r : Written). r.answer.count) is in
    let room : length bytes / 4 ≤ length words₀ = omega (arith, c.requires) in
    let well = expect.ensures.well in
    let long : length (take expect.result.count w.words) ≡ expect.result.count = sym expect.ensures.count_value in
    let written : take (4 * expect.result.count) encode.new.bytes ≡ bytes_of (take expect.result.count w.words) =
    ap (λ (n : ℕ). take (4 * n) encode.new.bytes) (sym long) ∙ encode.ensures.bytes_after
    in
    record {
      by_index = λ rest.
          ap (λ (l : List ℕ). after l (rest_of (next p.version s bytes words₀ w is room well) (left bytes ++ rest))) written
          ∙ goes_on p.version s bytes words₀ w is room well rest
          ∙ sym (rest_records p (bytes ++ rest) (eq-eqb _ _ c.requires.number_value));
      bytes_unchanged = ap (λ (n : ℕ). drop (4 * n) encode.new.bytes) (sym long) ∙ encode.ensures.bytes_unchanged ∙ ap (λ (n : ℕ). drop (4 * n) bytes) long;
      count_in_bounds = omega (arith, count, written-most p.version s (words_of bytes) words₀, length-words bytes);
      count_value = λ z. count ∙ written_all p.version s (words_of bytes) words₀ (sym number ∙ z) ∙ length-words bytes;
      ready = next_ready p.version s bytes words₀ w is room well;
    }
