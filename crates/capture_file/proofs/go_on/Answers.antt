-- The part's records are replayed from where the last part ended.
use Rattle.capture.specs.Replay.{values_of, replay_of}
use Rattle.capture.specs.declared.Replayed.{Replayed}
use Rattle.device.specs.Ranges.{well_formed}
use Rattle.recorder.specs.File.{words_of}
use Rattle.capture_file.proofs.Carried.{rest-none, rest_records, later-agreeing, is_agreed, goes_on, agreed-known, place-within}
use Rattle.capture.specs.Replay.{agreeing}
use Rattle.capture_file.specs.File.{onward}
use Prim.Native.Nat.{◌≤◌}
use mathlib.Core.Path.{◌≡◌, sym, ap, ◌∙◌}
use mathlib.Core.Bool.{true, false, true≢false}
use mathlib.Core.List.{◌++◌}
use lib.ListN.{length, take}
use native.Mathlib.Omega.{arith}
use borrow.Author.Tests.{not-true, not-false}
use Rattle.capture_file.proofs.go_on.Goals as goal

pub returns-then-not-agreeing : goal.returns-then-not-agreeing
returns-then-not-agreeing c =
    let p = c.args.p in
    let e : agreeing p.replayed.outcome ≡ false = sym c.agreeing.ensures ∙ not-true _ c.if-not-agreeing.true-raw in
    record { by_index = λ rest. rest-none p _ e ∙ sym (rest-none p _ e); place_bound = omega arith; ready = λ h. absurd (true≢false (sym h ∙ e)) }

pub onward-requires : goal.onward-requires
onward-requires c =
    let within : (values_of c.replay-r.result.outcome).place ≤ length (take c.decode-n.result c.decode-n.new.words) = rw c.replay-r.ensures.value (place-within c.args.p.version c.args.p.replayed.state _) in
    omega (arith, within, c.requires.records_bound, c.requires.bytes_len_bound, c.decode-n.ensures.value)

pub returns : goal.returns
returns c =
    let p = c.args.p in
    let s = p.replayed.state in
    let bytes = c.args.bytes.now in
    let e : agreeing p.replayed.outcome ≡ true = sym c.agreeing.ensures ∙ not-false _ c.if-not-agreeing.false-raw in
    let same : c.replay-r.result ≡ replay_of p.version s (words_of bytes) =
    c.replay-r.ensures.value ∙ ap (replay_of p.version s) c.decode-n.ensures.words_after
    in
    let all : c.onward.result ≡ onward p.place (replay_of p.version s (words_of bytes)) =
    c.onward.ensures ∙ ap (onward p.place) same
    in
    let well : agreeing (replay_of p.version s (words_of bytes)).outcome ≡ true → well_formed (replay_of p.version s (words_of bytes)).state ≡ true =
    λ h. sym (ap (λ (r : Replayed). well_formed r.state) same) ∙ (c.replay-r.ensures.agrees (ap (λ (r : Replayed). r.outcome) same ∙ is_agreed _ h)).well
    in record {
      by_index = λ rest. rw (all, c.decode-n.ensures.value) (goes_on p.version p.place s bytes well rest ∙ sym (rest_records p (bytes ++ rest) e));
      place_bound = omega (arith, c.decode-n.ensures.value);
      ready = λ h.
          let k = sym (later-agreeing p.place (replay_of p.version s (words_of bytes)).outcome) ∙ sym (ap (λ (r : Replayed). agreeing r.outcome) all) ∙ h in
          record { well = ap (λ (r : Replayed). well_formed r.state) all ∙ well k; known-version = agreed-known p.version s (words_of bytes) k };
    }
