use Rattle.std.proofs.Common.{◌≡◌, ◌≤◌, ◌<◌, ◌+◌, ◌∙◌, ℕ, List, Option, None, Some, ◌++◌, length, sym, ap, refl, arith}
use Rattle.std.proofs.Common.{append_assoc, length-append}
use Rattle.std.specs.Io.KnownBytes.{prepend_known}
use Rattle.std.specs.Option.{option_map}
use Rattle.std.proofs.lemmas.List.{length-take}
use Rattle.devices.specs.Devices.{one_more}
use Rattle.base_tests.proofs.streams.callers.read_whole.Goals as goal

-- what was read before and now stands before what is left
grown : (old mid new : Option (List ℕ)) (done piece all : List ℕ) → old ≡ prepend_known done mid
    → mid ≡ prepend_known piece new → all ≡ done ++ piece → old ≡ prepend_known all new
grown old mid None done piece all so_far now e = rw (so_far, now) refl
grown old mid (Some left) done piece all so_far now e = rw (so_far, now, e) (ap Some (sym (append_assoc done piece left)))

-- no more is read than stood there
too-long : (old left : Option (List ℕ)) (done whole : List ℕ) (n : ℕ) → old ≡ prepend_known done left
    → old ≡ Some whole → length whole < n → n ≤ length done → ⊥
too-long old None done whole n read is short long = cc
too-long old (Some left) done whole n read is short long =
    let same : Some whole ≡ Some (done ++ left) = sym is ∙ read in
    let all : whole ≡ done ++ left = cc in
    let longer : length whole ≡ length done + length left = ap length all ∙ length-append done left in
    omega arith

pub loop-turn-preserved : goal.loop-turn-preserved
loop-turn-preserved g c =
    let items = rw c.if-is_err.ensures.negation at c.extend_from_slice.ensures.items in
    record {
      read = grown _ _ _ _ _ _ c.loop-turn.invariant.read c.in-Ok.ensures.moved items;
      none_failed = c.in-Ok.ensures.counted ∙ c.loop-turn.invariant.none_failed;
      enough = omega (arith, ap length items, length-append {A = ℕ}, length-take {A = ℕ});
    }

pub returns-in_default-clause-read : goal.returns-in_default-clause-read
returns-in_default-clause-read g c = λ _ bytes whole short. c.in_default.ensures.counted
    ∙ ap (option_map one_more) c.loop-turn.invariant.none_failed

pub returns-clause-read : goal.returns-clause-read
returns-clause-read g c = λ _ bytes whole short.
    let long : 18446744073709551615 ≤ length c.loop-turn.bytes.items =
    omega (arith, c.loop-turn-test.false, c.loop-turn.invariant.enough) in
    absurd (too-long _ _ c.loop-turn.bytes.items bytes _ c.loop-turn.invariant.read whole short long)
