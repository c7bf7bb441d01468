use Rattle.std.proofs.Common.{◌≡◌, ◌≤◌, ◌<◌, ◌++◌, take, refl, arith, length, List, ℕ, subst, sym, rules}
use Rattle.std.proofs.lemmas.Grind.{common_steps}
use Rattle.std.proofs.lemmas.List.{length-take}
use Rattle.html_input.specs.Reading.{IsFront, StaysAtFault}
use Rattle.html_input.proofs.Utf8.{IsFront-nil, moved-none, moved-more, shows-fault, shows-end, begun-shown, BeginsText-front}
use Rattle.html_input.proofs.Utf8.{front-kept, front-all}
use Rattle.html_input.proofs.read.read_text.Goals as goal

pub loop-count-init : goal.loop-count-init
loop-count-init g c =
    record {
      moved = moved-none _ _ c.new-bytes.ensures.items;
      front = IsFront-nil _ c.new-bytes.ensures.items;
      counted = refl;
      same_references = refl;
      room = refl;
    }

pub returns-in_default-clause-err : goal.returns-in_default-clause-err
returns-in_default-clause-err g c =
    let bytes = c.loop-count.bytes.items in
    begun-shown _ _ _ bytes c.loop-count.invariant.moved c.in_default.ensures.kept
    (BeginsText-front bytes c.loop-count.valid c.loop-count.invariant.front)

pub returns-in_default-clause-counted : goal.returns-in_default-clause-counted
returns-in_default-clause-counted g c = search rules

pub returns-in-Err-clause-err : goal.returns-in-Err-clause-err
returns-in-Err-clause-err g c =
    let earlier = c.loop-count.bytes.items in
    let last = take c.in-Ok.count c.read_some.new.buffer in
    let all : c.as_slice.result.now ≡ earlier ++ last = grind (arith, common_steps) in
    let room = c.loop-count.invariant.room in
    let piece : length last ≤ 32768 = omega (arith, length-take c.in-Ok.count c.read_some.new.buffer, c.in-Ok.ensures.within) in
    let fault = subst (λ (bs : List ℕ). StaysAtFault bs c.in-Err.valid) all c.in-Err.ensures.err in
    shows-fault _ _ earlier last c.in-Err.valid (moved-more _ _ _ earlier last c.loop-count.invariant.moved c.in-Ok.ensures.moved)
    (BeginsText-front earlier c.loop-count.valid c.loop-count.invariant.front) piece fault

pub returns-then-valid-len-clause-err : goal.returns-then-valid-len-clause-err
returns-then-valid-len-clause-err g c =
    let zero = c.if-count-eq0.true in
    let room = c.loop-count.invariant.room in
    let some : 0 < length c.loop-count.buffer = omega arith in
    let moved = rw zero at c.in-Ok.ensures.moved in
    shows-end _ _ _ c.loop-count.bytes.items c.loop-count.valid c.loop-count.invariant.moved moved
    (c.in-Ok.ensures.end zero some) c.loop-count.invariant.front
    (omega (arith, c.if-valid-len.true, c.len.ensures))

pub loop-count-preserved : goal.loop-count-preserved
loop-count-preserved g c =
    record {
      moved = rw c.in_ok-extend_from_slice.ensures.items (moved-more _ _ _ _ _ c.loop-count.invariant.moved c.in-Ok.ensures.moved);
      front = subst (λ (bs : List ℕ). IsFront bs c.in-Ok-valid_front.valid) c.as_slice.ensures.value c.in-Ok-valid_front.ensures.ok;
      counted = search rules;
      room = search rules;
      same_references = search rules;
    }

pub valid_front-requires-clause-front : goal.valid_front-requires-clause-front
valid_front-requires-clause-front g c =
    front-kept c.loop-count.bytes.items (take c.in-Ok.count c.read_some.new.buffer)
    c.extend_from_slice.new.self.items c.as_slice.result.now c.loop-count.valid c.loop-count.invariant.front
    c.in_ok-extend_from_slice.ensures.items c.as_slice.ensures.value

pub unwrap-requires : goal.unwrap-requires
unwrap-requires g c =
    c.from_utf8.ensures.succeeds
    (front-all c.loop-count.bytes.items c.loop-count.valid c.len.result _ c.loop-count.invariant.front
    c.len.ensures (sym c.loop-count.bytes.ok.0) c.if-valid-len.false)
