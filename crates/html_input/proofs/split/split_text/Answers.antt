use Rattle.std.proofs.Common.{List, ℕ, ◌<◌, length, subst, ap, arith}
use Rattle.html_input.specs.Reading.{StaysAtFault}
use Rattle.html_input.proofs.Utf8.{fault-behind, fault-within, split-front}
use Rattle.html_input.proofs.split.split_text.Goals as goal

pub overflow_add-result : goal.overflow_add-result
overflow_add-result c =
    let fault = subst (λ (xs : List ℕ). StaysAtFault xs c.in-Err.valid) c.as_slice.ensures.value c.in-Err.ensures.err in
    let within : c.in-Err.valid < length c.args.bytes.items = fault-within c.args.bytes.items c.in-Err.valid fault in
    omega arith

pub returns-in-Err-clause-err : goal.returns-in-Err-clause-err
returns-in-Err-clause-err c front text long =
    let fault = subst (λ (xs : List ℕ). StaysAtFault xs c.in-Err.valid) c.as_slice.ensures.value c.in-Err.ensures.err in
    rw (← long) (fault-behind front c.args.bytes.items c.in-Err.valid text fault)

pub returns-clause-ok : goal.returns-clause-ok
returns-clause-ok c =
    split-front c.args.bytes.items c.as_slice.result.now c.split_off.new.self.items _ c.in_ok-cut.cut.items
    c.in-Ok.valid c.as_slice.ensures.value c.in-Ok.ensures.ok c.in_ok-cut.ensures.items
    (ap (λ v. v.items) c.from_utf8_unchecked.ensures.value) c.in_ok-cut.ensures.tail
