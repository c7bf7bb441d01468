use Rattle.std.proofs.Common.{◌≡◌, ◌∙◌, ◌≤◌, ◌-◌, ℕ, List, ap, ap₂, take, length, arith, length-take-le}
use Rattle.std.proofs.lemmas.List.{with_items_is}
use Rattle.std.specs.List.{copy_within}
use Rattle.std.specs.Vec.{vec_len}
use Rattle.std.specs.Io.KnownBytes.{append_known}
use Rattle.gathered_writes.proofs.Held.{kept}
use Rattle.gathered_writes.proofs.Gathered.flush.Goals as goal

pub returns-clause-kept : goal.returns-clause-kept
returns-clause-kept g c =
    let old = g.W.Target.written c.args.self.now.writer in
    let items = c.args.self.now.bytes.items in
    let len = c.args.self.now.len in
    let count = c.write_out-count.result.0 in
    let moved = rw c.deref.ensures.value at c.write_out-count.ensures.moved in
    let some = rw c.deref.ensures.value at c.write_out-count.ensures.within in
    let all = rw c.deref.ensures.value at c.deref.ensures.len in
    let below = c.args.self.now.within in
    let within : len ≤ length items = omega (arith, all, below) in
    let after : c.copy_within.new.self ≡ copy_within items count len 0 =
    c.copy_within.ensures.after ∙ ap (λ (xs : List ℕ). copy_within xs count len 0) c.as_mut_slice.ensures.value in
    let same : length c.copy_within.new.self ≡ vec_len c.args.self.now.bytes =
    c.copy_within.ensures.len ∙ c.as_mut_slice.ensures.len in
    ap₂ append_known moved (ap (take (len - count)) (with_items_is c.args.self.now.bytes c.copy_within.new.self same ∙ after))
    ∙ kept old items len count within (omega (arith, some, length-take-le len items within))
