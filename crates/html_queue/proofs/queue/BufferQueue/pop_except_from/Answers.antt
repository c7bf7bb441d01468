use Rattle.std.proofs.Common.{◌≡◌, ◌<◌, ◌-◌, ◌∙◌, refl, sym, arith}
use Rattle.std.proofs.lemmas.Bool.{eqb-true}
use Rattle.html_queue.proofs.Taking.{chars_none, some_of, boundary_past_member, takes_member, takes_run}
use Rattle.html_queue.proofs.queue.BufferQueue.pop_except_from.Goals as goal

pub returns-then-is_empty-clause-ok : goal.returns-then-is_empty-clause-ok
returns-then-is_empty-clause-ok c =
    (rw (← c.self.view_is, ← c.as_str-rest.ensures) (chars_none _ (eqb-true _ _ (sym c.if-is_empty.ensures))), refl)

pub skip-requires : goal.skip-requires
skip-requires c =
    let some = some_of _ c.if-is_empty.ensures in
    rw (← c.as_str-rest.ensures)
    (boundary_past_member _ _ c.as_str-rest.utf8 some (rw c.if-width-eq0.true at c.nonmember_prefix_len-width.ensures.at some))

pub returns-then-width-eq0-clause-ok : goal.returns-then-width-eq0-clause-ok
returns-then-width-eq0-clause-ok c =
    let some = some_of _ c.if-is_empty.ensures in
    let member = rw c.if-width-eq0.true at c.nonmember_prefix_len-width.ensures.at some in
    let rest = c.as_str-rest.ensures in
    rw (c.as_bytes.ensures.value, rest, ← c.self.view_is)
    (takes_member _ _ _ _ _ (rw rest at c.as_str-rest.utf8) (rw rest at some) (rw rest at member) c.skip.ensures c.add_one.ensures)

pub returns-clause-ok : goal.returns-clause-ok
returns-clause-ok c =
    let rest = c.as_str-rest.ensures in
    let width = c.nonmember_prefix_len-width.ensures in
    let some : 0 < c.nonmember_prefix_len-width.result = omega arith in
    let run = c.as_bytes-2.ensures.value ∙ c.range.ensures.value in
    let all : c.nonmember_prefix_len-width.result - 0 ≡ c.nonmember_prefix_len-width.result = omega arith in
    let counted = rw (run, all) at c.add.ensures in
    rw (← c.self.view_is, c.in_ok-run.ensures.ok)
    (takes_run _ _ _ _ _ _ _ (rw rest at c.as_str-rest.utf8) refl some (rw rest at width.within)
    (rw rest at width.before) (rw rest at width.at) c.skip-2.ensures (rw rest at counted))
