use Rattle.std.proofs.Common.{◌≡◌, arith, rules, subst}
use Rattle.std.specs.BTreeMap.{get}
use Rattle.markup.specs.Forest.{node_count}
use Rattle.html_selectors.specs.Kinds.{IsNumbered, key_cmp, name_at}
use Rattle.html_selectors.proofs.Numbering.{AreTold, kinds-small, kinds-told, none-told, push-told}
use Rattle.html_selectors.proofs.kinds.number_names.Goals as goal

pub loop-number-init : goal.loop-number-init
loop-number-init c = record {
  told = none-told c.args.index.now.forest.now c.reserve.new.self.items (get key_cmp c.new-table.result) (search rules) (search rules);
  notes = c.in_ok-notes.ensures.ok (get key_cmp c.new-table.result);
}

pub loop-number-preserved : goal.loop-number-preserved
loop-number-preserved c =
    let f = c.args.index.now.forest.now in
    let look = get key_cmp c.loop-number.table in
    let look' = get key_cmp c.kind_of.new.table in
    record {
      told = rw c.in_ok-push.ensures.items (push-told f c.loop-number.number c.in_ok-kind.kind c.loop-number.kinds.items look look'
          c.loop-number.invariant.told
          (subst (λ k. IsNumbered (name_at f k) k c.in_ok-kind.kind look look') c.new.ensures c.in_ok-kind.ensures.ok));
      notes = c.in_ok-kind.ensures.notes;
    }

pub returns-clause-kinds : goal.returns-clause-kinds
returns-clause-kinds c =
    let f = c.args.index.now.forest.now in
    let all : c.loop-number.number ≡ node_count f =
    omega (arith, c.loop-number-test.false, c.loop-number.auto.number-end, c.args.index.now.counted) in
    kinds-told f c.loop-number.kinds.items (get key_cmp c.loop-number.table)
    (subst (λ k. AreTold f k c.loop-number.kinds.items (get key_cmp c.loop-number.table)) all c.loop-number.invariant.told)

pub returns-clause-small : goal.returns-clause-small
returns-clause-small c =
    let f = c.args.index.now.forest.now in
    let all : c.loop-number.number ≡ node_count f =
    omega (arith, c.loop-number-test.false, c.loop-number.auto.number-end, c.args.index.now.counted) in
    kinds-small f c.loop-number.kinds.items (get key_cmp c.loop-number.table)
    (subst (λ k. AreTold f k c.loop-number.kinds.items (get key_cmp c.loop-number.table)) all c.loop-number.invariant.told)
