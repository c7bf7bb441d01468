use Rattle.std.proofs.Common.{◌≡◌, ◌<◌, arith, get_or, length, refl}
use Rattle.markup.specs.Forest.{NodeData, with_attributes}
use Rattle.html_forest.specs.declared.node.Node.{Node}
use Rattle.html_forest.proofs.Changed.{either-stored, err-shown, ok-shown, stored-node}
use Rattle.html_forest.proofs.Lists.{map-set_unseen}
use Rattle.html_forest.proofs.Stored.{IsGrown-same}
use Rattle.html_forest.proofs.data.add_attributes.Goals as goal

pub add_to_entry-requires : goal.add_to_entry-requires
add_to_entry-requires c =
    let nodes = c.args.nodes.now.items in
    let there : c.args.at < length nodes = omega arith in
    let read : c.index_mut-node.result.now ≡ get_or nodes c.args.at c.index_mut-node.result.now =
    rw c.number.ensures at c.index_mut-node.ensures.value in
    stored-node c.args.store.now nodes c.args.at _ c.requires.stored there read

pub returns-clause-ok : goal.returns-clause-ok
returns-clause-ok c =
    let nodes = c.args.nodes.now.items in
    let there : c.args.at < length nodes = omega arith in
    let read : c.index_mut-node.result.now ≡ get_or nodes c.args.at c.index_mut-node.result.now =
    rw c.number.ensures at c.index_mut-node.ensures.value in
    rw c.number.ensures
    (ok-shown c.args.store.now c.args.store.now nodes c.args.at c.index_mut-node.result.now c.add_to_entry.new.entry
    (IsGrown-same c.args.store.now) c.requires.stored there read c.add_to_entry.result
    (λ (about : NodeData). with_attributes about c.args.others) c.add_to_entry.ensures.ok)

pub returns-clause-err : goal.returns-clause-err
returns-clause-err c =
    let nodes = c.args.nodes.now.items in
    let there : c.args.at < length nodes = omega arith in
    let read : c.index_mut-node.result.now ≡ get_or nodes c.args.at c.index_mut-node.result.now =
    rw c.number.ensures at c.index_mut-node.ensures.value in
    rw c.number.ensures
    (err-shown c.args.store.now c.args.store.now nodes c.args.at c.index_mut-node.result.now
    c.add_to_entry.new.entry (IsGrown-same c.args.store.now) c.requires.stored there read
    c.add_to_entry.result c.add_to_entry.ensures.err)

pub returns-clause-stored : goal.returns-clause-stored
returns-clause-stored c =
    let nodes = c.args.nodes.now.items in
    let there : c.args.at < length nodes = omega arith in
    let read : c.index_mut-node.result.now ≡ get_or nodes c.args.at c.index_mut-node.result.now =
    rw c.number.ensures at c.index_mut-node.ensures.value in
    rw c.number.ensures
    (either-stored c.args.store.now c.args.store.now nodes c.args.at c.index_mut-node.result.now
    c.add_to_entry.new.entry (IsGrown-same c.args.store.now) c.requires.stored there read
    c.add_to_entry.result _ c.add_to_entry.ensures.ok c.add_to_entry.ensures.err)

pub returns-clause-links : goal.returns-clause-links
returns-clause-links c = map-set_unseen (λ (node : Node). node.links) _ _ _ _ c.index_mut-node.ensures.value refl
