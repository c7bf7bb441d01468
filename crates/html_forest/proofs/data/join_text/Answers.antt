use Rattle.std.proofs.Common.{◌≡◌, ◌<◌, arith, get_or, length, refl}
use Rattle.html_forest.specs.declared.node.Node.{Node}
use Rattle.html_forest.proofs.Changed.{either-stored, err-shown, ok-joined, stored-node}
use Rattle.html_forest.proofs.Lists.{about_at-node, map-set_unseen}
use Rattle.html_forest.proofs.data.join_text.Goals as goal

pub join_entry-requires : goal.join_entry-requires
join_entry-requires c =
    let nodes = c.args.nodes.now.items in
    let there : c.args.at < length nodes = omega arith in
    let read : c.index_mut-node.result.now ≡ get_or nodes c.args.at c.index_mut-node.result.now =
    rw c.number.ensures at c.index_mut-node.ensures.value in
    stored-node c.args.store.now nodes c.args.at _ c.requires.stored there read

pub returns-clause-ok : goal.returns-clause-ok
returns-clause-ok c =
    let nodes = c.args.nodes.now.items in
    let there : c.args.at < length nodes = omega arith in
    let read : c.index_mut-node.result.now ≡ get_or nodes c.args.at c.index_mut-node.result.now =
    rw c.number.ensures at c.index_mut-node.ensures.value in
    rw c.number.ensures
    (ok-joined c.args.store.now c.join_entry.new.store nodes c.args.at c.index_mut-node.result.now
    c.join_entry.new.entry c.join_entry.ensures.grown c.requires.stored there read c.join_entry.result
    c.args.more.now c.join_entry.ensures.ok)

pub returns-clause-err : goal.returns-clause-err
returns-clause-err c =
    let nodes = c.args.nodes.now.items in
    let there : c.args.at < length nodes = omega arith in
    let read : c.index_mut-node.result.now ≡ get_or nodes c.args.at c.index_mut-node.result.now =
    rw c.number.ensures at c.index_mut-node.ensures.value in
    rw c.number.ensures
    (err-shown c.args.store.now c.join_entry.new.store nodes c.args.at c.index_mut-node.result.now
    c.join_entry.new.entry c.join_entry.ensures.grown c.requires.stored there read c.join_entry.result c.join_entry.ensures.err)

pub returns-clause-stored : goal.returns-clause-stored
returns-clause-stored c =
    let nodes = c.args.nodes.now.items in
    let there : c.args.at < length nodes = omega arith in
    let read : c.index_mut-node.result.now ≡ get_or nodes c.args.at c.index_mut-node.result.now =
    rw c.number.ensures at c.index_mut-node.ensures.value in
    rw c.number.ensures
    (either-stored c.args.store.now c.join_entry.new.store nodes c.args.at c.index_mut-node.result.now
    c.join_entry.new.entry c.join_entry.ensures.grown c.requires.stored there read c.join_entry.result _
    c.join_entry.ensures.ok c.join_entry.ensures.err)

pub returns-clause-links : goal.returns-clause-links
returns-clause-links c = map-set_unseen (λ (node : Node). node.links) _ _ _ _ c.index_mut-node.ensures.value refl

pub returns-clause-joined : goal.returns-clause-joined
returns-clause-joined c =
    let nodes = c.args.nodes.now.items in
    let there : c.args.at < length nodes = omega arith in
    let read : c.index_mut-node.result.now ≡ get_or nodes c.args.at c.index_mut-node.result.now =
    rw c.number.ensures at c.index_mut-node.ensures.value in
    rw (about_at-node c.args.store.now nodes c.args.at c.index_mut-node.result.now there read) c.join_entry.ensures.joined
