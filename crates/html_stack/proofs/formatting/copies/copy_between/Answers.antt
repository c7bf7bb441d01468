use Rattle.std.proofs.Common.{◌≡◌, ◌∙◌, ◌<◌, map, sym, ap, subst, arith, eq-zero-or-pos, inl, inr}
use Rattle.std.proofs.Math.Seq.{take-length}
use Rattle.html_rules.specs.Adoption.{walk}
use Rattle.html_rules_laws.proofs.TreePreserved.AdoptionStanding.{begun}
use Rattle.html_rules_laws.proofs.TreePreserved.AdoptionWalk.{Walked}
use Rattle.html_stack.specs.Adopting.{walk_of}
use Rattle.html_stack.specs.Stacks.{entries_of, open_of, opens_of}
use Rattle.html_stack.proofs.Results.{on-err}
use Rattle.html_stack.proofs.Walked.{opened-Walked, walk-in, walk-out, walked-Movable, walked-Standing, walked-in, walked-out}
use Rattle.html_stack.proofs.formatting.copies.copy_between.Goals as goal

pub loop-i-init : goal.loop-i-init
loop-i-init g c =
    let node = g.Sink.TreeSink.node in
    let f = g.Sink.TreeSink.forest c.args.sink.now in
    let entries = entries_of node c.args.entries.now.items in
    let start : walk_of node f c.args.entries.now.items
    (record { elements = c.new.result; last = c.args.block.now.handle; rules = c.args.rules }) ≡ begun c.args.rules f (node c.args.block.now.handle) entries =
    ap (λ xs. record {
      forest = f;
      active_formatting = entries;
      copies = map (open_of node) xs;
      last_node = node c.args.block.now.handle;
      rules = c.args.rules;
    }) c.new.ensures.items in
    record {
      within = omega arith;
      walked = subst (λ w. Walked f (node c.args.block.now.handle) w) (sym start)
          (opened-Walked c.args.rules f (open_of node c.args.block.now) entries c.requires.tree c.requires.listed c.requires.block);
      same = ap (λ xs. walk 3 (opens_of node xs)
          (walk_of node f c.args.entries.now.items
          (record { elements = c.new.result; last = c.args.block.now.handle; rules = c.args.rules })))
          (take-length c.args.elements.now) ∙ ap (walk 3 (opens_of node c.args.elements.now)) start;
    }

pub copy_node-requires : goal.copy_node-requires
copy_node-requires g c = walked-Movable _ _ _ c.loop-i.invariant.walked

pub loop-i-preserved-then-left-eq0 : goal.loop-i-preserved-then-left-eq0
loop-i-preserved-then-left-eq0 g c =
    let node = g.Sink.TreeSink.node in
    let f0 = g.Sink.TreeSink.forest c.args.sink.now in
    let f = g.Sink.TreeSink.forest c.loop-i.sink in
    let w = walk_of node f c.loop-i.entries.items c.loop-i.copies in
    let w' = walk_of node f c.unlist.new.entries.items c.loop-i.copies in
    let within = c.loop-i.invariant.within in
    let e = ap (λ es. record w { active_formatting = es }) c.unlist.ensures in
    record {
      within = omega arith;
      walked = walked-out f0 (node c.args.block.now.handle) (open_of node c.index-elements-i.result) w w' e c.loop-i.invariant.walked;
      same = walk-out node c.args.elements.now c.loop-i.i _ c.loop-i.left c.index-elements-i.result w w'
          c.if-left-eq0.true (omega arith) (omega arith) c.index-elements-i.is e ∙ c.loop-i.invariant.same;
    }

pub loop-i-preserved : goal.loop-i-preserved
loop-i-preserved g c =
    let node = g.Sink.TreeSink.node in
    let f0 = g.Sink.TreeSink.forest c.args.sink.now in
    let w = walk_of node (g.Sink.TreeSink.forest c.loop-i.sink) c.loop-i.entries.items c.loop-i.copies in
    let w' = walk_of node (g.Sink.TreeSink.forest c.copy_node.new.sink) c.copy_node.new.entries.items c.copy_node.new.copies in
    let within = c.loop-i.invariant.within in
    let some : 0 < c.loop-i.left = elim (eq-zero-or-pos c.loop-i.left) [ inl none ↦ absurd (c.if-left-eq0.false none) | inr more ↦ more ] in
    record {
      within = omega arith;
      walked = walked-in f0 (node c.args.block.now.handle) (open_of node c.index-elements-i.result) w w'
          c.in_ok-copy_node.ensures.ok c.loop-i.invariant.walked;
      same = walk-in node c.args.elements.now c.loop-i.i _ c.loop-i.left _ c.index-elements-i.result w w'
          (omega arith) (omega arith) (omega arith) c.index-elements-i.is c.in_ok-copy_node.ensures.ok ∙ c.loop-i.invariant.same;
    }

pub returns-in_err-copy_node-clause-kept : goal.returns-in_err-copy_node-clause-kept
returns-in_err-copy_node-clause-kept g c =
    let node = g.Sink.TreeSink.node in
    let f0 = g.Sink.TreeSink.forest c.args.sink.now in
    let w = walk_of node (g.Sink.TreeSink.forest c.loop-i.sink) c.loop-i.entries.items c.loop-i.copies in
    on-err c.from_residual.result
    (λ xs h. c.in_err-copy_node.ensures.kept xs (walked-Standing f0 (open_of node c.args.block.now) w xs
    (entries_of node c.args.entries.now.items) c.requires.block c.loop-i.invariant.walked h))
