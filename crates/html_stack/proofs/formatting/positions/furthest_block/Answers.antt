use Rattle.std.proofs.Common.{◌∙◌, ◌<◌, suc, drop, take, get_or, map, reverse, length, sym, ap, arith}
use Rattle.std.proofs.lemmas.List.{get_or_default, take_all}
use Rattle.html_rules.specs.Adoption.{furthest_block}
use Rattle.html_rules.specs.State.{is_in}
use Rattle.html_rules.specs.declared.tag_set.TagSet.TheVariants.{SpecialTag}
use Rattle.html_stack.specs.Stacks.{open_of, opens_of}
use Rattle.html_stack.proofs.Newest.{split-at}
use Rattle.html_stack.proofs.StackEdits.{block-at, block-none}
use Rattle.html_stack.proofs.formatting.positions.furthest_block.Goals as goal

pub returns-then-is_in : goal.returns-then-is_in
returns-then-is_in g c =
    let less : c.loop-i.i < length c.args.elements.now = omega arith in
    record {
      within = less;
      block = λ d.
          ap furthest_block (split-at (open_of g.Sink.TreeSink.node) c.args.elements.now c.loop-i.i d less)
          ∙ block-at (reverse (map (open_of g.Sink.TreeSink.node) (drop (suc c.loop-i.i) c.args.elements.now)))
          (open_of g.Sink.TreeSink.node (get_or c.args.elements.now c.loop-i.i d))
          (opens_of g.Sink.TreeSink.node (take c.loop-i.i c.args.elements.now))
          (block-none (opens_of g.Sink.TreeSink.node (take c.loop-i.i c.args.elements.now)) c.loop-i.invariant)
          (ap (λ x. is_in SpecialTag (open_of g.Sink.TreeSink.node x))
          (get_or_default c.args.elements.now c.loop-i.i d c.index-elements-i.result less
          ∙ sym c.index-elements-i.is) ∙ sym c.if-is_in.ensures);
    }

pub returns : goal.returns
returns g c =
    let all = take_all c.loop-i.i c.args.elements.now (omega arith) in
    block-none (opens_of g.Sink.TreeSink.node c.args.elements.now) (rw all at c.loop-i.invariant)
