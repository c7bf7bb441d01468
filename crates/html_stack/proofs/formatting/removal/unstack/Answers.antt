use Rattle.std.proofs.Common.{◌∙◌, sym, ap}
use Rattle.html_stack.specs.Noted.{named}
use Rattle.html_stack.specs.Stacks.{opens_of}
use Rattle.html_stack.proofs.Noted.{removed-noted}
use Rattle.html_stack.proofs.StackEdits.{newest-open, number-none, unstacked}
use Rattle.html_stack.proofs.formatting.removal.unstack.Goals as goal

pub returns-in-None : goal.returns-in-None
returns-in-None g c =
    let none = rw c.as_slice.ensures.value at c.in-None.ensures in
    record {
      left = sym (number-none (g.Sink.TreeSink.node c.args.node.now)
          (opens_of g.Sink.TreeSink.node c.args.elements.now.items) none);
      found = sym none;
      noted = c.requires.noted;
    }

pub follow-requires : goal.follow-requires
follow-requires g c =
    rw c.as_slice-in-Some.ensures.value (removed-noted c.args.elements.now.items c.remove.new.self.items c.in-Some.i
    c.cut.new.self c.cut.ensures.within c.remove.ensures.items (c.cut.ensures.noted (named c.args.elements.now.items) c.requires.noted))

pub returns-in-Some : goal.returns-in-Some
returns-in-Some g c =
    let here = rw c.as_slice.ensures.value at c.in-Some.ensures in
    record {
      left =
          ap (λ xs. opens_of g.Sink.TreeSink.node xs) c.remove.ensures.items
          ∙ sym (unstacked g.Sink.TreeSink.node (g.Sink.TreeSink.node c.args.node.now) c.args.elements.now.items c.in-Some.i here);
      found = sym (newest-open g.Sink.TreeSink.node (g.Sink.TreeSink.node c.args.node.now) c.args.elements.now.items c.in-Some.i here);
      noted = rw c.as_slice-in-Some.ensures.value at c.follow.ensures;
    }
