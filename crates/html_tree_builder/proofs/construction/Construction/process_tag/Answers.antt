use Rattle.std.proofs.Common.{◌+◌, ◌≤◌, subst}
use Rattle.html_tokens.specs.declared.token.Token.TheVariants.{TagToken}
use Rattle.html_rules_laws.proofs.Progress.TokensTaken.{is-settled, may-come}
use Rattle.html_tree_builder.specs.States.{built}
use Rattle.html_tree_builder.specs.Turns.{most_turns}
use Rattle.html_tree_builder.proofs.Acted.{its_answers}
use Rattle.html_tree_builder.proofs.Settles.{at-most}
use Rattle.html_tree_builder.proofs.TextsTaken.{unlined-ended, unlined-open, unlined-state, usable-stands}
use Rattle.html_tree_builder.proofs.construction.Construction.process_tag.Goals as goal

pub settle_tag-requires-clause-stands : goal.settle_tag-requires-clause-stands
settle_tag-requires-clause-stands g c =
    let a = its_answers g.Sink.TreeSink in
    let f = g.Sink.TreeSink.forest c.args.sink.now in
    let s = built g.Sink.TreeSink c.args.self.now f in
    let u = built g.Sink.TreeSink c.set_ignore_lf.new.self f in
    let same = c.set_ignore_lf.ensures a f in
    usable-stands a c.set_ignore_lf.new.self f (unlined-state s u same c.requires.usable) (unlined-ended s u same c.requires.going)

pub settle_tag-requires-clause-may : goal.settle_tag-requires-clause-may
settle_tag-requires-clause-may g c =
    let a = its_answers g.Sink.TreeSink in
    let f = g.Sink.TreeSink.forest c.args.sink.now in
    let s = built g.Sink.TreeSink c.args.self.now f in
    let u = built g.Sink.TreeSink c.set_ignore_lf.new.self f in
    let same = c.set_ignore_lf.ensures a f in
    may-come (TagToken c.args.tag.now) u (unlined-state s u same c.requires.usable) (unlined-ended s u same c.requires.going)

pub settle_tag-requires-clause-settled : goal.settle_tag-requires-clause-settled
settle_tag-requires-clause-settled g c =
    let a = its_answers g.Sink.TreeSink in
    let f = g.Sink.TreeSink.forest c.args.sink.now in
    let s = built g.Sink.TreeSink c.args.self.now f in
    let u = built g.Sink.TreeSink c.set_ignore_lf.new.self f in
    let same = c.set_ignore_lf.ensures a f in
    is-settled (TagToken c.args.tag.now) u (unlined-state s u same c.requires.usable) (unlined-ended s u same c.requires.going)

pub returns-clause-most : goal.returns-clause-most
returns-clause-most g c =
    let a = its_answers g.Sink.TreeSink in
    let f = g.Sink.TreeSink.forest c.args.sink.now in
    let u = built g.Sink.TreeSink c.set_ignore_lf.new.self f in
    subst (λ open_elems. c.settle_tag.new.turns.count ≤ c.args.turns.now.count + most_turns open_elems)
    (unlined-open (built g.Sink.TreeSink c.args.self.now f) u (c.set_ignore_lf.ensures a f))
    (at-most (TagToken c.args.tag.now) u c.args.turns.now.count c.settle_tag.new.turns.count c.settle_tag.ensures.most)
