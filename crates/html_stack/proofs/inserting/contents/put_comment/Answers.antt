use Rattle.markup.specs.declared.node_or_text.NodeOrText.TheVariants.{AppendNode}
use Rattle.markup.specs.Forest.{put_child}
use Rattle.html_rules_laws.specs.Soundness.{IsStanding}
use Rattle.html_stack.specs.Inserting.{place_at}
use Rattle.html_stack.proofs.PutNodes.{comment-at}
use Rattle.html_stack.proofs.Results.{either-on}
use Rattle.html_stack.proofs.inserting.contents.put_comment.Goals as goal

pub insert_at-requires-clause-point : goal.insert_at-requires-clause-point
insert_at-requires-clause-point g c = rw c.in_ok-comment.ensures.ok
    (comment-at g.Sink.TreeSink.node c.args.point (g.Sink.TreeSink.forest c.args.sink.now) c.args.text
    c.requires.tree c.requires.point).place

pub insert_at-requires-clause-child : goal.insert_at-requires-clause-child
insert_at-requires-clause-child g c =
    rw (c.in_ok-comment.ensures.ok, c.in_ok-comment.ensures.named)
    (comment-at g.Sink.TreeSink.node c.args.point (g.Sink.TreeSink.forest c.args.sink.now) c.args.text
    c.requires.tree c.requires.point).loose

pub returns-clause-kept : goal.returns-clause-kept
returns-clause-kept g c xs entries is =
    let made = g.Sink.TreeSink.forest c.create_comment.new.self in
    let at = comment-at g.Sink.TreeSink.node c.args.point (g.Sink.TreeSink.forest c.args.sink.now) c.args.text
    c.requires.tree c.requires.point in
    either-on (λ k. IsStanding k xs entries) c.insert_at.result (g.Sink.TreeSink.forest c.insert_at.new.sink)
    (put_child g.Sink.TreeSink.node made (place_at g.Sink.TreeSink.node made c.args.point) (AppendNode c.in_ok-comment.comment)) made
    c.insert_at.ensures.ok c.insert_at.ensures.err
    (rw (c.in_ok-comment.ensures.ok, c.in_ok-comment.ensures.named) (at.put xs entries is))
    (rw c.in_ok-comment.ensures.ok (at.leaves xs entries is))
