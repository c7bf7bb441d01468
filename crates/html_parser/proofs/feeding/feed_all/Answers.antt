use Rattle.std.proofs.lemmas.Result.{err_from_is_err_and}
use Rattle.html_parser.proofs.Feeds.{feeding-done, feeding-failed, feeding-fed, feeding-starts, hinted-shorter, paused-shorter}
use Rattle.html_parser.proofs.feeding.feed_all.Goals as goal
use Rattle.html_parser.proofs.feeding.feed_all.Goals.{in-Script, in-EncodingIndicator}

pub loop-init : goal.loop-init
loop-init g c = (feeding-starts g.Sink.TokenSink c.args.tokenizer.now c.args.input.now, c.requires.ready)

pub returns-in_err-feed-clause-gives : goal.returns-in_err-feed-clause-gives
returns-in_err-feed-clause-gives g c =
    let p = err_from_is_err_and c.from_residual.result c.from_residual.ensures.1 in
    rw (p.1, p.2) (feeding-failed g.Sink.TokenSink _ _ c.loop.tokenizer c.feed.new.self _ c.loop.input
    c.feed.new.input _ c.loop.invariant.0 c.in_err-feed.ensures.gives)

pub returns-in-Done-clause-gives : goal.returns-in-Done-clause-gives
returns-in-Done-clause-gives g c =
    let gives = rw c.in-Done.is at c.in_ok-feed.ensures.gives in
    feeding-done g.Sink.TokenSink _ _ c.loop.tokenizer c.feed.new.self _ c.loop.input c.feed.new.input c.loop.invariant.0 gives

pub loop-preserved-after-branch-2 : goal.loop-preserved-after-branch-2
loop-preserved-after-branch-2 g c = (
  feeding-fed g.Sink.TokenSink _ _ c.loop.tokenizer c.feed.new.self _ c.loop.input c.feed.new.input
      c.in_ok-feed.field-0 c.loop.invariant.0 c.in_ok-feed.ensures.gives,
  c.in_ok-feed.ensures.ready,
)

pub loop-preserved-after-branch-2-2 : goal.loop-preserved-after-branch-2-2
loop-preserved-after-branch-2-2 g c = (
  feeding-fed g.Sink.TokenSink _ _ c.loop.tokenizer c.feed.new.self _ c.loop.input c.feed.new.input
      c.in_ok-feed.field-0 c.loop.invariant.0 c.in_ok-feed.ensures.gives,
  c.in_ok-feed.ensures.ready,
)

pub loop-preserved-after-branch-2-3 : goal.loop-preserved-after-branch-2-3
loop-preserved-after-branch-2-3 g c = (
  feeding-fed g.Sink.TokenSink _ _ c.loop.tokenizer c.feed.new.self _ c.loop.input c.feed.new.input
      c.in_ok-feed.field-0 c.loop.invariant.0 c.in_ok-feed.ensures.gives,
  c.in_ok-feed.ensures.ready,
)

pub loop-smaller-after-branch-2-2 : goal.loop-smaller-after-branch-2-2
loop-smaller-after-branch-2-2 g c =
    elim c.match-branch-2.branch [
      | in-Script w ↦ (let gives = rw w.in-Script.is at c.in_ok-feed.ensures.gives in
          paused-shorter g.Sink.TokenSink c.loop.tokenizer c.feed.new.self c.loop.input c.feed.new.input _ gives)
      | in-EncodingIndicator w ↦
          (let gives = rw w.in-EncodingIndicator.is at c.in_ok-feed.ensures.gives in
          hinted-shorter g.Sink.TokenSink c.loop.tokenizer c.feed.new.self c.loop.input c.feed.new.input _ gives)
    ]

pub loop-smaller-after-branch-2-3 : goal.loop-smaller-after-branch-2-3
loop-smaller-after-branch-2-3 g c =
    elim c.match-branch-2.branch [
      | in-Script w ↦ (let gives = rw w.in-Script.is at c.in_ok-feed.ensures.gives in
          paused-shorter g.Sink.TokenSink c.loop.tokenizer c.feed.new.self c.loop.input c.feed.new.input _ gives)
      | in-EncodingIndicator w ↦
          (let gives = rw w.in-EncodingIndicator.is at c.in_ok-feed.ensures.gives in
          hinted-shorter g.Sink.TokenSink c.loop.tokenizer c.feed.new.self c.loop.input c.feed.new.input _ gives)
    ]
