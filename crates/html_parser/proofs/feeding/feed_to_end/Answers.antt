use Rattle.std.proofs.lemmas.Result.{err_from_is_err_and}
use Rattle.html_parser.proofs.Feeds.{end-answered, feed-refused}
use Rattle.html_parser.proofs.feeding.feed_to_end.Goals as goal

pub returns-in_err-feed_all : goal.returns-in_err-feed_all
returns-in_err-feed_all g c =
    let p = err_from_is_err_and c.from_residual.result c.from_residual.ensures.1 in
    record {
      gives = rw (p.1, p.2) (feed-refused g.Sink.TokenSink _ c.args.tokenizer.now c.feed_all.new.tokenizer
          c.args.input.now c.feed_all.new.input _ c.in_err-feed_all.ensures.gives);
    }

pub returns : goal.returns
returns g c = record {
  gives = end-answered g.Sink.TokenSink _ c.args.tokenizer.now c.feed_all.new.tokenizer
      c.end.new.self c.args.input.now c.feed_all.new.input c.end.result c.in_ok-feed_all.ensures.gives c.end.ensures.gives;
}
