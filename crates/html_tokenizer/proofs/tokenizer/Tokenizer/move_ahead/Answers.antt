use Rattle.std.proofs.Common.{refl}
use Rattle.html_tokenizer.proofs.Feeds.Pieces.{moved-plain}
use Rattle.html_tokenizer.proofs.Fronts.Ahead.{comes-ahead}
use Rattle.html_tokenizer.proofs.Fronts.Moves.{heeding}
use Rattle.html_tokenizer.proofs.Fronts.Runs.{run-cut}
use Rattle.html_tokenizer.proofs.tokenizer.Tokenizer.move_ahead.Goals as goal

pub skip-requires : goal.skip-requires
skip-requires g c = run-cut c.as_str.result.now _ c.in-Some.run'.now c.in-Some.ensures.front.rest c.as_str.utf8
    c.as_str.ensures c.in-Some.ensures.front.whole c.in-Some.ensures.utf8

pub consume_ahead-requires-clause-run : goal.consume_ahead-requires-clause-run
consume_ahead-requires-clause-run g c =
    (comes-ahead c.args.self.now c.in-Some.kind c.as_str.result.now _ c.in-Some.run'.now c.in_ok-copied.copied
    c.args.input.now c.skip.new.self c.in-Some.ensures.reads c.as_str.ensures c.in-Some.ensures.front
    c.in-Some.ensures.utf8 c.in-Some.ensures.filled c.in_ok-copied.ensures.ok c.in-Some.ensures.lacking c.skip.ensures).run

pub returns : goal.returns
returns g c =
    let m = g.Sink.TokenSink in
    let old = c.args.self.now in
    let comes = comes-ahead old c.in-Some.kind c.as_str.result.now _ c.in-Some.run'.now c.in_ok-copied.copied
    c.args.input.now c.skip.new.self c.in-Some.ensures.reads c.as_str.ensures c.in-Some.ensures.front
    c.in-Some.ensures.utf8 c.in-Some.ensures.filled c.in_ok-copied.ensures.ok c.in-Some.ensures.lacking c.skip.ensures in
    rw c.requires.goes_on (moved-plain m old (heeding m old) c.consume_ahead.new.self c.args.input.now
    c.skip.new.self c.in_ok-copied.copied c.consume_ahead.result refl refl c.in-Some.ensures.reads.plain
    comes.takes comes.front comes.run.filled c.consume_ahead.ensures)
