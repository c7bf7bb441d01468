use Rattle.std.proofs.Common.{refl}
use Rattle.html_tokenizer.proofs.Feeds.Pieces.{moved-run}
use Rattle.html_tokenizer.proofs.Fronts.Runs.{run-at, run-comes_at, run-cut}
use Rattle.html_tokenizer.proofs.Fronts.Moves.{heeding}
use Rattle.html_tokenizer.proofs.tokenizer.Tokenizer.move_by_run.Goals as goal

pub skip-requires : goal.skip-requires
skip-requires g c = run-cut c.as_str.result.now _ c.split.result.0.now c.split.result.1.now c.as_str.utf8
    c.as_str.ensures c.split.ensures.whole c.split.ensures.cut

pub consume_run-requires-clause-run : goal.consume_run-requires-clause-run
consume_run-requires-clause-run g c =
    let m = g.Sink.TokenSink in
    run-at (heeding m c.args.self.now) c.args.stops c.split.result.0.now c.in_ok-made.made _
    (record { are = c.requires.stops.are; breaks = c.requires.stops.breaks })
    c.split.ensures.cut c.in_ok-made.ensures.ok c.is_empty.ensures c.if-is_empty.false c.split.ensures.lacking

pub returns : goal.returns
returns g c =
    let m = g.Sink.TokenSink in
    rw c.requires.goes_on (moved-run m c.args.self.now (heeding m c.args.self.now) c.consume_run.new.self
    c.args.input.now c.skip.new.self c.in_ok-made.made c.consume_run.result refl
    (run-comes_at c.args.self.now c.args.stops c.as_str.result.now _ c.split.result.0.now c.split.result.1.now
    c.in_ok-made.made _ c.args.input.now c.skip.new.self c.requires.stops c.requires.unmarked c.as_str.ensures
    c.split.ensures.whole c.split.ensures.cut c.in_ok-made.ensures.ok c.is_empty.ensures c.if-is_empty.false
    c.split.ensures.lacking c.skip.ensures)
    c.consume_run.ensures)
