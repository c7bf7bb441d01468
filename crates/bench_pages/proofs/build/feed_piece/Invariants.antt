use Rattle.html_tokenizer.specs.Calls.{IsReadyIf, refusal}
use Rattle.bench_pages.proofs.build.feed_piece.Given as goal

abbrev pub invariant-pauses : goal.invariant-pauses
invariant-pauses g l =
    let m = g.S.TokenSink in
    IsReadyIf m (refusal l.tokenizer.stream) l.tokenizer
