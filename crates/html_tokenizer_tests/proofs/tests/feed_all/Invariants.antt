use Rattle.html_tokenizer.specs.Calls.{IsReadyIf, refusal}
use Rattle.html_tokenizer_tests.proofs.tests.feed_all.Given as goal

abbrev pub invariant-pauses : goal.invariant-pauses
invariant-pauses g l =
    let m = g.S.TokenSink in
    IsReadyIf m (refusal l.tokenizer.stream) l.tokenizer
