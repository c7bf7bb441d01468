use Rattle.html_tokenizer.specs.Calls.{IsReadyIf, refusal}
use Rattle.html_tokenizer_tests.proofs.tests.pauses.are_paused.Given as goal

abbrev pub invariant-loop-pause : goal.invariant-loop-pause
invariant-loop-pause g l =
    let m = g.S.TokenSink in
    IsReadyIf m (refusal l.tokenizer.stream) l.tokenizer
