use Rattle.html_tokenizer.specs.Calls.{IsReadyIf, refusal}
use Rattle.conformance.proofs.tokens.feed_pieces.Given as goal

abbrev pub invariant-loop-piece : goal.invariant-loop-piece
invariant-loop-piece g l =
    let m = g.S.TokenSink in
    IsReadyIf m (refusal l.tokenizer.stream) l.tokenizer
