use Rattle.html_tokens.specs.Tags.{is_odd_unquoted}
use Rattle.html_tokenizer.specs.Steps.{Erred, owed_for_each}
use Rattle.html_tokenizer.proofs.tokenizer.Tokenizer.report_unquoted_faults.Given as goal

abbrev pub invariant-loop-c : goal.invariant-loop-c
invariant-loop-c g l =
    let m = g.Sink.TokenSink in
    Erred m (owed_for_each is_odd_unquoted l.yielded) l.fn.self l.self
