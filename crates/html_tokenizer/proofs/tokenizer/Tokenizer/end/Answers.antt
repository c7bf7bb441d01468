use Rattle.html_tokenizer.proofs.EndOfInput.Failed.{end-failed}
use Rattle.html_tokenizer.specs.Calls.{refusal_of}
use Rattle.html_tokenizer.proofs.tokenizer.Tokenizer.end.Goals as goal

pub returns-in-Err-clause-gives : goal.returns-in-Err-clause-gives
returns-in-Err-clause-gives g c =
    end-failed g.Sink.TokenSink (refusal_of c.args.self.now) c.args.self.now c.emit_end.new.self c.fail.new.self
    c.in-Err.fault c.fail.result c.in_ok-refuses.ensures c.in-Err.ensures c.fail.ensures.failed c.fail.ensures.fault
