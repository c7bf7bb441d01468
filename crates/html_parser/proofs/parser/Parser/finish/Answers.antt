use Rattle.std.proofs.lemmas.Result.{err_from_is_err_and}
use Rattle.html_tokenizer.specs.Calls.{refusal_of}
use Rattle.html_parser.proofs.Parsers.{finished, unfinished}
use Rattle.html_parser.proofs.parser.Parser.finish.Goals as goal

pub returns-in_err-builder : goal.returns-in_err-builder
returns-in_err-builder g c =
    let p = err_from_is_err_and c.from_residual.result c.from_residual.ensures.1 in
    record {
      gives = rw (p.1, p.2, c.if-has_failed.false)
          (unfinished g.Sink.TreeSink (refusal_of c.args.self.tokenizer) c.args.self.tokenizer
          c.args.self.input_buffer.characters _ c.in_err-builder.ensures.gives);
    }

pub returns : goal.returns
returns g c =
    record {
      gives = rw c.if-has_failed.false
          (finished g.Sink.TreeSink (refusal_of c.args.self.tokenizer) c.args.self.tokenizer
          c.args.self.input_buffer.characters c.in_ok-builder.builder c.finish.result c.in_ok-builder.ensures.gives c.finish.ensures);
    }
