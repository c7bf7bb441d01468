use Rattle.std.proofs.lemmas.Result.{err_from_is_err_and}
use Rattle.html_parser.proofs.Parsers.{one-given, one-refused}
use Rattle.html_parser.proofs.parser.Parser.one.Goals as goal

pub returns-in_err-process : goal.returns-in_err-process
returns-in_err-process g c =
    let p = err_from_is_err_and c.from_residual.result c.from_residual.ensures.1 in
    record {
      gives = rw (p.1, p.2)
          (one-refused g.Sink.TreeSink _ _ c.args.self.tokenizer c.process.new.self.tokenizer
          c.args.self.input_buffer c.process.new.self.input_buffer _ _ c.in_err-process.ensures.gives);
    }

pub returns : goal.returns
returns g c =
    record {
      gives = one-given g.Sink.TreeSink _ _ c.args.self.tokenizer c.process.new.self.tokenizer
          c.args.self.input_buffer c.process.new.self.input_buffer _ _ c.in_ok-process.ensures.gives c.finish.ensures.gives;
    }
