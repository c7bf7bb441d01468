use Rattle.html_parser.proofs.ErrorsTold.{tells-error}
use Rattle.html_parser.proofs.parser.Parser.error.Goals as goal

pub returns-clause-tells : goal.returns-clause-tells
returns-clause-tells g c = tells-error g.Sink.TreeSink c.args.self.now.tokenizer c.parse_error.new.self c.parse_error.ensures
