use Rattle.std.proofs.Common.{ap}
use Rattle.html_parser_tests.proofs.Ready.{ready-told}
use Rattle.html_parser_tests.proofs.calls.report_error.Goals as goal

pub returns : goal.returns
returns g c = ready-told g.Sink.TreeSink c.args.parser.now.has_failed c.error.new.self.has_failed
    c.args.parser.now.tokenizer c.error.new.self.tokenizer (ap (λ p. p.has_failed) c.error.ensures.same) c.error.ensures.tells c.requires
