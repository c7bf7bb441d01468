use Rattle.std.proofs.Common.{ap}
use Rattle.html_tokens.specs.declared.token.Token.TheVariants.{EOFToken}
use Rattle.html_rules.specs.Stack.{parse_error}
use Rattle.html_rules.specs.Table.{ParseError}
use Rattle.html_tree_builder.specs.States.{state_of}
use Rattle.html_tree_builder.proofs.Acted.{acted-stands, no_answers}
use Rattle.html_tree_builder.proofs.construction.Construction.report_doctype.Goals as goal

pub returns-then-is_error-clause-stands : goal.returns-then-is_error-clause-stands
unfolding parse_error
returns-then-is_error-clause-stands g c = λ stands.
    acted-stands no_answers c.args.self.now c.args.self.now (g.Sink.TreeSink.forest c.args.sink.now)
    (g.Sink.TreeSink.forest c.parse_error.new.self) ParseError EOFToken tt stands
    (ap (λ f. state_of no_answers c.args.self.now f) c.parse_error.ensures)
