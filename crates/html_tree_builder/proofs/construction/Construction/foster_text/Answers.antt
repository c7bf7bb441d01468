use Rattle.std.proofs.Common.{◌∙◌, ap, true, false}
use Rattle.std.specs.Str.{chars}
use Rattle.html_tokens.specs.declared.token.Token.TheVariants.{EOFToken}
use Rattle.html_rules.specs.Actions.{append_in_body, set_foster_parenting}
use Rattle.html_rules.specs.Stack.{parse_error}
use Rattle.html_rules.specs.Table.{EnableFosterParenting, ParseError}
use Rattle.html_tree_builder.specs.States.{state_of}
use Rattle.html_tree_builder.proofs.Acted.{acted-stands, no_answers}
use Rattle.html_tree_builder.proofs.construction.Construction.foster_text.Goals as goal

pub append_in_body-requires : goal.append_in_body-requires
unfolding parse_error
append_in_body-requires g c =
    let f = g.Sink.TreeSink.forest c.parse_error.new.self in
    let told = acted-stands no_answers c.args.self.now c.args.self.now (g.Sink.TreeSink.forest c.args.sink.now) f
    ParseError EOFToken tt c.requires.stands (ap (λ f. state_of no_answers c.args.self.now f) c.parse_error.ensures) in
    record {
      stands = acted-stands no_answers c.args.self.now c.set_foster_parenting.new.self f f
          EnableFosterParenting EOFToken tt told (c.set_foster_parenting.ensures no_answers f);
    }

pub returns-clause-ok : goal.returns-clause-ok
unfolding parse_error
returns-clause-ok g c = λ a.
    c.set_foster_parenting-2.ensures a (g.Sink.TreeSink.forest c.append_in_body.new.sink)
    ∙ ap (set_foster_parenting false)
    (c.in_ok-append_in_body.ensures.ok a
    ∙ ap (append_in_body (chars c.args.text.now))
    (c.set_foster_parenting.ensures a (g.Sink.TreeSink.forest c.parse_error.new.self)
    ∙ ap (λ f. set_foster_parenting true (state_of a c.args.self.now f)) c.parse_error.ensures))
