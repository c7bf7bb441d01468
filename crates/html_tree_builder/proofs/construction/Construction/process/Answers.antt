use Rattle.std.proofs.Common.{◌≡◌, ◌∙◌, ◌+◌, ap, arith, rules, subst, sym}
use Rattle.std.specs.Prelude.{IfOk, OnOk}
use Rattle.html_rules.specs.Rules.{Settled}
use Rattle.html_rules.specs.Stack.{parse_error}
use Rattle.html_rules.specs.Step.{taken}
use Rattle.html_tokens.specs.Sink.{numbered}
use Rattle.html_tree_builder.specs.States.{built}
use Rattle.html_tree_builder.proofs.Acted.{its_answers}
use Rattle.html_tree_builder.proofs.DoctypesTaken.{doctype-passed, doctype-settled}
use Rattle.html_tree_builder.proofs.TextsTaken.{characters-continue, unlined-ended, unlined-state, usable-stands}
use Rattle.html_tree_builder.proofs.construction.Construction.process.Goals as goal

pub process_doctype-requires : goal.process_doctype-requires
process_doctype-requires g c =
    let a = its_answers g.Sink.TreeSink in
    let f = g.Sink.TreeSink.forest c.args.sink.now in
    let s = built g.Sink.TreeSink c.args.self.now f in
    let u = built g.Sink.TreeSink c.set_ignore_lf.new.self f in
    let same = c.set_ignore_lf.ensures a f in
    record {
      stands = usable-stands a c.set_ignore_lf.new.self f (unlined-state s u same c.requires.usable)
          (unlined-ended s u same c.requires.going);
    }

pub returns-in_ok-process_characters-in-CharacterTokens-clause-reply :
    goal.returns-in_ok-process_characters-in-CharacterTokens-clause-reply
returns-in_ok-process_characters-in-CharacterTokens-clause-reply g c =
    rw c.in-CharacterTokens.is
    (characters-continue c.in-CharacterTokens.text (built g.Sink.TreeSink c.args.self.now (g.Sink.TreeSink.forest c.args.sink.now)))

pub returns-in-ParseError-clause-state : goal.returns-in-ParseError-clause-state
unfolding parse_error taken
returns-in-ParseError-clause-state g c = search rules

pub returns-then-ends_table_text-clause-state : goal.returns-then-ends_table_text-clause-state
returns-then-ends_table_text-clause-state g c =
    let s = built g.Sink.TreeSink c.args.self.now (g.Sink.TreeSink.forest c.args.sink.now) in
    let r = built g.Sink.TreeSink c.process_nameless.new.self (g.Sink.TreeSink.forest c.process_nameless.new.sink) in
    rw c.in-DoctypeToken.is (subst (λ (x : Settled). OnOk c.process_nameless.result (r ≡ x.state))
    (doctype-settled _ s (sym c.ends_table_text.ensures ∙ c.if-ends_table_text.true)) c.process_nameless.ensures.state)

pub returns-then-ends_table_text-clause-reply : goal.returns-then-ends_table_text-clause-reply
returns-then-ends_table_text-clause-reply g c =
    let s = built g.Sink.TreeSink c.args.self.now (g.Sink.TreeSink.forest c.args.sink.now) in
    rw c.in-DoctypeToken.is (subst (λ (x : Settled). IfOk c.process_nameless.result
    (λ reply. numbered g.Sink.TreeSink.node reply ≡ x.reply))
    (doctype-settled _ s (sym c.ends_table_text.ensures ∙ c.if-ends_table_text.true)) c.process_nameless.ensures.reply)

pub returns-then-ends_table_text-clause-counted : goal.returns-then-ends_table_text-clause-counted
returns-then-ends_table_text-clause-counted g c =
    let s = built g.Sink.TreeSink c.args.self.now (g.Sink.TreeSink.forest c.args.sink.now) in
    rw c.in-DoctypeToken.is (subst (λ (x : Settled). OnOk c.process_nameless.result
    (c.process_nameless.new.turns.count ≡ c.args.turns.now.count + x.turns))
    (doctype-settled _ s (sym c.ends_table_text.ensures ∙ c.if-ends_table_text.true)) c.process_nameless.ensures.counted)

pub returns-in_ok-process_doctype-in-DoctypeToken-clause-state :
    goal.returns-in_ok-process_doctype-in-DoctypeToken-clause-state
returns-in_ok-process_doctype-in-DoctypeToken-clause-state g c =
    let a = its_answers g.Sink.TreeSink in
    let f = g.Sink.TreeSink.forest c.args.sink.now in
    rw c.in-DoctypeToken.is (c.in_ok-process_doctype-in-DoctypeToken.ensures.ok a ∙ ap (λ x. x.state)
    (doctype-passed _ (built g.Sink.TreeSink c.args.self.now f) (built g.Sink.TreeSink c.set_ignore_lf.new.self f)
    (c.set_ignore_lf.ensures a f) (sym c.ends_table_text.ensures ∙ c.if-ends_table_text.false)))

pub returns-in_ok-process_doctype-in-DoctypeToken-clause-reply :
    goal.returns-in_ok-process_doctype-in-DoctypeToken-clause-reply
returns-in_ok-process_doctype-in-DoctypeToken-clause-reply g c =
    let a = its_answers g.Sink.TreeSink in
    let f = g.Sink.TreeSink.forest c.args.sink.now in
    rw c.in-DoctypeToken.is (ap (λ x. x.reply)
    (doctype-passed c.in-DoctypeToken.doctype (built g.Sink.TreeSink c.args.self.now f) (built g.Sink.TreeSink c.set_ignore_lf.new.self f)
    (c.set_ignore_lf.ensures a f) (sym c.ends_table_text.ensures ∙ c.if-ends_table_text.false)))

pub returns-in_ok-process_doctype-in-DoctypeToken-clause-counted :
    goal.returns-in_ok-process_doctype-in-DoctypeToken-clause-counted
returns-in_ok-process_doctype-in-DoctypeToken-clause-counted g c =
    let a = its_answers g.Sink.TreeSink in
    let f = g.Sink.TreeSink.forest c.args.sink.now in
    rw c.in-DoctypeToken.is (subst (λ n. c.args.turns.now.count ≡ c.args.turns.now.count + n)
    (ap (λ x. x.turns)
    (doctype-passed c.in-DoctypeToken.doctype (built g.Sink.TreeSink c.args.self.now f) (built g.Sink.TreeSink c.set_ignore_lf.new.self f)
    (c.set_ignore_lf.ensures a f) (sym c.ends_table_text.ensures ∙ c.if-ends_table_text.false)))
    (omega arith))
