use Rattle.std.proofs.Common.{true}
use Rattle.std.proofs.lemmas.Bool.{ne_eqb}
use Rattle.html_tokens.specs.declared.states.State.TheVariants as state
use Rattle.html_tokenizer.proofs.Declarations.Doctypes.{bogus-junk, bogus-says, doctype-took, doctype-failed}
use Rattle.html_tokenizer.proofs.tokenizer.Tokenizer.consume_in_bogus_doctype.Goals as goal

pub returns-in_err-emit_doctype : goal.returns-in_err-emit_doctype
returns-in_err-emit_doctype g c =
    let m = g.Sink.TokenSink in
    doctype-failed m g.met.Sink.TokenSink.laws
    c.args.self.now _ _ state.BogusDoctype c.args.self.now.temporary true c.args.self.now.doctype _ _
    c.if-c-eq62.true c.requires.at c.requires.sound c.from_residual.ensures.1 c.in_err-emit_doctype.ensures
    (bogus-says m g.met.Sink.TokenSink.laws c.args.self.now c.args.self.now.temporary)

pub returns-then-c-eq62 : goal.returns-then-c-eq62
returns-then-c-eq62 g c =
    let m = g.Sink.TokenSink in
    doctype-took m g.met.Sink.TokenSink.laws
    c.args.self.now _ _ state.BogusDoctype c.args.self.now.temporary true c.args.self.now.doctype c.if-c-eq62.true
    c.requires.at c.requires.sound c.in_ok-emit_doctype.ensures
    (bogus-says m g.met.Sink.TokenSink.laws c.args.self.now c.args.self.now.temporary)

pub returns : goal.returns
returns g c =
    let m = g.Sink.TokenSink in
    bogus-junk m g.met.Sink.TokenSink.laws c.args.self.now c.args.c c.requires.sound c.requires.at (ne_eqb c.args.c 62 c.if-c-eq62.false)
