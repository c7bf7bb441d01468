use Rattle.std.proofs.Common.{false}
use Rattle.std.proofs.lemmas.Bool.{ne_eqb}
use Rattle.html_tokens.specs.declared.states.State.TheVariants as state
use Rattle.html_tokenizer.proofs.Declarations.DoctypeKeywords.{keyword-says, keyword-white}
use Rattle.html_tokenizer.proofs.Declarations.Doctypes.{doctype-took, doctype-failed}
use Rattle.html_tokenizer.proofs.tokenizer.Tokenizer.end_keyword.Goals as goal

pub returns-in_err-emit_doctype : goal.returns-in_err-emit_doctype
returns-in_err-emit_doctype g c =
    let m = g.Sink.TokenSink in
    doctype-failed m g.met.Sink.TokenSink.laws
    c.args.self.now _ _ state.AfterDoctypeName c.args.self.now.temporary false c.args.self.now.doctype _ _
    c.if-c-eq62.true c.requires.at c.requires.sound c.from_residual.ensures.1 c.in_err-emit_doctype.ensures
    (keyword-says m g.met.Sink.TokenSink.laws c.args.self.now c.args.c c.requires.part c.requires.ended)

pub returns-then-c-eq62 : goal.returns-then-c-eq62
returns-then-c-eq62 g c =
    let m = g.Sink.TokenSink in
    doctype-took m g.met.Sink.TokenSink.laws
    c.args.self.now _ _ state.AfterDoctypeName c.args.self.now.temporary false c.args.self.now.doctype
    c.if-c-eq62.true c.requires.at c.requires.sound c.in_ok-emit_doctype.ensures
    (keyword-says m g.met.Sink.TokenSink.laws c.args.self.now c.args.c c.requires.part c.requires.ended)

pub returns : goal.returns
returns g c =
    let m = g.Sink.TokenSink in
    keyword-white m g.met.Sink.TokenSink.laws c.args.self.now c.args.c c.requires.at c.requires.sound
    c.requires.part c.requires.ended (ne_eqb c.args.c 62 c.if-c-eq62.false)
