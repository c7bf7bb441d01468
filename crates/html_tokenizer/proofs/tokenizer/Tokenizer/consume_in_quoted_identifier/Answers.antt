use Rattle.std.proofs.Common.{false, [], refl}
use Rattle.std.proofs.lemmas.Bool.{ne_eqb}
use Rattle.html_tokens.specs.Doctypes.{forced}
use Rattle.html_tokenizer.specs.Rest.{quoted_state, with_identifier}
use Rattle.html_tokenizer.proofs.Declarations.Doctypes.{quoted-push, quoted-says, quoted-closed, doctype-took, doctype-failed}
use Rattle.html_tokenizer.proofs.tokenizer.Tokenizer.consume_in_quoted_identifier.Goals as goal

pub returns-then-c-quote : goal.returns-then-c-quote
returns-then-c-quote g c =
    let m = g.Sink.TokenSink in
    rw (c.if-c-quote.true, c.finish_identifier.ensures)
    (quoted-closed m g.met.Sink.TokenSink.laws c.args.self.now c.requires.sound c.args.quote c.requires.quote
    c.args.kind [] (with_identifier c.args.kind c.args.self.now.doctype c.args.self.now.temporary) c.requires.at refl refl)

pub returns-in_err-emit_doctype_for : goal.returns-in_err-emit_doctype_for
returns-in_err-emit_doctype_for g c =
    let m = g.Sink.TokenSink in
    doctype-failed m g.met.Sink.TokenSink.laws
    c.args.self.now _ _ (quoted_state c.args.quote c.args.kind) [] false
    (forced (with_identifier c.args.kind c.args.self.now.doctype c.args.self.now.temporary)) _ _
    c.if-c-eq62.true c.requires.at c.requires.sound c.from_residual.ensures.1
    (rw c.finish_identifier-then-c-eq62.ensures at c.in_err-emit_doctype_for.ensures)
    (quoted-says m g.met.Sink.TokenSink.laws c.args.quote c.requires.quote c.args.kind c.args.self.now [])

pub returns-then-c-eq62 : goal.returns-then-c-eq62
returns-then-c-eq62 g c =
    let m = g.Sink.TokenSink in
    doctype-took m g.met.Sink.TokenSink.laws
    c.args.self.now _ _ (quoted_state c.args.quote c.args.kind) [] false
    (forced (with_identifier c.args.kind c.args.self.now.doctype c.args.self.now.temporary)) c.if-c-eq62.true
    c.requires.at c.requires.sound
    (rw c.finish_identifier-then-c-eq62.ensures at c.in_ok-emit_doctype_for.ensures)
    (quoted-says m g.met.Sink.TokenSink.laws c.args.quote c.requires.quote c.args.kind c.args.self.now [])

pub returns : goal.returns
returns g c =
    let m = g.Sink.TokenSink in
    quoted-push m g.met.Sink.TokenSink.laws c.args.self.now c.args.c c.requires.sound c.args.quote c.requires.quote
    c.args.kind c.push.new.self c.requires.at (ne_eqb c.args.c c.args.quote c.if-c-quote.false)
    (ne_eqb c.args.c 62 c.if-c-eq62.false) (rw c.shown.ensures at c.in_ok-push.ensures.ok)
