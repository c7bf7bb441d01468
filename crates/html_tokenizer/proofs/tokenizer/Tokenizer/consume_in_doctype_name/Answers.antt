use Rattle.std.proofs.Common.{false, ◌∙◌, [], Some, refl, sym}
use Rattle.std.proofs.lemmas.Bool.{ne_eqb}
use Rattle.html_tokens.specs.Doctypes.{no_doctype}
use Rattle.html_tokens.specs.declared.states.State.TheVariants as state
use Rattle.html_tokenizer.proofs.Declarations.Doctypes.{name-push, name-white, name-says, doctype-took, doctype-failed}
use Rattle.html_tokenizer.proofs.tokenizer.Tokenizer.consume_in_doctype_name.Goals as goal

pub returns-then-is_white_space : goal.returns-then-is_white_space
returns-then-is_white_space g c =
    let m = g.Sink.TokenSink in
    rw c.finish_name.ensures (name-white m g.met.Sink.TokenSink.laws c.args.self.now c.args.c c.requires.sound
    [] c.new.result (record no_doctype { name = Some c.args.self.now.temporary }) c.requires.at
    (sym c.is_white_space.ensures ∙ c.if-is_white_space.true) refl c.new.ensures refl)

pub returns-in_err-emit_doctype : goal.returns-in_err-emit_doctype
returns-in_err-emit_doctype g c =
    let m = g.Sink.TokenSink in
    doctype-failed m g.met.Sink.TokenSink.laws
    c.args.self.now _ _ state.DoctypeName [] false (record no_doctype { name = Some c.args.self.now.temporary }) _ _
    c.if-c-eq62.true c.requires.at c.requires.sound c.from_residual.ensures.1
    (rw c.finish_name-then-c-eq62.ensures at c.in_err-emit_doctype.ensures) (name-says m g.met.Sink.TokenSink.laws c.args.self.now [])

pub returns-then-c-eq62 : goal.returns-then-c-eq62
returns-then-c-eq62 g c =
    let m = g.Sink.TokenSink in
    doctype-took m g.met.Sink.TokenSink.laws
    c.args.self.now _ _ state.DoctypeName [] false (record no_doctype { name = Some c.args.self.now.temporary })
    c.if-c-eq62.true c.requires.at c.requires.sound
    (rw c.finish_name-then-c-eq62.ensures at c.in_ok-emit_doctype.ensures) (name-says m g.met.Sink.TokenSink.laws c.args.self.now [])

pub returns : goal.returns
returns g c =
    let m = g.Sink.TokenSink in
    name-push m g.met.Sink.TokenSink.laws c.args.self.now c.args.c c.requires.sound c.push.new.self c.requires.at
    (sym c.is_white_space.ensures ∙ c.if-is_white_space.false) (ne_eqb c.args.c 62 c.if-c-eq62.false)
    (rw c.lowered.ensures at c.in_ok-push.ensures.ok)
