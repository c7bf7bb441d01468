use Rattle.std.proofs.Common.{false, ◌∙◌, sym}
use Rattle.std.proofs.lemmas.Bool.{ne_eqb}
use Rattle.html_tokens.specs.Doctypes.{forced}
use Rattle.html_tokens.specs.declared.states.State.TheVariants as state
use Rattle.html_tokenizer.proofs.Declarations.Doctypes.{before_name-white, before_name-says, before_name-other, doctype-took}
use Rattle.html_tokenizer.proofs.Declarations.Doctypes.{doctype-failed}
use Rattle.html_tokenizer.proofs.tokenizer.Tokenizer.before_doctype_name_state.Goals as goal

pub returns-then-is_white_space : goal.returns-then-is_white_space
returns-then-is_white_space g c =
    let m = g.Sink.TokenSink in
    before_name-white m g.met.Sink.TokenSink.laws c.args.self.now c.args.c c.requires.sound c.requires.at
    (sym c.is_white_space.ensures ∙ c.if-is_white_space.true)

pub returns-in_err-emit_doctype_for : goal.returns-in_err-emit_doctype_for
returns-in_err-emit_doctype_for g c =
    let m = g.Sink.TokenSink in
    doctype-failed m g.met.Sink.TokenSink.laws
    c.args.self.now _ _ state.BeforeDoctypeName c.args.self.now.temporary false (forced c.no_doctype.result) _ _
    c.if-c-eq62.true c.requires.at c.requires.sound c.from_residual.ensures.1 c.in_err-emit_doctype_for.ensures
    (rw c.no_doctype.ensures (before_name-says m g.met.Sink.TokenSink.laws c.args.self.now c.args.self.now.temporary))

pub returns-then-c-eq62 : goal.returns-then-c-eq62
returns-then-c-eq62 g c =
    let m = g.Sink.TokenSink in
    doctype-took m g.met.Sink.TokenSink.laws
    c.args.self.now _ _ state.BeforeDoctypeName c.args.self.now.temporary false (forced c.no_doctype.result)
    c.if-c-eq62.true c.requires.at c.requires.sound c.in_ok-emit_doctype_for.ensures
    (rw c.no_doctype.ensures (before_name-says m g.met.Sink.TokenSink.laws c.args.self.now c.args.self.now.temporary))

pub returns : goal.returns
returns g c =
    let m = g.Sink.TokenSink in
    before_name-other m g.met.Sink.TokenSink.laws c.args.self.now _ c.args.c _ c.clear.new.self c.no_doctype.result
    c.requires.at (sym c.is_white_space.ensures ∙ c.if-is_white_space.false)
    (ne_eqb c.args.c 62 c.if-c-eq62.false) c.clear.ensures c.doctype_name_state.ensures
