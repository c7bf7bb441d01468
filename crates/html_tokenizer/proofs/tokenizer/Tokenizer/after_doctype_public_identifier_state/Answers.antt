use Rattle.std.proofs.Common.{true, ◌∙◌, sym}
use Rattle.std.proofs.lemmas.Bool.{ne_eqb}
use Rattle.html_tokens.specs.declared.states.State.TheVariants as state
use Rattle.html_tokenizer.proofs.Declarations.Doctypes.{between-white, second-double, second-single, between-says}
use Rattle.html_tokenizer.proofs.Declarations.Doctypes.{between-other, doctype-took, doctype-failed}
use Rattle.html_tokenizer.proofs.tokenizer.Tokenizer.after_doctype_public_identifier_state.Goals as goal

pub returns-then-is_white_space : goal.returns-then-is_white_space
returns-then-is_white_space g c =
    let m = g.Sink.TokenSink in
    between-white m g.met.Sink.TokenSink.laws c.args.self.now c.args.c c.requires.sound c.requires.at
    (sym c.is_white_space.ensures ∙ c.if-is_white_space.true)

pub returns-then-c-eq34 : goal.returns-then-c-eq34
returns-then-c-eq34 g c =
    let m = g.Sink.TokenSink in
    rw c.if-c-eq34.true (second-double m g.met.Sink.TokenSink.laws c.args.self.now c.requires.sound c.clear.new.self
    c.requires.at c.clear.ensures)

pub returns-then-c-eq39 : goal.returns-then-c-eq39
returns-then-c-eq39 g c =
    let m = g.Sink.TokenSink in
    rw c.if-c-eq39.true (second-single m g.met.Sink.TokenSink.laws c.args.self.now c.requires.sound
    c.clear-then-c-eq39.new.self c.requires.at c.clear-then-c-eq39.ensures)

pub returns-in_err-emit_doctype : goal.returns-in_err-emit_doctype
returns-in_err-emit_doctype g c =
    let m = g.Sink.TokenSink in
    doctype-failed m g.met.Sink.TokenSink.laws
    c.args.self.now _ _ state.BetweenDoctypePublicAndSystemIdentifiers c.args.self.now.temporary true
    c.args.self.now.doctype _ _ c.if-c-eq62.true c.requires.at c.requires.sound c.from_residual.ensures.1
    c.in_err-emit_doctype.ensures (between-says m g.met.Sink.TokenSink.laws c.args.self.now c.args.self.now.temporary)

pub returns-then-c-eq62 : goal.returns-then-c-eq62
returns-then-c-eq62 g c =
    let m = g.Sink.TokenSink in
    doctype-took m g.met.Sink.TokenSink.laws
    c.args.self.now _ _ state.BetweenDoctypePublicAndSystemIdentifiers c.args.self.now.temporary true
    c.args.self.now.doctype c.if-c-eq62.true c.requires.at c.requires.sound c.in_ok-emit_doctype.ensures
    (between-says m g.met.Sink.TokenSink.laws c.args.self.now c.args.self.now.temporary)

pub returns : goal.returns
returns g c =
    let m = g.Sink.TokenSink in
    between-other m g.met.Sink.TokenSink.laws c.args.self.now _ c.args.c _ _ c.requires.at
    (sym c.is_white_space.ensures ∙ c.if-is_white_space.false) (ne_eqb c.args.c 62 c.if-c-eq62.false)
    (ne_eqb c.args.c 34 c.if-c-eq34.false) (ne_eqb c.args.c 39 c.if-c-eq39.false) c.bogus_doctype_state.ensures
