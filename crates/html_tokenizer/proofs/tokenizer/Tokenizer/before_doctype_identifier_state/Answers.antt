use Rattle.std.proofs.Common.{◌∙◌, sym}
use Rattle.std.proofs.lemmas.Bool.{ne_eqb}
use Rattle.html_tokenizer.proofs.Declarations.Doctypes.{before_identifier-white, double-opened, single-opened, before_identifier-other}
use Rattle.html_tokenizer.proofs.tokenizer.Tokenizer.before_doctype_identifier_state.Goals as goal

pub returns-then-is_white_space : goal.returns-then-is_white_space
returns-then-is_white_space g c =
    let m = g.Sink.TokenSink in
    before_identifier-white m g.met.Sink.TokenSink.laws c.args.self.now c.args.c c.requires.sound c.args.kind
    c.requires.at (sym c.is_white_space.ensures ∙ c.if-is_white_space.true)

pub returns-then-c-eq34 : goal.returns-then-c-eq34
returns-then-c-eq34 g c =
    let m = g.Sink.TokenSink in
    rw c.if-c-eq34.true (double-opened m g.met.Sink.TokenSink.laws c.args.self.now c.requires.sound c.args.kind
    c.clear.new.self c.requires.at c.clear.ensures)

pub returns-then-c-eq39 : goal.returns-then-c-eq39
returns-then-c-eq39 g c =
    let m = g.Sink.TokenSink in
    rw c.if-c-eq39.true (single-opened m g.met.Sink.TokenSink.laws c.args.self.now c.requires.sound c.args.kind
    c.clear-then-c-eq39.new.self c.requires.at c.clear-then-c-eq39.ensures)

pub returns : goal.returns
returns g c =
    let m = g.Sink.TokenSink in
    before_identifier-other m g.met.Sink.TokenSink.laws c.args.self.now _ c.args.c _ _ c.args.kind c.requires.at
    (sym c.is_white_space.ensures ∙ c.if-is_white_space.false) (ne_eqb c.args.c 34 c.if-c-eq34.false)
    (ne_eqb c.args.c 39 c.if-c-eq39.false) c.bogus_doctype_state.ensures
