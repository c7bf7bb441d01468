use Rattle.std.proofs.Common.{◌∙◌, sym}
use Rattle.html_tokenizer.proofs.Declarations.Doctypes.{after_system-white, after_system-other}
use Rattle.html_tokenizer.proofs.tokenizer.Tokenizer.after_doctype_system_identifier_state.Goals as goal

pub returns-then-is_white_space : goal.returns-then-is_white_space
returns-then-is_white_space g c =
    let m = g.Sink.TokenSink in
    after_system-white m g.met.Sink.TokenSink.laws c.args.self.now c.args.c c.requires.sound c.requires.at
    (sym c.is_white_space.ensures ∙ c.if-is_white_space.true)

pub returns : goal.returns
returns g c =
    let m = g.Sink.TokenSink in
    after_system-other m g.met.Sink.TokenSink.laws c.args.self.now _ c.args.c _ c.requires.at
    (sym c.is_white_space.ensures ∙ c.if-is_white_space.false) c.bogus_doctype_state.ensures
