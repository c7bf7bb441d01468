use Rattle.std.proofs.Common.{rules, ◌∙◌, sym}
use Rattle.html_tokenizer.proofs.Declarations.Openings.{comment-opened, doctype-opened}
use Rattle.html_tokenizer.proofs.tokenizer.Tokenizer.markup_declaration_open_state.Goals as goal

pub returns-then-becomes : goal.returns-then-becomes
returns-then-becomes g c =
    let m = g.Sink.TokenSink in
    comment-opened m g.met.Sink.TokenSink.laws c.args.self.now c.args.c c.requires.at c.requires.sound
    (sym c.becomes.ensures.is ∙ c.if-becomes.true)

pub returns-then-becomes-2 : goal.returns-then-becomes-2
returns-then-becomes-2 g c =
    let m = g.Sink.TokenSink in
    doctype-opened m g.met.Sink.TokenSink.laws c.args.self.now c.args.c c.requires.at c.requires.sound
    (sym c.becomes-2.ensures.is ∙ c.if-becomes-2.true)

pub returns-then-becomes-3 : goal.returns-then-becomes-3
returns-then-becomes-3 g c = search rules
