use Rattle.std.proofs.Common.{◌∙◌, sym}
use Rattle.html_tokenizer.proofs.Declarations.DoctypeKeywords.{public-found, system-found}
use Rattle.html_tokenizer.proofs.tokenizer.Tokenizer.read_keyword.Goals as goal

pub returns-then-becomes : goal.returns-then-becomes
returns-then-becomes g c =
    let m = g.Sink.TokenSink in
    public-found m g.met.Sink.TokenSink.laws c.args.self.now c.args.c c.requires.at c.requires.sound
    (sym c.becomes.ensures.is ∙ c.if-becomes.true) c.requires.begun

pub returns-then-becomes-2 : goal.returns-then-becomes-2
returns-then-becomes-2 g c =
    let m = g.Sink.TokenSink in
    system-found m g.met.Sink.TokenSink.laws c.args.self.now c.args.c c.requires.at c.requires.sound
    (sym c.becomes-2.ensures.is ∙ c.if-becomes-2.true) c.requires.begun
