use Rattle.html_tokenizer.proofs.HeldReferences.Holding.{took-held}
use Rattle.html_tokenizer.proofs.tokenizer.Tokenizer.hold_more.Goals as goal

pub returns : goal.returns
returns g c =
    let m = g.Sink.TokenSink in
    took-held m c.args.self.now c.args.c c.args.held _ c.requires.fits c.requires.sound c.requires.held
    c.requires.front c.in_ok-push.ensures.ok
