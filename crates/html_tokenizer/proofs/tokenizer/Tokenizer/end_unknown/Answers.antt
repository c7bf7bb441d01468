use Rattle.html_tokenizer.proofs.HeldReferences.Ambiguous.{unknown-closes}
use Rattle.html_tokenizer.proofs.tokenizer.Tokenizer.end_unknown.Goals as goal

pub returns : goal.returns
returns g c =
    let m = g.Sink.TokenSink in
    unknown-closes m c.args.self.now c.end_state.new.self _ c.requires.fresh c.requires.fits c.end_state.ensures
