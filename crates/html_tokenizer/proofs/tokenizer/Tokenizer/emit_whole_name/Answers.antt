use Rattle.html_tokenizer.proofs.Fronts.References.{whole-emitted, whole-unmade}
use Rattle.html_tokenizer.proofs.tokenizer.Tokenizer.emit_whole_name.Goals as goal

pub returns : goal.returns
returns g c =
    let m = g.Sink.TokenSink in
    λ cs whole. whole-emitted m g.met.Sink.TokenSink.laws c.args.self.now c.emit.new.self cs _ _ c.args.found
    c.emit.result c.requires.at c.requires.sound whole c.in_ok-push_found.ensures.ok c.empty-text.ensures c.emit.ensures

pub returns-in_err-push_found : goal.returns-in_err-push_found
returns-in_err-push_found g c =
    let m = g.Sink.TokenSink in
    λ cs whole. whole-unmade m g.met.Sink.TokenSink.laws c.args.self.now cs _ c.from_residual.result
    c.requires.sound c.in_err-push_found.ensures.fault c.from_residual.ensures.1
