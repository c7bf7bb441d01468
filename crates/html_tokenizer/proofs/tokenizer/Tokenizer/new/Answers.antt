use Rattle.std.proofs.Common.{ap, refl}
use Rattle.html_tokenizer_parts.specs.Words.{FittingEnd}
use Rattle.html_tokenizer.proofs.Text.NothingHeld.{is-new}
use Rattle.html_tokenizer.proofs.tokenizer.Tokenizer.new.Goals as goal

pub returns-clause-reads : goal.returns-clause-reads
returns-clause-reads g c =
    let m = g.Sink.TokenSink in
    is-new m _ c.args.sink c.args.opts refl refl refl refl refl refl refl refl
    (ap (λ (e : FittingEnd). e.name) c.new.ensures) c.first_state.ensures.text c.first_state.ensures.place c.requires.sound
