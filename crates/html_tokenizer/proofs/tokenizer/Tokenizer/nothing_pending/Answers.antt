use Rattle.std.proofs.Common.{◌∙◌, ap, sym}
use Rattle.std.specs.Prelude.{not}
use Rattle.html_tokenizer.proofs.Text.NothingHeld.{reads-text}
use Rattle.html_tokenizer.proofs.tokenizer.Tokenizer.nothing_pending.Goals as goal

pub returns-clause-reads : goal.returns-clause-reads
returns-clause-reads g c =
    let m = g.Sink.TokenSink in
    λ h. reads-text m c.args.self.now (ap not (sym c.is_some.ensures ∙ c.if-is_some.false)) (sym c.is_text_state.ensures ∙ h)
