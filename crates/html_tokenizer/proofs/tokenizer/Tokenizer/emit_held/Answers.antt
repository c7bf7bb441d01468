use Rattle.std.proofs.Common.{◌∙◌, Some, ap, sym}
use Rattle.html_tokenizer.proofs.EndOfInput.References.{closes_where}
use Rattle.html_tokenizer.proofs.tokenizer.Tokenizer.emit_held.Goals as goal

pub returns-in-Some-Held : goal.returns-in-Some-Held
returns-in-Some-Held g c =
    let m = g.Sink.TokenSink in
    closes_where m c.args.self.now _ _ _ (sym c.in-Some-Held.ensures.value ∙ ap Some c.in-Some-Held.field-0-is) c.end_reference.ensures

pub returns-in-Some-Unknown : goal.returns-in-Some-Unknown
returns-in-Some-Unknown g c =
    let m = g.Sink.TokenSink in
    closes_where m c.args.self.now _ _ _ (sym c.in-Some-Unknown.ensures.value ∙ ap Some c.in-Some-Unknown.field-0-is) c.end_unknown.ensures

pub returns-in-None : goal.returns-in-None
returns-in-None g c =
    let m = g.Sink.TokenSink in
    closes_where m c.args.self.now _ _ _ (sym c.in-None.ensures.value ∙ sym c.in-None.ensures.after) c.end_state.ensures
