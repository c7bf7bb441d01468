use Rattle.std.proofs.Common.{◌∙◌, ap}
use Rattle.html_tokenizer.specs.declared.tokenizer.Tokenizer.{Tokenizer}
use Rattle.html_tokenizer.proofs.Fronts.Attributes.{quote-front, quoted-front}
use Rattle.html_tokenizer.proofs.Fronts.Tags.{fronts-then}
use Rattle.html_tokenizer.proofs.tokenizer.Tokenizer.consume_quoted.Goals as goal

pub returns-in_default-clause-ok : goal.returns-in_default-clause-ok
returns-in_default-clause-ok g c =
    let m = g.Sink.TokenSink in
    fronts-then m c.args.self.now _ c.consume_references.new.self _ _ _
    (quoted-front m c.args.self.now c.args.kind c.args.quote _ _ _ _ c.requires.at c.requires.sound c.requires.quote
    c.split.ensures.whole c.split.ensures.cut (rw c.value_stops.ensures at c.split.ensures.lacking) c.in_ok-self.ensures.ok)
    c.in_ok-rest.ensures.ok

pub returns-clause-ok : goal.returns-clause-ok
returns-clause-ok g c =
    let m = g.Sink.TokenSink in
    let is = c.consume_references.ensures.changed in
    fronts-then m c.args.self.now c.consume_references.new.self _ _ _ _
    (fronts-then m c.args.self.now _ c.consume_references.new.self _ _ _
    (quoted-front m c.args.self.now c.args.kind c.args.quote _ _ _ _ c.requires.at c.requires.sound c.requires.quote
    c.split.ensures.whole c.split.ensures.cut (rw c.value_stops.ensures at c.split.ensures.lacking) c.in_ok-self.ensures.ok)
    c.in_ok-rest.ensures.ok)
    (quote-front m c.consume_references.new.self c.finish_attribute.new.self c.args.kind c.args.quote _ _
    (record {
      state = ap (λ (k : Tokenizer _). k.state) is;
      fresh = ap (λ (k : Tokenizer _). k.char_ref) is ∙ c.requires.at.fresh;
    }) c.in_ok-rest.ensures.ok.took.sound c.requires.quote c.in-Some.ensures.whole c.in_ok-finish_attribute.ensures.ok)
