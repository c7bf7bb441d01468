use Rattle.std.proofs.Common.{◌∙◌, ap}
use Rattle.html_tokenizer.specs.declared.tokenizer.Tokenizer.{Tokenizer}
use Rattle.html_tokenizer.proofs.Fronts.Attributes.{value-front}
use Rattle.html_tokenizer.proofs.Fronts.References.{reference-spells, reference-taken}
use Rattle.html_tokenizer.proofs.Fronts.Tags.{fronts-then}
use Rattle.html_tokenizer.proofs.Fronts.Whole.{front-no_longer}
use Rattle.html_tokenizer.proofs.tokenizer.Tokenizer.consume_reference.Goals as goal

pub returns-clause-ok : goal.returns-clause-ok
returns-clause-ok g c =
    let m = g.Sink.TokenSink in
    let mid = c.consume_whole_name.new.self in
    let is = c.consume_whole_name.ensures.changed in
    λ whole found.
    let told = c.in_ok-consume_whole_name.ensures.keeps _ found.stands in
    fronts-then m c.args.self.now mid _ whole c.args.text.now _
    (reference-taken m c.args.self.now mid found.name c.args.text.now whole _
    (reference-spells m found.name c.args.text.now whole found.at) found.stands.name.held told)
    (value-front m mid c.args.kind _ _ c.args.text.now _ c.requires.quoted
    (record {
      state = ap (λ (k : Tokenizer _). k.state) is ∙ c.requires.at.state;
      fresh = ap (λ (k : Tokenizer _). k.char_ref) is ∙ c.requires.at.fresh;
    }) told.sound c.split.ensures.whole c.split.ensures.cut (rw c.value_stops.ensures at c.split.ensures.lacking)
    c.in_ok-push_str.ensures.ok)

pub returns-clause-no_longer : goal.returns-clause-no_longer
returns-clause-no_longer g c = front-no_longer _ _ _ c.split.ensures.whole
