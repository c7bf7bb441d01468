use Rattle.std.proofs.Common.{◌∙◌, refl}
use Rattle.html_tokenizer.proofs.Fronts.Attributes.{attributes-begin}
use Rattle.html_tokenizer.proofs.Fronts.Tags.{fronts-then}
use Rattle.html_tokenizer.proofs.Fronts.Whole.{name-shorter}
use Rattle.html_tokenizer.proofs.tokenizer.Tokenizer.consume_attributes.Goals as goal

pub loop-name-init : goal.loop-name-init
loop-name-init g c =
    let m = g.Sink.TokenSink in
    (c.utf8.text, attributes-begin m c.args.self.now c.args.text.now c.requires.at c.requires.sound, refl)

pub loop-name-preserved : goal.loop-name-preserved
loop-name-preserved g c =
    let m = g.Sink.TokenSink in (
      c.in_ok-rest.ensures.utf8,
      fronts-then m c.args.self.now c.loop-name.self c.consume_attribute.new.self _ _ _ c.loop-name.invariant.1
          (c.in_ok-rest.ensures.ok _ c.in-Some.ensures.name),
      c.consume_attribute.ensures.sink ∙ c.loop-name.invariant.2,
    )

pub loop-name-smaller : goal.loop-name-smaller
loop-name-smaller g c = name-shorter _ _ _ _ c.in-Some.ensures.name c.in_ok-rest.ensures.no_longer
