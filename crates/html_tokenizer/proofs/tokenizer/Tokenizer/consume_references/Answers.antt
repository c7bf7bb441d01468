use Rattle.std.proofs.Common.{◌∙◌, ap, refl}
use Rattle.html_tokens.specs.declared.states.State.TheVariants as state
use Rattle.html_tokenizer.specs.declared.tokenizer.Tokenizer.{Tokenizer}
use Rattle.html_tokenizer.proofs.Fronts.Attributes.{none-taken}
use Rattle.html_tokenizer.proofs.Fronts.Tags.{fronts-then}
use Rattle.html_tokenizer.proofs.tokenizer.Tokenizer.consume_references.Goals as goal

pub loop-found-init : goal.loop-found-init
loop-found-init g c =
    let m = g.Sink.TokenSink in (
      c.utf8.text,
      none-taken m c.args.self.now c.args.text.now (state.AttributeValue c.args.kind) c.requires.at c.requires.sound,
      refl,
    )

pub consume_reference-requires-clause-at : goal.consume_reference-requires-clause-at
consume_reference-requires-clause-at g c = record {
  state = ap (λ (k : Tokenizer _). k.state) c.loop-found.invariant.2 ∙ c.requires.at.state;
  fresh = ap (λ (k : Tokenizer _). k.char_ref) c.loop-found.invariant.2 ∙ c.requires.at.fresh;
}

pub consume_reference-requires-clause-sound : goal.consume_reference-requires-clause-sound
consume_reference-requires-clause-sound g c = c.loop-found.invariant.1.took.sound

pub loop-found-preserved : goal.loop-found-preserved
loop-found-preserved g c =
    let m = g.Sink.TokenSink in (
      c.in_ok-rest.ensures.utf8,
      fronts-then m c.args.self.now c.loop-found.self c.consume_reference.new.self _ _ _ c.loop-found.invariant.1
          (c.in_ok-rest.ensures.ok _ c.in-Some.ensures.is),
      c.consume_reference.ensures.changed ∙ ap (λ (k : Tokenizer _). record k
          { attribute_value = c.consume_reference.new.self.attribute_value }) c.loop-found.invariant.2,
    )
