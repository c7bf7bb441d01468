use Rattle.std.proofs.Common.{◌∙◌, Some, ap, sym}
use Rattle.html_tokenizer_parts.specs.declared.held_reference.Ampersand.TheVariants.{Held, Unknown}
use Rattle.html_tokenizer.specs.Rest.{rows_of}
use Rattle.html_tokenizer.proofs.Feeds.Characters.{advanced}
use Rattle.html_tokenizer.proofs.HeldReferences.Holding.{fits-held, fits-unknown}
use Rattle.html_tokenizer.proofs.tokenizer.Tokenizer.advance.Goals as goal

pub returns-in-Some-Held : goal.returns-in-Some-Held
returns-in-Some-Held g c =
    let m = g.Sink.TokenSink in
    advanced m c.args.self.now c.reference_state.new.self (Some (Held c.in-Some-Held.held)) _ _
    (sym (ap Some c.in-Some-Held.field-0-is) ∙ (sym c.in-Some-Held.is ∙ c.take.ensures.value)) c.reference_state.ensures

pub returns-in-Some-Unknown : goal.returns-in-Some-Unknown
returns-in-Some-Unknown g c =
    let m = g.Sink.TokenSink in
    advanced m c.args.self.now c.ambiguous_ampersand_state.new.self (Some Unknown) _ _
    (sym (ap Some c.in-Some-Unknown.field-0-is) ∙ (sym c.in-Some-Unknown.is ∙ c.take.ensures.value)) c.ambiguous_ampersand_state.ensures

pub returns-in-None : goal.returns-in-None
returns-in-None g c =
    let m = g.Sink.TokenSink in
    advanced m c.args.self.now c.step-in-None.new.self c.take.new.self _ _
    (c.take.ensures.after ∙ (sym c.in-None.is ∙ c.take.ensures.value)) c.step-in-None.ensures

pub reference_state-requires-clause-fits : goal.reference_state-requires-clause-fits
reference_state-requires-clause-fits g c =
    (fits-held (rows_of c.args.self.now) c.args.self.now.char_ref c.in-Some-Held.held c.args.self.now.state
    (sym c.take.ensures.value ∙ (c.in-Some-Held.is ∙ ap Some c.in-Some-Held.field-0-is)) c.requires.fits).1

pub reference_state-requires-clause-front : goal.reference_state-requires-clause-front
reference_state-requires-clause-front g c =
    (fits-held (rows_of c.args.self.now) c.args.self.now.char_ref c.in-Some-Held.held c.args.self.now.state
    (sym c.take.ensures.value ∙ (c.in-Some-Held.is ∙ ap Some c.in-Some-Held.field-0-is)) c.requires.fits).0

pub ambiguous_ampersand_state-requires-clause-fits : goal.ambiguous_ampersand_state-requires-clause-fits
ambiguous_ampersand_state-requires-clause-fits g c = fits-unknown (rows_of c.args.self.now) c.args.self.now.char_ref
    c.args.self.now.state (sym c.take.ensures.value ∙ (c.in-Some-Unknown.is ∙ ap Some c.in-Some-Unknown.field-0-is)) c.requires.fits
