use Rattle.std.proofs.Common.{◌∙◌, sym}
use Rattle.html_tokenizer.specs.Rest.{rows_of}
use Rattle.html_tokenizer_parts.proofs.HeldFronts.{goes_on-held}
use Rattle.html_tokenizer.proofs.tokenizer.Tokenizer.reference_state.Goals as goal

pub hold_more-requires-clause-held : goal.hold_more-requires-clause-held
hold_more-requires-clause-held g c = goes_on-held (rows_of c.args.self.now) c.goes_on.ensures.table c.args.held
    c.args.c (sym c.in_ok-goes_on.ensures.is ∙ c.if-goes_on.true)
