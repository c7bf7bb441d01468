use Rattle.std.proofs.Common.{◌∙◌, sym}
use Rattle.html_tokenizer.proofs.tokenizer.Tokenizer.move_by_piece.Goals as goal

pub move_by_run-requires-clause-stops : goal.move_by_run-requires-clause-stops
move_by_run-requires-clause-stops g c = record {
  are = sym c.stops.ensures.exact ∙ c.in-Some.is;
  breaks = rw c.in-Some.is at c.stops.ensures.breaks;
}
