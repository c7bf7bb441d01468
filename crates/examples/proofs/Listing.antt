-- A list of tokens, as a sink.
use Rattle.std.specs.Prelude.{ℕ, true, []}
use Rattle.figpliers.specs.Listed.{Listing, listing, step}
use Rattle.figpliers.specs.ListedTokens.{Listed}
use Rattle.figpliers.specs.TokenSink.{Ghosts}

abbrev pub sink : Ghosts Listed ℕ
sink = record {
  State = Listing;
  view = listing;
  is_sound = λ _. Unit {0};
  step = step;
  ended = λ s. record s { has_ended = true };
  asks_cdata = λ s. s.asks_cdata;
  errors = λ l. l.errors;
  errors_ended = λ _ n. n;
  is_quiet = λ _ _. true;
  has_failed = λ l. l.has_failed;
  references = λ _. [];
  number = λ n. n;
}
