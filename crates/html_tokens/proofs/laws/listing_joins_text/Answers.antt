use Rattle.html_tokens.specs.RowForms.{raw_text}
use Rattle.html_tokens.proofs.ListingLaws.{listing-joins}
use Rattle.html_tokens.proofs.laws.listing_joins_text.Goals as goal

pub returns : goal.returns
returns c = listing-joins raw_text
