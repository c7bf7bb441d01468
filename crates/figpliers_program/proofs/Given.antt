-- Whether an option is used, by what clap found of it.
use Rattle.std.proofs.Common.{◌≡◌, ◌∙◌, Option, None, Some, ap, false, refl}
use Rattle.std.specs.Prelude.{is_some, option_and_then}
use Rattle.std.specs.Option.{option_map_or}
use Rattle.clap.proofs.TakesLemmas.{present_row}
use Rattle.clap.specs.Facts.{explicit_source}
use Rattle.clap.specs.Matches.{matched_of}
use Rattle.clap.specs.Takes.{is_given}
use Rattle.clap.specs.Walk.{Text, rows_of}
use Rattle.clap.specs.declared.parser.matches.Found.{Found}
use Rattle.clap.specs.declared.parser.matches.MatchedArg.{MatchedArg}
use Rattle.clap.specs.declared.parser.matches.ValueSource.{ValueSource}

by-source : (m : Option MatchedArg) (source : ValueSource) → Some source ≡ option_and_then (λ (a : MatchedArg). a.source) m
    → explicit_source (Some source) ≡ option_map_or (λ (a : MatchedArg). explicit_source a.source) m false
by-source None source is = absurd cc
by-source (Some a) source is = ap explicit_source is

-- an option whose value comes from its default or from the words
pub given-by : (f : Found) (id : Text) (source : ValueSource)
    → Some source ≡ option_and_then (λ (a : MatchedArg). a.source) (matched_of f id)
    → explicit_source (Some source) ≡ is_given id (rows_of f)
given-by f id source is = by-source (matched_of f id) source is ∙ present_row f id

by-none : (m : Option MatchedArg) → None ≡ option_and_then (λ (a : MatchedArg). a.source) m
    → is_some m ≡ option_map_or (λ (a : MatchedArg). explicit_source a.source) m false
by-none None is = refl
by-none (Some a) is = ap explicit_source is

-- an option of which that is not said
pub given : (f : Found) (id : Text) → None ≡ option_and_then (λ (a : MatchedArg). a.source) (matched_of f id)
    → is_some (matched_of f id) ≡ is_given id (rows_of f)
given f id is = by-none (matched_of f id) is ∙ present_row f id
