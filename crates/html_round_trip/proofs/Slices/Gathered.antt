-- The laws of written forms, gathered.
use Rattle.std.proofs.Common.{ℕ, Bool, List, Result}
use Rattle.html_tokens.specs.declared.replies.TokenSinkResult.{TokenSinkResult}
use Rattle.html_tokens.specs.declared.token.Token.{Token}
use Rattle.html_tokens.specs.Item.{Fault, Stand}
use Rattle.html_tokens.specs.Laws.{ReadsEscapes}
use Rattle.html_tokens.specs.Table.{Row}
use Rattle.html_round_trip.specs.Slices.Laws.{EachForm}
use Rattle.html_round_trip.specs.Slices.Slices.{IsSpelled, IsToken, IsCleanToken}
use Rattle.html_round_trip.proofs.Slices.Comments.{comment-spelled}
use Rattle.html_round_trip.proofs.Slices.Spells.{token-read, token-clean}
use Rattle.html_round_trip.proofs.Slices.SpelledForms.{doctype-spelled, start-spelled, end-spelled, fitting_end-spelled, character-spelled}

pub forms-spelled : (rows : List Row) → ReadsEscapes rows → EachForm (IsSpelled rows)
forms-spelled rows reads = record {
  doctype = doctype-spelled rows;
  start = start-spelled rows reads;
  end = end-spelled rows;
  fitting_end = fitting_end-spelled rows;
  comment = comment-spelled rows;
  character = character-spelled rows reads;
}

-- what holds of each slice that spells a token holds of each form
each : (P Q : Stand → List ℕ → Token → Stand → Type 0)
    → ((st next : Stand) (slice : List ℕ) (token : Token) → P st slice token next → Q st slice token next) → EachForm P → EachForm Q
each P Q f forms = record {
  doctype = λ last. f _ _ _ _ (forms.doctype last);
  start = λ last name attrs h plain. f _ _ _ _ (forms.start last name attrs h plain);
  end = λ last name h. f _ _ _ _ (forms.end last name h);
  fitting_end = λ name h. f _ _ _ _ (forms.fitting_end name h);
  comment = λ last text h. f _ _ _ _ (forms.comment last text h);
  character = λ place last c h. f _ _ _ _ (forms.character place last c h);
}

pub forms-read : {S H F : Type 0} (step : S → Token → ℕ → Result (S × TokenSinkResult H) F) (erred : Fault → S → S)
    (cdata : S → Bool) (ends : S → S) (rows : List Row) → ReadsEscapes rows → EachForm (IsToken step erred cdata ends rows)
forms-read step erred cdata ends rows reads = each (IsSpelled rows) (IsToken step erred cdata ends rows)
    (token-read step erred cdata ends rows) (forms-spelled rows reads)

pub forms-clean : {S H F : Type 0} (step : S → Token → ℕ → Result (S × TokenSinkResult H) F)
    (quiet : S → Token → Bool) (cdata : S → Bool) (ends : S → S) (rows : List Row) → ReadsEscapes rows
    → EachForm (IsCleanToken step quiet cdata ends rows)
forms-clean step quiet cdata ends rows reads = each (IsSpelled rows) (IsCleanToken step quiet cdata ends rows)
    (token-clean step quiet cdata ends rows) (forms-spelled rows reads)
