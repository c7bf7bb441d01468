-- What is written of cleaned trees is read.
use Rattle.std.proofs.Common.{◌≡◌, ◌∙◌, [], Bool, refl, sym, append-nil}
use Rattle.markup.specs.Trees.{Nothing, default_entry, written}
use Rattle.html_tokens.specs.Sink.{Step, SinkLaws}
use Rattle.html_tokens.specs.declared.token.Token.{Token}
use Rattle.html_tokens.proofs.SinkTexts.{joins-from_laws}
use Rattle.html_clean.specs.Pieces.{written_pieces}
use Rattle.html_clean.proofs.PiecesNormal.{pieces-normal}
use Rattle.html_clean.proofs.PiecesRead as pieces
use Rattle.html_clean.specs.Cleaned.{cleaned, cleaned_before, pieces_of}
use Rattle.html_clean.specs.Laws.{IsCleanedRead}
use Rattle.html_clean.specs.Policies.{is_kept_name}
use Rattle.html_clean.proofs.Kept.{all-kept, cleaned-kept}
use Rattle.html_clean.proofs.Marks.{own-text}
use Rattle.html_clean.proofs.Pieces.{pieces-kept, pieces-read, written-pieces}

pub cleaned-read : {S : Type 0} (is_sound : S → Type 0) (step : Step S) (cdata : S → Bool) (ends : S → S)
    (is_quiet : S → Token → Bool) → SinkLaws is_sound step ends is_quiet → IsCleanedRead is_sound step cdata ends
cleaned-read is_sound step cdata ends is_quiet laws policy goes_on erred rows reads scripting trees last breaks s sound t =
    let left = cleaned policy trees in
    let kept = all-kept policy trees in
    let all = pieces-read policy (pieces_of left) (pieces-kept policy left kept [] refl) in
    let same : written_pieces (pieces_of left) ≡ written scripting default_entry left =
    sym (written-pieces policy scripting left kept []) ∙ append-nil (written scripting default_entry left) in
    rw (← same) (
      own-text policy (cleaned_before policy trees Nothing) (cleaned-kept policy trees Nothing refl)
          (pieces-normal (is_kept_name policy) (pieces_of left) all),
      pieces.pieces-read step erred cdata ends rows is_sound (joins-from_laws is_sound step ends is_quiet laws)
          (λ s h t line. laws.keeps s h t line) reads (is_kept_name policy) goes_on (pieces_of left) all last breaks s sound t,
    )
