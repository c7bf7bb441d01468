-- Pieces are read one after the other.
use Rattle.std.proofs.Common.{◌≡◌, ◌∙◌, ℕ, ◌+◌, Bool, true, ◌&&◌, List, [], ◌∷◌, ◌++◌, Option, Some, Result, refl, ap, arith}
use Rattle.std.proofs.Common.{append_assoc, sym}
use Rattle.std.specs.Prelude.{IfOk}
use Rattle.std.specs.List.{list_all}
use Rattle.std.proofs.lemmas.Bool.{and_parts}
use Rattle.std.proofs.lemmas.Result.{IfOk-weaker}
use Rattle.markup.specs.declared.attributes.Attribute.{Attribute}
use Rattle.html_tokens.specs.declared.replies.TokenSinkResult.{TokenSinkResult}
use Rattle.html_tokens.specs.declared.token.Token.{Token}
use Rattle.html_tokens.specs.Item.{Fault, Stand}
use Rattle.html_tokens.specs.Laws.{JoinsText, ReadsEscapes, are_distinct, has_no_null, in_data}
use Rattle.html_tokens.specs.Reading.{◌>>=◌, line_breaks, line_number, reading}
use Rattle.html_tokens.specs.Table.{Row}
use Rattle.html_tokens.proofs.Readings.{bind_where}
use Rattle.html_tokens.proofs.TextLaws.{bind-assoc, line_breaks-append, stays}
use Rattle.html_round_trip.specs.Slices.Forms.{AreReadBack, Data, end_token, has_no_return, is_read_attribute, is_tag_name, start_token}
use Rattle.html_round_trip.proofs.Slices.SpelledForms.{end-spelled, start-spelled}
use Rattle.html_round_trip.proofs.Slices.Spells.{token-read}
use Rattle.html_round_trip.proofs.Slices.Texts.{text-read}
use Rattle.html_clean.specs.PieceLaws.{GoesOn}
use Rattle.html_clean.specs.Pieces.{End, Piece, Start, Text, are_read_pieces, is_read_piece, last_after, telling, token_of}
use Rattle.html_clean.specs.Pieces.{written_piece, written_pieces}

-- the parts of a start tag that is read back
pub record IsReadStart (named : List ℕ → Bool) (name : List ℕ) (attributes : List Attribute) : Type 0 where
  pub tag : is_tag_name name ≡ true
  pub is_named : named name ≡ true
  pub read : AreReadBack attributes
  pub normal : list_all (λ a. has_no_return a.value) attributes ≡ true

pub start-parts : (named : List ℕ → Bool) (name : List ℕ) (attributes : List Attribute) → is_read_piece named
    (Start name attributes) ≡ true → IsReadStart named name attributes
start-parts named name attributes h =
    let p = and_parts ((is_tag_name name && named name)
    && (list_all is_read_attribute attributes && are_distinct attributes)) (list_all (λ a. has_no_return a.value) attributes) h in
    let q = and_parts (is_tag_name name && named name) (list_all is_read_attribute attributes && are_distinct attributes) p.0 in
    let n = and_parts (is_tag_name name) (named name) q.0 in
    let a = and_parts (list_all is_read_attribute attributes) (are_distinct attributes) q.1 in
    record { tag = n.0; is_named = n.1; read = record { each = a.0; distinct = a.1 }; normal = p.1 }

module _ {S H F : Type 0} (step : S → Token → ℕ → Result (S × TokenSinkResult H) F) (erred : Fault → S → S)
    (cdata : S → Bool) (ends : S → S) (rows : List Row) (is_sound : S → Type 0) (joins : JoinsText is_sound step)
    (keeps : (s : S) → is_sound s → (t : Token) (line : ℕ) → IfOk (step s t line) (λ p. is_sound p.0))
    (reads : ReadsEscapes rows) (named : List ℕ → Bool) (goes_on : GoesOn is_sound step named) where
  abbrev read : Stand → ℕ → S → List ℕ → Result S F
  read st breaks s t = reading step erred cdata ends rows st breaks s t

  -- a piece is read as one step with its token
  one : (piece : Piece) → is_read_piece named piece ≡ true → (last : Option (List ℕ)) (breaks : ℕ) (s : S) → is_sound s → (t : List ℕ)
      → let behind = breaks + line_breaks (written_piece piece) in
      read (in_data last) breaks s (written_piece piece ++ t) ≡ (step s (token_of piece) (line_number behind)
      >>= λ p. read (in_data (last_after last (piece ∷ []))) behind p.0 t)
  one (Start name attributes) h last breaks s sound t =
      let parts = start-parts named name attributes h in
      let behind = breaks + line_breaks (written_piece (Start name attributes)) in
      let r = step s (start_token name attributes) (line_number behind) in
      token-read step erred cdata ends rows _ _ _ _ (start-spelled rows reads last name attributes parts.tag parts.read) breaks s t
      ∙ stays step erred cdata ends rows is_sound joins (in_data (Some name)) behind r t
      (goes_on.starts s sound name parts.is_named attributes (line_number behind))
  one (Text []) h last breaks s sound t = absurd cc
  one (Text (c ∷ cs)) h last breaks s sound t =
      let p = and_parts (has_no_null (c ∷ cs)) (has_no_return (c ∷ cs)) h in
      text-read step erred cdata ends rows is_sound joins reads Data last breaks s sound c cs t _ p.0
  one (End name) h last breaks s sound t =
      let p = and_parts (is_tag_name name) (named name) h in
      let behind = breaks + line_breaks (written_piece (End name)) in
      let r = step s (end_token name) (line_number behind) in
      token-read step erred cdata ends rows _ _ _ _ (end-spelled rows last name p.0) breaks s t
      ∙ stays step erred cdata ends rows is_sound joins (in_data last) behind r t (goes_on.ends s sound name p.1 (line_number behind))

  last-two : (last : Option (List ℕ)) (piece : Piece) (rest : List Piece)
      → last_after (last_after last (piece ∷ [])) rest ≡ last_after last (piece ∷ rest)
  last-two last (Start name attributes) rest = refl
  last-two last (Text text) rest = refl
  last-two last (End name) rest = refl

  sums : (breaks : ℕ) (a b : List ℕ) → (breaks + line_breaks a) + line_breaks b ≡ breaks + line_breaks (a ++ b)
  sums breaks a b = omega (arith, line_breaks-append a b)

  none : (last : Option (List ℕ)) (breaks : ℕ) (s : S) (t : List ℕ) → read (in_data last) breaks s t ≡ read (in_data last) (breaks + 0) s t
  none last breaks s t = let e : breaks ≡ breaks + 0 = omega arith in ap (λ n. read (in_data last) n s t) e

  -- what is read after pieces
  abbrev after_pieces : Option (List ℕ) → ℕ → List ℕ → S → Result S F
  after_pieces last breaks t told = read (in_data last) breaks told t

  pub pieces-read : (pieces : List Piece) → are_read_pieces named pieces ≡ true → (last : Option (List ℕ))
      (breaks : ℕ) (s : S) → is_sound s → (t : List ℕ)
      → read (in_data last) breaks s (written_pieces pieces ++ t) ≡ (telling step breaks s pieces
      >>= λ told. read (in_data (last_after last pieces)) (breaks + line_breaks (written_pieces pieces)) told t)
  pieces-read [] h last breaks s sound t = none last breaks s t
  pieces-read (piece ∷ rest) h last breaks s sound t =
      let p = and_parts (is_read_piece named piece) (are_read_pieces named rest) h in
      let a = written_piece piece in
      let b = written_pieces rest in
      let behind = breaks + line_breaks a in
      let next = last_after last (piece ∷ []) in
      let r = step s (token_of piece) (line_number behind) in
      let ending : S → Result S F = λ told. read (in_data (last_after last (piece ∷ rest))) (breaks + line_breaks (a ++ b)) told t in
      ap (read (in_data last) breaks s) (append_assoc a b t)
      ∙ (one piece p.0 last breaks s sound (b ++ t)
      ∙ (bind_where r (λ q. read (in_data next) behind q.0 (b ++ t)) (λ q. telling step behind q.0 rest >>= ending)
      (IfOk-weaker r _ _ (λ q k. pieces-read rest p.1 next behind q.0 k t
      ∙ (ap (λ l. telling step behind q.0 rest >>= after_pieces l (behind + line_breaks b) t) (last-two last piece rest)
      ∙ ap (λ n. telling step behind q.0 rest >>= after_pieces (last_after last (piece ∷ rest)) n t)
      (sums breaks a b))) (keeps s sound (token_of piece) (line_number behind)))
      ∙ sym (bind-assoc r (λ q. telling step behind q.0 rest) ending)))
