-- A reading depends on how many line breaks were read only by the lines that it tells.
use Rattle.std.proofs.Common.{◌≡◌, ◌∙◌, ℕ, zero, suc, ◌+◌, ◌-◌, List, [], ◌∷◌, ◌++◌, take, drop, Option, Some, None, Ok, refl}
use Rattle.std.proofs.Common.{sym, ap, arith}
use Rattle.std.specs.Prelude.{min}
use Rattle.html_tokens.specs.declared.states.RawKind.TheVariants as raw
use Rattle.html_tokens.specs.declared.states.ScriptEscapeKind.TheVariants as script
use Rattle.html_tokens.specs.declared.states.DoctypeIdKind.TheVariants as id
use Rattle.html_tokens.specs.declared.states.AttrValueKind.TheVariants as value
use Rattle.html_tokens.specs.declared.states.State.{State}
use Rattle.html_tokens.specs.declared.states.State.TheVariants as state
use Rattle.html_tokens.specs.declared.token.Token.{Token}
use Rattle.html_tokens.specs.declared.token.Token.TheVariants.{EOFToken}
use Rattle.html_tokens.specs.Comments.{comment_at, comment_after, bogus_comment_after}
use Rattle.html_tokens.specs.Doctypes.{doctype_at, doctype_after, doctype_name_after, after_name, after_public_keyword}
use Rattle.html_tokens.specs.Doctypes.{after_system_keyword, public_after, system_after, after_public, after_system, junk_after}
use Rattle.html_tokens.specs.Tags.{name_after, attribute_after, equals_at, value_at, unquoted_after, quoted_after}
use Rattle.html_tokens.specs.Item.{Fault, InData, Stand, Item, fault_at_end}
use Rattle.html_tokens.specs.Items.{item}
use Rattle.html_tokens.specs.Reading.{◌>>=◌, next_stand, erred_by, said, line_number, line_breaks, reading_from}
use Rattle.html_tokens.specs.Table.{Row}
use Rattle.html_tokens.proofs.Readings.{bind_same}
use Rattle.html_tokenizer.specs.declared.tokenizer.Tokenizer.{Tokenizer}
use Rattle.html_tokenizer.specs.Rest.{rows_of, standing, held_at}
use Rattle.html_tokenizer.specs.Listeners.{Listener, emitted_text, emitted_item}

-- After so many line breaks, or so many, and any number more, the line is the same.
abbrev pub SameLines : ℕ → ℕ → Type 0
SameLines b d = (n : ℕ) → line_number (b + n) ≡ line_number (d + n)

sum-behind : (b m n : ℕ) → b + m + n ≡ b + (m + n)
sum-behind b m n = omega arith

sum-none : (b : ℕ) → b + 0 ≡ b
sum-none b = omega arith

lines-behind : (b d m : ℕ) → SameLines b d → SameLines (b + m) (d + m)
lines-behind b d m h = λ n. ap line_number (sum-behind b m n) ∙ h (m + n) ∙ ap line_number (sym (sum-behind d m n))

line-same : (b d : ℕ) → SameLines b d → line_number b ≡ line_number d
line-same b d h = ap line_number (sym (sum-none b)) ∙ h 0 ∙ ap line_number (sum-none d)

capped : (b n : ℕ) → min (b + n + 1) 0xffff_ffff_ffff_ffff ≡ min (min b 0xffff_ffff_ffff_ffff + n + 1) 0xffff_ffff_ffff_ffff
capped b n = omega arith

-- a number of line breaks that stays at the greatest of 64 bits tells the same lines
pub lines-capped : (b : ℕ) → SameLines b (min b 0xffff_ffff_ffff_ffff)
lines-capped b = λ n. capped b n

module _ {T : Type 0} (to : Listener T) (rows : List Row) where
  said-same : (fault : Option Fault) (token : Option Token) (b d : ℕ) (s : T) → line_number b ≡ line_number d
      → said to.step to.erred fault token b s ≡ said to.step to.erred fault token d s
  said-same fault None b d s h = refl
  said-same fault (Some token) b d s h = ap (λ l. to.step (erred_by to.erred fault s) token l) h

  pub reading-lines : (n : ℕ) (st : Stand) (b d : ℕ) (s : T) (t : List ℕ) → SameLines b d
      → reading_from to.step to.erred to.cdata to.ends rows n st b s t ≡ reading_from to.step to.erred to.cdata to.ends rows n st d s t
  unfolding reading_from
  reading-lines n st b d s [] h = ap (λ l. to.step (erred_by to.erred (fault_at_end st.place) s) EOFToken l
      >>= λ p. Ok (to.ends p.0)) (line-same b d h)
  reading-lines zero st b d s (c ∷ t) h =
      let i = item rows (to.cdata s) st c t in
      let m = line_breaks (take i.len (c ∷ t)) in
      ap (λ r. r >>= λ p. reading_from to.step to.erred to.cdata to.ends rows (i.len - 1) (next_stand i.next p.1)
      (b + m) p.0 t) (said-same i.fault i.token (b + m) (d + m) s (h m))
      ∙ bind_same (said to.step to.erred i.fault i.token (d + m) s)
      (λ p. reading_from to.step to.erred to.cdata to.ends rows (i.len - 1) (next_stand i.next p.1)
      (b + m) p.0 t) (λ p. reading_from to.step to.erred to.cdata to.ends rows (i.len - 1) (next_stand i.next p.1) (d + m) p.0 t)
      (λ p. reading-lines (i.len - 1) (next_stand i.next p.1) (b + m) (d + m) p.0 t (lines-behind b d m h))
  reading-lines (suc n) st b d s (c ∷ t) h = reading-lines n st b d s t h

  pub play-lines : (i : Item) (b d : ℕ) (s : T) (t : List ℕ) → SameLines b d → emitted_item to rows i b s t ≡ emitted_item to rows i d s t
  play-lines i b d s t h =
      let m = line_breaks (take i.len t) in
      ap (λ r. r >>= λ p. emitted_text to rows (next_stand i.next p.1) (b + m) p.0 (drop i.len t))
      (said-same i.fault i.token (b + m) (d + m) s (h m))
      ∙ bind_same (said to.step to.erred i.fault i.token (d + m) s)
      (λ p. emitted_text to rows (next_stand i.next p.1) (b + m) p.0 (drop i.len t))
      (λ p. emitted_text to rows (next_stand i.next p.1) (d + m) p.0 (drop i.len t))
      (λ p. reading-lines 0 (next_stand i.next p.1) (b + m) (d + m) p.0 (drop i.len t) (lines-behind b d m h))

module _ {K T : Type 0} (to : Listener T) where
  -- what is held makes of a text what it makes after other line breaks with the same lines
  pub held-lines : (st : State) (k : Tokenizer K) (b d : ℕ) (s : T) (t : List ℕ) → SameLines b d
      → held_at to st k b s t ≡ held_at to st k d s t
  unfolding held_at
  held-lines state.Data k b d s t h = reading-lines to (rows_of k) 0 _ b d s _ h
  held-lines state.Plaintext k b d s t h = reading-lines to (rows_of k) 0 _ b d s _ h
  held-lines state.TagOpen k b d s t h = reading-lines to (rows_of k) 0 _ b d s _ h
  held-lines state.EndTagOpen k b d s t h = reading-lines to (rows_of k) 0 _ b d s _ h
  held-lines state.TagName k b d s t h = play-lines to (rows_of k) (name_after (standing k InData) k.tag t) b d s t h
  held-lines (state.RawData kind) k b d s t h = reading-lines to (rows_of k) 0 _ b d s _ h
  held-lines (state.RawLessThanSign (raw.ScriptDataEscaped script.DoubleEscaped)) k b d s t h = reading-lines to (rows_of k) 0 _ b d s _ h
  held-lines (state.RawLessThanSign (raw.ScriptDataEscaped script.Escaped)) k b d s t h = reading-lines to (rows_of k) 0 _ b d s _ h
  held-lines (state.RawLessThanSign raw.Rcdata) k b d s t h = reading-lines to (rows_of k) 0 _ b d s _ h
  held-lines (state.RawLessThanSign raw.Rawtext) k b d s t h = reading-lines to (rows_of k) 0 _ b d s _ h
  held-lines (state.RawLessThanSign raw.ScriptData) k b d s t h = reading-lines to (rows_of k) 0 _ b d s _ h
  held-lines (state.RawEndTagOpen kind) k b d s t h = reading-lines to (rows_of k) 0 _ b d s _ h
  held-lines (state.RawEndTagName kind) k b d s t h = reading-lines to (rows_of k) 0 _ b d s _ h
  held-lines (state.ScriptDataEscapeStart script.Escaped) k b d s t h = reading-lines to (rows_of k) 0 _ b d s _ h
  held-lines (state.ScriptDataEscapeStart script.DoubleEscaped) k b d s t h = reading-lines to (rows_of k) 0 _ b d s _ h
  held-lines state.ScriptDataEscapeStartDash k b d s t h = reading-lines to (rows_of k) 0 _ b d s _ h
  held-lines (state.ScriptDataEscapedDash kind) k b d s t h = reading-lines to (rows_of k) 0 _ b d s _ h
  held-lines (state.ScriptDataEscapedDashDash kind) k b d s t h = reading-lines to (rows_of k) 0 _ b d s _ h
  held-lines state.ScriptDataDoubleEscapeEnd k b d s t h = reading-lines to (rows_of k) 0 _ b d s _ h
  held-lines state.BeforeAttributeName k b d s t h = reading-lines to (rows_of k) 0 _ b d s _ h
  held-lines state.AttributeName k b d s t h = play-lines to (rows_of k)
      (attribute_after (rows_of k) (standing k InData) k.tag k.attribute_name t) b d s t h
  held-lines state.AfterAttributeName k b d s t h = play-lines to (rows_of k)
      (equals_at (rows_of k) (standing k InData) k.tag k.attribute_name t) b d s t h
  held-lines state.BeforeAttributeValue k b d s t h = play-lines to (rows_of k)
      (value_at (rows_of k) (standing k InData) k.tag k.attribute_name t) b d s t h
  held-lines (state.AttributeValue value.Unquoted) k b d s t h = play-lines to (rows_of k)
      (unquoted_after (rows_of k) (standing k InData) k.tag k.attribute_name k.attribute_value t) b d s t h
  held-lines (state.AttributeValue value.SingleQuoted) k b d s t h = play-lines to (rows_of k)
      (quoted_after (rows_of k) 39 (standing k InData) k.tag k.attribute_name k.attribute_value t) b d s t h
  held-lines (state.AttributeValue value.DoubleQuoted) k b d s t h = play-lines to (rows_of k)
      (quoted_after (rows_of k) 34 (standing k InData) k.tag k.attribute_name k.attribute_value t) b d s t h
  held-lines state.AfterAttributeValueQuoted k b d s t h = reading-lines to (rows_of k) 0 _ b d _ _ h
  held-lines state.SelfClosingStartTag k b d s t h = reading-lines to (rows_of k) 0 _ b d s _ h
  held-lines state.BogusComment k b d s t h = play-lines to (rows_of k) (bogus_comment_after (standing k InData) k.comment t) b d s t h
  held-lines state.MarkupDeclarationOpen k b d s t h = reading-lines to (rows_of k) 0 _ b d s _ h
  held-lines state.CommentStart k b d s t h = play-lines to (rows_of k) (comment_at (standing k InData) t) b d s t h
  held-lines state.CommentStartDash k b d s t h = play-lines to (rows_of k) (comment_at (standing k InData) (45 ∷ t)) b d s (45 ∷ t) h
  held-lines state.Comment k b d s t h = play-lines to (rows_of k) (comment_after (standing k InData) k.comment t) b d s t h
  held-lines state.CommentLessThanSign k b d s t h = play-lines to (rows_of k) (comment_after (standing k InData) k.comment t) b d s t h
  held-lines state.CommentLessThanSignBang k b d s t h = play-lines to (rows_of k) (comment_after (standing k InData) k.comment t) b d s t h
  held-lines state.CommentLessThanSignBangDash k b d s t h = play-lines to (rows_of k)
      (comment_after (standing k InData) k.comment (45 ∷ t)) b d s (45 ∷ t) h
  held-lines state.CommentLessThanSignBangDashDash k b d s t h = play-lines to (rows_of k)
      (comment_after (standing k InData) k.comment (45 ∷ 45 ∷ t)) b d s (45 ∷ 45 ∷ t) h
  held-lines state.CommentEndDash k b d s t h = play-lines to (rows_of k)
      (comment_after (standing k InData) k.comment (45 ∷ t)) b d s (45 ∷ t) h
  held-lines state.CommentEnd k b d s t h = play-lines to (rows_of k)
      (comment_after (standing k InData) k.comment (45 ∷ 45 ∷ t)) b d s (45 ∷ 45 ∷ t) h
  held-lines state.CommentEndBang k b d s t h = play-lines to (rows_of k)
      (comment_after (standing k InData) k.comment (45 ∷ 45 ∷ 33 ∷ t)) b d s (45 ∷ 45 ∷ 33 ∷ t) h
  held-lines state.Doctype k b d s t h = play-lines to (rows_of k) (doctype_at (standing k InData) t) b d s t h
  held-lines state.BeforeDoctypeName k b d s t h = play-lines to (rows_of k) (doctype_after (standing k InData) t) b d s t h
  held-lines state.DoctypeName k b d s t h = play-lines to (rows_of k) (doctype_name_after (standing k InData) k.temporary t) b d s t h
  held-lines state.AfterDoctypeName k b d s t h = play-lines to (rows_of k)
      (after_name (standing k InData) k.doctype (k.keyword ++ t)) b d s (k.keyword ++ t) h
  held-lines (state.AfterDoctypeKeyword id.Public) k b d s t h = play-lines to (rows_of k)
      (after_public_keyword (standing k InData) k.doctype t) b d s t h
  held-lines (state.AfterDoctypeKeyword id.System) k b d s t h = play-lines to (rows_of k)
      (after_system_keyword (standing k InData) k.doctype t) b d s t h
  held-lines (state.BeforeDoctypeIdentifier id.Public) k b d s t h = play-lines to (rows_of k)
      (after_public_keyword (standing k InData) k.doctype t) b d s t h
  held-lines (state.BeforeDoctypeIdentifier id.System) k b d s t h = play-lines to (rows_of k)
      (after_system_keyword (standing k InData) k.doctype t) b d s t h
  held-lines (state.DoctypeIdentifierDoubleQuoted id.Public) k b d s t h = play-lines to (rows_of k)
      (public_after 34 (standing k InData) k.doctype k.temporary t) b d s t h
  held-lines (state.DoctypeIdentifierDoubleQuoted id.System) k b d s t h = play-lines to (rows_of k)
      (system_after 34 (standing k InData) k.doctype k.temporary t) b d s t h
  held-lines (state.DoctypeIdentifierSingleQuoted id.Public) k b d s t h = play-lines to (rows_of k)
      (public_after 39 (standing k InData) k.doctype k.temporary t) b d s t h
  held-lines (state.DoctypeIdentifierSingleQuoted id.System) k b d s t h = play-lines to (rows_of k)
      (system_after 39 (standing k InData) k.doctype k.temporary t) b d s t h
  held-lines (state.AfterDoctypeIdentifier id.Public) k b d s t h = play-lines to (rows_of k)
      (after_public (standing k InData) k.doctype t) b d s t h
  held-lines (state.AfterDoctypeIdentifier id.System) k b d s t h = play-lines to (rows_of k)
      (after_system (standing k InData) k.doctype t) b d s t h
  held-lines state.BetweenDoctypePublicAndSystemIdentifiers k b d s t h = play-lines to (rows_of k)
      (after_public (standing k InData) k.doctype t) b d s t h
  held-lines state.BogusDoctype k b d s t h = play-lines to (rows_of k) (junk_after (standing k InData) k.doctype t) b d s t h
  held-lines state.CdataSection k b d s t h = reading-lines to (rows_of k) 0 _ b d s _ h
  held-lines state.CdataSectionBracket k b d s t h = reading-lines to (rows_of k) 0 _ b d s _ h
  held-lines state.CdataSectionEnd k b d s t h = reading-lines to (rows_of k) 0 _ b d s _ h
