-- What the end of the input makes of a comment, a declaration or a doctype.
use Rattle.std.proofs.Common.{◌≡◌, ◌∙◌, ℕ, length, Bool, true, false, List, [], ◌∷◌, take, drop, Some, None, Result, refl, sym}
use Rattle.std.proofs.Common.{ap, append-nil, inl, inr}
use Rattle.std.specs.Prelude.{◌&&◌, ◌⊎◌, codes}
use Rattle.std.specs.List.{list_all}
use Rattle.markup.specs.declared.fault.ParseFault.{ParseFault}
use Rattle.html_tokens.specs.declared.states.DoctypeIdKind.{DoctypeIdKind}
use Rattle.html_tokens.specs.declared.states.DoctypeIdKind.TheVariants as id
use Rattle.html_tokens.specs.declared.states.State.{State}
use Rattle.html_tokens.specs.declared.states.State.TheVariants as state
use Rattle.html_tokens.specs.declared.token.Doctype.{Doctype}
use Rattle.html_tokens.specs.declared.token.Token.{Token}
use Rattle.html_tokens.specs.declared.token.Token.TheVariants.{CommentToken, DoctypeToken}
use Rattle.html_tokens.specs.declared.sink.TokenSink.{Ghosts}
use Rattle.html_tokens.specs.Characters.{begins_any_case}
use Rattle.html_tokens.specs.Comments.{comment_at, bogus_comment_after}
use Rattle.html_tokens.specs.Doctypes.{no_doctype, forced, given, doctype_at, doctype_after, doctype_name_after, after_name}
use Rattle.html_tokens.specs.Doctypes.{keyword_at, keyword_by, public_after, system_after, junk_after}
use Rattle.html_tokens.specs.Item.{Stand, Item, InData, longer, longer_by, marked, token_item, Grave, grave_if, and_slight, and_slight_if}
use Rattle.html_tokens.specs.Items.{declaration_at, declaration_by}
use Rattle.html_tokens.specs.Notes.{Notes, noting}
use Rattle.html_tokens.specs.Reading.{line_number, line_breaks}
use Rattle.html_tokens.specs.Sink.{◌>>=◌, SinkLaws}
use Rattle.html_tokenizer.specs.Calls.{at_end, Closes}
use Rattle.html_tokenizer.specs.EndStates.{is_comment_part, is_doctype_part}
use Rattle.html_tokenizer_parts.specs.declared.keyword.Word.TheVariants as word
use Rattle.html_tokenizer.specs.declared.tokenizer.Tokenizer.{Tokenizer}
use Rattle.html_tokenizer_parts.specs.Keywords.{IsPart}
use Rattle.html_tokenizer.specs.Rest.{rows_of, standing, with_identifier, held_at}
use Rattle.html_tokenizer.specs.Steps.{owed_for, IsAt, more, IsNoTag, Tells, a_fault, reads, plays}
use Rattle.html_tokenizer.proofs.Declarations.Openings.{play-plain}
use Rattle.html_tokenizer.proofs.Declarations.Doctypes.{stop-white}
use Rattle.html_tokenizer.proofs.Steps.TokenEnds.{behind-one}
use Rattle.html_tokenizer.proofs.Errors.RefusedErrors.{tells-less}
use Rattle.html_tokenizer.proofs.EndOfInput.Tokens.{EndTells, closes-told, end-item}
use Rattle.html_tokenizer_parts.proofs.Keywords.{is_plain, part-open, part-plain, plain-mark, plain-white, bogus-behind, junk-behind}
use Rattle.html_tokenizer.proofs.Errors.Rises.{slighted-no-more}
use Rattle.html_tokenizer.proofs.Tags.Opens.{opened}
use Rattle.html_tokenizer_parts.proofs.Words.{and_parts}

-- ITEMS

-- both hold only where the second does
and_none : (a b : Bool) → b ≡ false → (a && b) ≡ false
and_none true b e = e
and_none false b e = refl

-- what begins no word after "<!" is a bogus comment
bogus-by : (a b s : Bool) (st : Stand) (t : List ℕ) → a ≡ false → b ≡ false → s ≡ false
    → declaration_by a b s st t ≡ longer_by 2 (bogus_comment_after st [] t)
bogus-by a b s st t e f g = rw (e, f, g) refl

-- and so is part of a word, where the input ends
part-declared : (asks : Bool) (st : Stand) (cs : List ℕ) → IsPart cs → declaration_at asks st cs ≡ longer_by 2
    (longer_by (length cs) (token_item (Some Grave) (CommentToken cs) 0 st))
part-declared asks st cs part =
    bogus-by _ _ _ st cs (part-open cs part word.Dashes) (part-open cs part word.Doctype) (and_none asks _ (part-open cs part word.Cdata))
    ∙ ap (λ u. longer_by 2 (bogus_comment_after st [] u)) (sym (append-nil cs))
    ∙ ap (longer_by 2) (bogus-behind st [] cs [] (part-plain cs part))

-- where a word begins after a doctype's name, it may be a keyword
keyword-word : (st : Stand) (d : Doctype) (x : ℕ) (cs : List ℕ) → is_plain x ≡ true
    → after_name st d (x ∷ cs) ≡ keyword_by false (begins_any_case (codes "public") (x ∷ cs))
    (begins_any_case (codes "system") (x ∷ cs)) st d (x ∷ cs)
keyword-word st d x cs h =
    stop-white (keyword_at st d) x cs (plain-white x h)
    ∙ ap (λ m. keyword_by m (begins_any_case (codes "public") (x ∷ cs)) (begins_any_case (codes "system") (x ∷ cs))
    st d (x ∷ cs)) (plain-mark x h)

-- what is no keyword is junk
junk-by : (p s : Bool) (st : Stand) (d : Doctype) (t : List ℕ) → p ≡ false → s ≡ false
    → keyword_by false p s st d t ≡ junk_after st (forced d) t
junk-by p s st d t e f = rw (e, f) refl

-- and so is part of a keyword, where the input ends
part-identified : (st : Stand) (d : Doctype) (cs : List ℕ) → IsPart cs → after_name st d cs ≡ longer_by (length cs) (given st (forced d) 0)
part-identified st d [] part = refl
part-identified st d (x ∷ cs) part =
    keyword-word st d x cs (and_parts (is_plain x) (list_all is_plain cs) (part-plain (x ∷ cs) part)).0
    ∙ junk-by _ _ st d (x ∷ cs) (part-open (x ∷ cs) part word.Public) (part-open (x ∷ cs) part word.System)
    ∙ ap (junk_after st (forced d)) (sym (append-nil (x ∷ cs)))
    ∙ junk-behind st (forced d) (x ∷ cs) [] (part-plain (x ∷ cs) part)

-- STATES

module _ {K H : Type 0} (Sink : Ghosts K H) (laws : SinkLaws Sink.is_sound Sink.step Sink.ended Sink.is_quiet) where
  -- what a comment that takes all that is left makes of the sink
  comment-item : (old : Tokenizer K) (b : ℕ) (s : Sink.State × Notes ℕ) → Sink.is_sound s.0 → (front u : List ℕ)
      (n : ℕ) (i : Item) → i ≡ token_item (Some Grave) (CommentToken front) n (standing old InData)
      → line_breaks (take n u) ≡ 0 → drop n u ≡ []
      → plays Sink (rows_of old) i b s u ≡ (noting Sink.step Sink.is_quiet (s.0, more a_fault s.1)
      (CommentToken front) (line_number b) >>= λ p. at_end Sink b p.0)
  comment-item old b s h front u n i is unbroken left = end-item Sink laws (Some Grave) old b s h
      (CommentToken front) u n i tt is unbroken left

  -- a token after part of a word, which ends the input and so is faulty
  part-told : (old : Tokenizer K) (b : ℕ) (s : Sink.State × Notes ℕ) → Sink.is_sound s.0
      → (cs : List ℕ) (token : Token) → IsPart cs → IsNoTag token
      → plays Sink (rows_of old) (longer_by (length cs) (token_item (Some Grave) token 0 (standing old InData))) b s
      cs ≡ (noting Sink.step Sink.is_quiet (s.0, more a_fault s.1) token (line_number b) >>= λ p. at_end Sink b p.0)
  part-told old b s h cs token part none =
      let item : Item = token_item (Some Grave) token 0 (standing old InData) in
      ap (λ u. plays Sink (rows_of old) (longer_by (length cs) item) b s u) (sym (append-nil cs))
      ∙ play-plain Sink laws old cs [] item b s (part-plain cs part)
      ∙ end-item Sink laws (Some Grave) old b s h token [] 0 item none refl refl refl

  -- in a comment's text, or after what could end it, that comment is told
  comment-tells : (old : Tokenizer K) (st : State) → is_comment_part st ≡ true
      → (st ≡ state.MarkupDeclarationOpen → ⊥) → (st ≡ state.CommentStart → ⊥) → (st ≡ state.CommentStartDash → ⊥)
      → EndTells Sink st old a_fault (CommentToken old.comment)
  unfolding held_at
  comment-tells old state.BogusComment h x y z b s ok = comment-item old b s ok old.comment [] 0 _ refl refl refl
  comment-tells old state.Comment h x y z b s ok = comment-item old b s ok old.comment [] 0 _ refl refl refl
  comment-tells old state.CommentLessThanSign h x y z b s ok = comment-item old b s ok old.comment [] 0 _ refl refl refl
  comment-tells old state.CommentLessThanSignBang h x y z b s ok = comment-item old b s ok old.comment [] 0 _ refl refl refl
  comment-tells old state.CommentLessThanSignBangDash h x y z b s ok = comment-item old b s ok old.comment (45 ∷ []) 1 _ refl refl refl
  comment-tells old state.CommentLessThanSignBangDashDash h x y z b s ok = comment-item old b s ok old.comment
      (45 ∷ 45 ∷ []) 2 _ refl refl refl
  comment-tells old state.CommentEndDash h x y z b s ok = comment-item old b s ok old.comment (45 ∷ []) 1 _ refl refl refl
  comment-tells old state.CommentEnd h x y z b s ok = comment-item old b s ok old.comment (45 ∷ 45 ∷ []) 2 _ refl refl refl
  comment-tells old state.CommentEndBang h x y z b s ok = comment-item old b s ok old.comment (45 ∷ 45 ∷ 33 ∷ []) 3 _ refl refl refl
  comment-tells old state.MarkupDeclarationOpen h x y z b s ok = absurd (x refl)
  comment-tells old state.CommentStart h x y z b s ok = absurd (y refl)
  comment-tells old state.CommentStartDash h x y z b s ok = absurd (z refl)
  comment-tells old _ h x y z b s ok = absurd cc

  bogus-tells : (old : Tokenizer K) → EndTells Sink state.BogusComment old a_fault (CommentToken old.comment)
  unfolding held_at
  bogus-tells old b s ok = comment-item old b s ok old.comment [] 0 _ refl refl refl

  -- before it has a character, the empty comment
  start-tells : (old : Tokenizer K) (st : State) → (st ≡ state.CommentStart) ⊎ (st ≡ state.CommentStartDash)
      → EndTells Sink st old a_fault (CommentToken [])
  unfolding held_at
  start-tells old st (inl e) b s ok = rw e (comment-item old b s ok [] [] 0 (comment_at (standing old InData) []) refl refl refl)
  start-tells old st (inr e) b s ok =
      rw e (comment-item old b s ok [] (45 ∷ []) 1 (comment_at (standing old InData) (45 ∷ [])) refl refl refl)

  -- after "<!" and part of a word, a bogus comment of that part
  declaration-tells : (old : Tokenizer K) → IsPart old.keyword → EndTells Sink state.MarkupDeclarationOpen old
      a_fault (CommentToken old.keyword)
  unfolding held_at
  declaration-tells old part b s ok =
      let item : Item = token_item (Some Grave) (CommentToken old.keyword) 0 (standing old InData) in
      ap (λ u. reads Sink (rows_of old) (standing old InData) b s (60 ∷ 33 ∷ u)) (append-nil old.keyword)
      ∙ opened Sink laws old b s (33 ∷ old.keyword) (longer (longer_by (length old.keyword) item))
      (part-declared (Sink.asks_cdata s.0) (standing old InData) old.keyword part)
      ∙ behind-one Sink laws old 33 refl (longer (longer_by (length old.keyword) item))
      (longer_by (length old.keyword) item) b s old.keyword refl
      ∙ part-told old b s ok old.keyword (CommentToken old.keyword) part tt

  -- what a doctype where nothing is left makes of the sink
  doctype-item : (old : Tokenizer K) (b : ℕ) (s : Sink.State × Notes ℕ) → Sink.is_sound s.0
      → (odd : Bool) (d : Doctype) (i : Item) → i ≡ marked odd (given (standing old InData) d 0)
      → plays Sink (rows_of old) i b s
      [] ≡ (noting Sink.step Sink.is_quiet
      (s.0, more (owed_for (and_slight_if odd (grave_if d.force_quirks))) s.1) (DoctypeToken d)
      (line_number b) >>= λ p. at_end Sink b p.0)
  doctype-item old b s h odd d i is = end-item Sink laws (and_slight_if odd (grave_if d.force_quirks)) old b s h
      (DoctypeToken d) [] 0 i tt is refl refl

  -- before a doctype's name, a doctype of nothing
  doctype_start-tells : (old : Tokenizer K) (st : State) → (st ≡ state.Doctype) ⊎ (st ≡ state.BeforeDoctypeName)
      → EndTells Sink st old a_fault (DoctypeToken (forced no_doctype))
  unfolding held_at
  doctype_start-tells old st (inl e) b s ok =
      rw e (doctype-item old b s ok false (forced no_doctype) (doctype_at (standing old InData) []) refl)
  doctype_start-tells old st (inr e) b s ok =
      rw e (doctype-item old b s ok false (forced no_doctype) (doctype_after (standing old InData) []) refl)

  -- in its name, a doctype with that name
  doctype_name-tells : (old : Tokenizer K) → EndTells Sink state.DoctypeName old a_fault
      (DoctypeToken (forced (record no_doctype { name = Some old.temporary })))
  unfolding held_at
  doctype_name-tells old b s ok = doctype-item old b s ok false
      (forced (record no_doctype { name = Some old.temporary }))
      (doctype_name_after (standing old InData) old.temporary []) (rw append-nil refl)

  -- after its name and part of a keyword, the doctype without that part
  keyword-tells : (old : Tokenizer K) → IsPart old.keyword → EndTells Sink state.AfterDoctypeName old a_fault
      (DoctypeToken (forced old.doctype))
  unfolding held_at
  keyword-tells old part b s ok =
      ap (λ u. plays Sink (rows_of old) (after_name (standing old InData) old.doctype u) b s u) (append-nil old.keyword)
      ∙ ap (λ i. plays Sink (rows_of old) i b s old.keyword) (part-identified (standing old InData) old.doctype old.keyword part)
      ∙ part-told old b s ok old.keyword (DoctypeToken (forced old.doctype)) part tt

  -- in an identifier, the doctype with it
  identifier-tells : (old : Tokenizer K) (st : State) (kind : DoctypeIdKind)
      → (st ≡ state.DoctypeIdentifierDoubleQuoted kind) ⊎ (st ≡ state.DoctypeIdentifierSingleQuoted kind)
      → EndTells Sink st old a_fault (DoctypeToken (forced (with_identifier kind old.doctype old.temporary)))
  unfolding held_at
  identifier-tells old st id.Public (inl e) b s ok =
      rw e (doctype-item old b s ok false (forced (with_identifier id.Public old.doctype old.temporary))
      (public_after 34 (standing old InData) old.doctype old.temporary []) (rw append-nil refl))
  identifier-tells old st id.System (inl e) b s ok =
      rw e (doctype-item old b s ok false (forced (with_identifier id.System old.doctype old.temporary))
      (system_after 34 (standing old InData) old.doctype old.temporary []) (rw append-nil refl))
  identifier-tells old st id.Public (inr e) b s ok =
      rw e (doctype-item old b s ok false (forced (with_identifier id.Public old.doctype old.temporary))
      (public_after 39 (standing old InData) old.doctype old.temporary []) (rw append-nil refl))
  identifier-tells old st id.System (inr e) b s ok =
      rw e (doctype-item old b s ok false (forced (with_identifier id.System old.doctype old.temporary))
      (system_after 39 (standing old InData) old.doctype old.temporary []) (rw append-nil refl))

  -- in junk, the doctype as it is
  junk-tells : (old : Tokenizer K) → EndTells Sink state.BogusDoctype old
      (owed_for (and_slight (grave_if old.doctype.force_quirks))) (DoctypeToken old.doctype)
  unfolding held_at
  junk-tells old b s ok = doctype-item old b s ok true old.doctype (junk_after (standing old InData) old.doctype []) refl

  -- beside a keyword or an identifier, the doctype as a faulty one
  doctype-tells : (old : Tokenizer K) (st : State) → is_doctype_part st ≡ true → (st ≡ state.Doctype → ⊥)
      → (st ≡ state.BeforeDoctypeName → ⊥) → (st ≡ state.DoctypeName → ⊥) → (st ≡ state.AfterDoctypeName → ⊥)
      → ((kind : DoctypeIdKind) → st ≡ state.DoctypeIdentifierDoubleQuoted kind → ⊥)
      → ((kind : DoctypeIdKind) → st ≡ state.DoctypeIdentifierSingleQuoted kind → ⊥) → (st ≡ state.BogusDoctype → ⊥)
      → EndTells Sink st old a_fault (DoctypeToken (forced old.doctype))
  unfolding held_at
  doctype-tells old (state.AfterDoctypeKeyword id.Public) h q r u v w x y b s ok = doctype-item old b s ok false (forced old.doctype) _ refl
  doctype-tells old (state.AfterDoctypeKeyword id.System) h q r u v w x y b s ok = doctype-item old b s ok false (forced old.doctype) _ refl
  doctype-tells old (state.BeforeDoctypeIdentifier id.Public) h q r u v w x y b s ok = doctype-item old b s ok false
      (forced old.doctype) _ refl
  doctype-tells old (state.BeforeDoctypeIdentifier id.System) h q r u v w x y b s ok = doctype-item old b s ok false
      (forced old.doctype) _ refl
  doctype-tells old (state.AfterDoctypeIdentifier id.Public) h q r u v w x y b s ok = doctype-item old b s ok false
      (forced old.doctype) _ refl
  doctype-tells old (state.AfterDoctypeIdentifier id.System) h q r u v w x y b s ok = doctype-item old b s ok false
      (forced old.doctype) _ refl
  doctype-tells old state.BetweenDoctypePublicAndSystemIdentifiers h q r u v w x y b s ok =
      doctype-item old b s ok false (forced old.doctype) _ refl
  doctype-tells old state.Doctype h q r u v w x y b s ok = absurd (q refl)
  doctype-tells old state.BeforeDoctypeName h q r u v w x y b s ok = absurd (r refl)
  doctype-tells old state.DoctypeName h q r u v w x y b s ok = absurd (u refl)
  doctype-tells old state.AfterDoctypeName h q r u v w x y b s ok = absurd (v refl)
  doctype-tells old (state.DoctypeIdentifierDoubleQuoted kind) h q r u v w x y b s ok = absurd (w kind refl)
  doctype-tells old (state.DoctypeIdentifierSingleQuoted kind) h q r u v w x y b s ok = absurd (x kind refl)
  doctype-tells old state.BogusDoctype h q r u v w x y b s ok = absurd (y refl)
  doctype-tells old _ h q r u v w x y b s ok = absurd cc

  -- CALLS

  -- The token of each state was told, or could not be told.
  module _ (old new : Tokenizer K) (result : Result (Unit {0}) ParseFault) (ok : Sink.is_sound (Sink.view old.sink)) where
    pub comment-closes : old.char_ref ≡ None → is_comment_part old.state ≡ true
        → (old.state ≡ state.MarkupDeclarationOpen → ⊥) → (old.state ≡ state.CommentStart → ⊥) → (old.state ≡ state.CommentStartDash → ⊥)
        → Tells Sink a_fault (CommentToken old.comment) (record old { comment = []; state = state.Data }) new result
        → Closes Sink old new result
    comment-closes fresh h x y z told = closes-told Sink a_fault old
        (record old { comment = []; state = state.Data }) new old.state (CommentToken old.comment) result
        (record { state = refl; fresh = fresh }) refl refl ok told (comment-tells old old.state h x y z)

    pub bogus-closes : IsAt old state.BogusComment
        → Tells Sink a_fault (CommentToken old.comment) (record old { comment = []; state = state.Data }) new result
        → Closes Sink old new result
    bogus-closes from told = closes-told Sink a_fault old (record old { comment = []; state = state.Data }) new
        state.BogusComment (CommentToken old.comment) result from refl refl ok told (bogus-tells old)

    pub start-closes : old.char_ref ≡ None → (old.state ≡ state.CommentStart) ⊎ (old.state ≡ state.CommentStartDash)
        → Tells Sink a_fault (CommentToken []) (record old { comment = []; state = state.Data }) new result → Closes Sink old new result
    start-closes fresh h told = closes-told Sink a_fault old (record old { comment = []; state = state.Data }) new
        old.state (CommentToken []) result (record { state = refl; fresh = fresh }) refl refl ok told (start-tells old old.state h)

    pub declaration-closes : (front : List ℕ) → IsAt old state.MarkupDeclarationOpen → IsPart old.keyword → front ≡ old.keyword
        → Tells Sink a_fault (CommentToken front) (record old { comment = []; state = state.Data }) new result → Closes Sink old new result
    declaration-closes front from part is told = closes-told Sink a_fault old
        (record old { comment = []; state = state.Data }) new state.MarkupDeclarationOpen (CommentToken front)
        result from refl refl ok told (rw is (declaration-tells old part))

    pub doctype_start-closes : old.char_ref ≡ None → (old.state ≡ state.Doctype) ⊎ (old.state ≡ state.BeforeDoctypeName)
        → Tells Sink a_fault (DoctypeToken (forced no_doctype))
        (record old { doctype = no_doctype; state = state.Data }) new result → Closes Sink old new result
    doctype_start-closes fresh h told = closes-told Sink a_fault old
        (record old { doctype = no_doctype; state = state.Data }) new old.state (DoctypeToken (forced no_doctype))
        result (record { state = refl; fresh = fresh }) refl refl ok told (doctype_start-tells old old.state h)

    pub doctype_name-closes : old.char_ref ≡ None → old.state ≡ state.DoctypeName
        → Tells Sink a_fault (DoctypeToken (forced (record no_doctype { name = Some old.temporary })))
        (record old { doctype = no_doctype; temporary = []; state = state.Data }) new result → Closes Sink old new result
    doctype_name-closes fresh h told = closes-told Sink a_fault old
        (record old { doctype = no_doctype; temporary = []; state = state.Data }) new state.DoctypeName
        (DoctypeToken (forced (record no_doctype { name = Some old.temporary }))) result
        (record { state = h; fresh = fresh }) refl refl ok told (doctype_name-tells old)

    pub keyword-closes : IsAt old state.AfterDoctypeName → IsPart old.keyword
        → Tells Sink a_fault (DoctypeToken (forced old.doctype))
        (record old { doctype = no_doctype; state = state.Data }) new result → Closes Sink old new result
    keyword-closes from part told = closes-told Sink a_fault old
        (record old { doctype = no_doctype; state = state.Data }) new state.AfterDoctypeName
        (DoctypeToken (forced old.doctype)) result from refl refl ok told (keyword-tells old part)

    pub identifier-closes : (kind : DoctypeIdKind) → old.char_ref ≡ None
        → (old.state ≡ state.DoctypeIdentifierDoubleQuoted kind) ⊎ (old.state ≡ state.DoctypeIdentifierSingleQuoted kind)
        → Tells Sink a_fault (DoctypeToken (forced (with_identifier kind old.doctype old.temporary)))
        (record old { doctype = no_doctype; temporary = []; state = state.Data }) new result → Closes Sink old new result
    identifier-closes kind fresh h told = closes-told Sink a_fault old
        (record old { doctype = no_doctype; temporary = []; state = state.Data }) new old.state
        (DoctypeToken (forced (with_identifier kind old.doctype old.temporary))) result
        (record { state = refl; fresh = fresh }) refl refl ok told (identifier-tells old old.state kind h)

    pub junk-closes : old.char_ref ≡ None → old.state ≡ state.BogusDoctype
        → Tells Sink (owed_for (grave_if old.doctype.force_quirks)) (DoctypeToken old.doctype)
        (record old { doctype = no_doctype; state = state.Data }) new result → Closes Sink old new result
    junk-closes fresh h told =
        let told' = tells-less Sink laws (owed_for (grave_if old.doctype.force_quirks))
        (owed_for (and_slight (grave_if old.doctype.force_quirks)))
        (record old { doctype = no_doctype; state = state.Data }) new (DoctypeToken old.doctype) result
        (slighted-no-more true (grave_if old.doctype.force_quirks)) told in
        closes-told Sink (owed_for (and_slight (grave_if old.doctype.force_quirks))) old
        (record old { doctype = no_doctype; state = state.Data }) new state.BogusDoctype
        (DoctypeToken old.doctype) result (record { state = h; fresh = fresh }) refl refl ok told' (junk-tells old)

    pub doctype-closes : old.char_ref ≡ None → is_doctype_part old.state ≡ true → (old.state ≡ state.Doctype → ⊥)
        → (old.state ≡ state.BeforeDoctypeName → ⊥) → (old.state ≡ state.DoctypeName → ⊥) → (old.state ≡ state.AfterDoctypeName → ⊥)
        → ((kind : DoctypeIdKind) → old.state ≡ state.DoctypeIdentifierDoubleQuoted kind → ⊥)
        → ((kind : DoctypeIdKind) → old.state ≡ state.DoctypeIdentifierSingleQuoted kind → ⊥) → (old.state ≡ state.BogusDoctype → ⊥)
        → Tells Sink a_fault (DoctypeToken (forced old.doctype))
        (record old { doctype = no_doctype; state = state.Data }) new result → Closes Sink old new result
    doctype-closes fresh h q r u v w x y told = closes-told Sink a_fault old
        (record old { doctype = no_doctype; state = state.Data }) new old.state (DoctypeToken (forced old.doctype))
        result (record { state = refl; fresh = fresh }) refl refl ok told (doctype-tells old old.state h q r u v w x y)
