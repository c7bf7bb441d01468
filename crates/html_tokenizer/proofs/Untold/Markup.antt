-- A "<" or "</" in data may open a tag or a comment; comments, declarations and doctypes whose front is held end at ">" or "-->".
use Rattle.std.proofs.Common.{◌≡◌, ◌∙◌, ℕ, length, Bool, true, false, List, [], ◌∷◌, ◌++◌, Some, None, refl, ap, lit<}
use Rattle.std.specs.Prelude.{codes}
use Rattle.std.specs.List.{list_all}
use Rattle.html_tokens.specs.declared.states.DoctypeIdKind.{DoctypeIdKind}
use Rattle.html_tokens.specs.declared.states.DoctypeIdKind.TheVariants as id
use Rattle.html_tokens.specs.declared.states.State.{State}
use Rattle.html_tokens.specs.declared.states.State.TheVariants as state
use Rattle.html_tokens.specs.declared.token.Doctype.{Doctype}
use Rattle.html_tokens.specs.declared.token.Token.TheVariants.{CommentToken}
use Rattle.html_tokens.specs.Comments.{comment_after}
use Rattle.html_tokens.specs.Doctypes.{after_name, forced, given, given_more, no_doctype}
use Rattle.html_tokens.specs.Item.{Grave, InData, Stand, Item, longer_by, token_item}
use Rattle.html_tokens.specs.Items.{declaration_at}
use Rattle.html_tokens.specs.Table.{Row}
use Rattle.html_tokens.proofs.CleanComments.{end-mark}
use Rattle.html_tokens.proofs.Readings.{reading-item}
use Rattle.html_tokenizer_parts.specs.declared.keyword.Word.{Word}
use Rattle.html_tokenizer_parts.specs.declared.keyword.Word.TheVariants as word
use Rattle.html_tokenizer.specs.declared.tokenizer.Tokenizer.{Tokenizer}
use Rattle.html_tokenizer_parts.specs.Keywords.{becomes, may_become, may_declare, may_identify, IsPart}
use Rattle.html_tokenizer.specs.Rest.{rows_of, standing, with_identifier, held_at, played}
use Rattle.html_tokenizer.specs.Untold.{Untold, Front}
use Rattle.html_tokenizer.proofs.Declarations.Openings.{bogus-declared, nothing-begun}
use Rattle.html_tokenizer.proofs.Declarations.DoctypeKeywords.{name-word, junk-read}
use Rattle.html_tokenizer_parts.proofs.Keywords.{begun-part, is_plain, last-plain, part-plain, plain-break, word-plain}
use Rattle.html_tokenizer.proofs.Steps.Readings.{play-is, sum-zero}
use Rattle.html_tokenizer.proofs.Untold.Completing.{all-pass, by-mark, is_inline, play-inline}
use Rattle.html_tokenizer.specs.Listeners.{Listener, emitted_item}

-- ITEMS

comment-closed : (st : Stand) (front t : List ℕ) → comment_after st front (45 ∷ 45 ∷ 62 ∷ t) ≡ token_item None (CommentToken front) 3 st
comment-closed st front t = rw (end-mark t) refl

-- WORDS BEFORE ">"

not-true : (b : Bool) → (b ≡ true → ⊥) → b ≡ false
not-true true h = absurd (h refl)
not-true false h = refl

never-plain : (cs : List ℕ) → list_all is_plain (cs ++ 62 ∷ []) ≡ true → ⊥
never-plain cs h = let e : false ≡ true = last-plain cs 62 h in cc

no-word : (w : Word) (cs : List ℕ) → becomes w (cs ++ 62 ∷ []) ≡ false
no-word w cs = not-true (becomes w (cs ++ 62 ∷ [])) (λ h. never-plain cs (word-plain w (cs ++ 62 ∷ []) h))

no-part : (w : Word) (cs : List ℕ) → may_become w (cs ++ 62 ∷ []) ≡ false
no-part w cs = not-true (may_become w (cs ++ 62 ∷ [])) (λ h. never-plain cs (part-plain (cs ++ 62 ∷ []) (record { word = w; begun = h })))

declares-none : (cs : List ℕ) → may_declare cs 62 ≡ false
declares-none cs = rw (no-part word.Dashes cs, no-part word.Doctype cs, no-part word.Cdata cs) refl

identifies-none : (cs : List ℕ) → may_identify cs 62 ≡ false
identifies-none cs = rw (no-part word.Public cs, no-part word.System cs) refl

plain-inline : (cs : List ℕ) → list_all is_plain cs ≡ true → list_all is_inline cs ≡ true
plain-inline cs h = all-pass is_plain is_inline (λ c p. rw (plain-break c p) refl) cs h

-- ">" after the front of a word makes a bogus comment after "<!", and junk in a doctype
word-bogus : (asks : Bool) (st : Stand) (cs t : List ℕ) → IsPart cs → declaration_at asks st
    (cs ++ 62 ∷ t) ≡ longer_by 2 (longer_by (length cs) (token_item (Some Grave) (CommentToken cs) 1 st))
word-bogus asks st cs t part = bogus-declared asks st cs 62 t part
    (nothing-begun asks cs 62 part (record {
      dashes = no-word word.Dashes cs;
      doctype = no-word word.Doctype cs;
      cdata = no-word word.Cdata cs;
    }) (declares-none cs))

word-junk : (st : Stand) (d : Doctype) (x : ℕ) (cs t : List ℕ) → IsPart (x ∷ cs)
    → after_name st d (x ∷ (cs ++ 62 ∷ t)) ≡ longer_by (length (x ∷ cs)) (given_more st (forced d) 1)
word-junk st d x cs t part =
    name-word st d (x ∷ cs) 62 t (begun-part x cs (part-plain (x ∷ cs) part))
    ∙ junk-read st d (x ∷ cs) 62 t part
    (record { public_word = no-word word.Public (x ∷ cs); system_word = no-word word.System (x ∷ cs) }) (identifies-none (x ∷ cs))

module _ {T : Type 0} (to : Listener T) (rows : List Row) where
  -- an item after "<!" and characters of words
  play-declared : (cs t : List ℕ) (j : Item) (b : ℕ) (s : T) → list_all is_plain cs ≡ true → emitted_item to rows
      (longer_by 2 (longer_by (length cs) j)) b s (60 ∷ 33 ∷ (cs ++ t)) ≡ emitted_item to rows j b s t
  play-declared cs t j b s h =
      let all = longer_by (length cs) j in
      play-is to rows (longer_by 2 all) (longer_by 1 all) b s 60 (33 ∷ (cs ++ t)) refl
      ∙ ap (λ n. emitted_item to rows (longer_by 1 all) n s (33 ∷ (cs ++ t))) (sum-zero b)
      ∙ play-is to rows (longer_by 1 all) all b s 33 (cs ++ t) refl
      ∙ ap (λ n. emitted_item to rows all n s (cs ++ t)) (sum-zero b)
      ∙ play-inline to rows cs t j b s (plain-inline cs h)

-- STATES

module _ (T : Type 0) {K : Type 0} (k : Tokenizer K) where
  -- "?>" makes a bogus comment of both
  pub open-front : Untold T state.TagOpen k
  unfolding held_at
  open-front = Front (record {
    more = codes "?>";
    item = token_item (Some Grave) (CommentToken (codes "?")) 2 (standing k InData);
    some = lit< tt;
    whole = refl;
    markup = refl;
    same = λ to b s t. reading-item to.step to.erred to.cdata to.ends (rows_of k) (standing k InData) b s 60 (63 ∷ 62 ∷ t);
  })

  pub end_open-front : Untold T state.EndTagOpen k
  unfolding held_at
  end_open-front = Front (record {
    more = codes "?>";
    item = token_item (Some Grave) (CommentToken (codes "?")) 2 (standing k InData);
    some = lit< tt;
    whole = refl;
    markup = refl;
    same = λ to b s t. reading-item to.step to.erred to.cdata to.ends (rows_of k) (standing k InData) b s 60 (47 ∷ 63 ∷ 62 ∷ t);
  })

  pub declaration-front : IsPart k.keyword → Untold T state.MarkupDeclarationOpen k
  unfolding held_at
  declaration-front part = by-mark T k state.MarkupDeclarationOpen
      (token_item (Some Grave) (CommentToken k.keyword) 1 (standing k InData)) refl refl (λ to b s t.
      reading-item to.step to.erred to.cdata to.ends (rows_of k) (standing k InData) b s 60 (33 ∷ (k.keyword ++ 62 ∷ t))
      ∙ ap (λ i. played to i k b s (60 ∷ 33 ∷ (k.keyword ++ 62 ∷ t))) (word-bogus (to.cdata s) (standing k InData) k.keyword t part)
      ∙ play-declared to (rows_of k) k.keyword (62 ∷ t)
      (token_item (Some Grave) (CommentToken k.keyword) 1 (standing k InData)) b s (part-plain k.keyword part))

  -- comments
  pub bogus-front : Untold T state.BogusComment k
  unfolding held_at
  bogus-front = by-mark T k state.BogusComment
      (token_item (Some Grave) (CommentToken k.comment) 1 (standing k InData)) refl refl (λ to b s t. refl)

  pub comment_start-front : Untold T state.CommentStart k
  unfolding held_at
  comment_start-front = by-mark T k state.CommentStart
      (token_item (Some Grave) (CommentToken []) 1 (standing k InData)) refl refl (λ to b s t. refl)

  pub comment_start_dash-front : Untold T state.CommentStartDash k
  unfolding held_at
  comment_start_dash-front = by-mark T k state.CommentStartDash
      (token_item (Some Grave) (CommentToken []) 1 (standing k InData)) refl refl (λ to b s t. refl)

  -- in a comment, after what may open another or not
  abbrev InComment : State → Type 0
  InComment st = (to : Listener T) (b : ℕ) (s : T) (t : List ℕ) → held_at to st k b s t ≡ played to
      (comment_after (standing k InData) k.comment t) k b s t

  comment-front_at : (st : State) → InComment st → Untold T st k
  comment-front_at st same = Front (record {
    more = codes "-->";
    item = token_item None (CommentToken k.comment) 3 (standing k InData);
    some = lit< tt;
    whole = refl;
    markup = refl;
    same = λ to b s t.
        same to b s (45 ∷ 45 ∷ 62 ∷ t)
        ∙ ap (λ i. played to i k b s (45 ∷ 45 ∷ 62 ∷ t)) (comment-closed (standing k InData) k.comment t);
  })

  pub comment-front : Untold T state.Comment k
  unfolding held_at
  comment-front = comment-front_at state.Comment (λ to b s t. refl)

  pub comment_less_than-front : Untold T state.CommentLessThanSign k
  unfolding held_at
  comment_less_than-front = comment-front_at state.CommentLessThanSign (λ to b s t. refl)

  pub comment_bang-front : Untold T state.CommentLessThanSignBang k
  unfolding held_at
  comment_bang-front = comment-front_at state.CommentLessThanSignBang (λ to b s t. refl)

  -- after "-" in one
  abbrev AfterDash : State → Type 0
  AfterDash st = (to : Listener T) (b : ℕ) (s : T) (t : List ℕ) → held_at to st k b s t ≡ played to
      (comment_after (standing k InData) k.comment (45 ∷ t)) k b s (45 ∷ t)

  dash-front_at : (st : State) → AfterDash st → Untold T st k
  dash-front_at st same = Front (record {
    more = codes "->";
    item = token_item None (CommentToken k.comment) 2 (standing k InData);
    some = lit< tt;
    whole = refl;
    markup = refl;
    same = λ to b s t.
        same to b s (45 ∷ 62 ∷ t)
        ∙ ap (λ i. played to i k b s (45 ∷ 45 ∷ 62 ∷ t)) (comment-closed (standing k InData) k.comment t);
  })

  pub comment_bang_dash-front : Untold T state.CommentLessThanSignBangDash k
  unfolding held_at
  comment_bang_dash-front = dash-front_at state.CommentLessThanSignBangDash (λ to b s t. refl)

  pub comment_end_dash-front : Untold T state.CommentEndDash k
  unfolding held_at
  comment_end_dash-front = dash-front_at state.CommentEndDash (λ to b s t. refl)

  -- after "--", and "--!"
  pub comment_bang_dashes-front : Untold T state.CommentLessThanSignBangDashDash k
  unfolding held_at
  comment_bang_dashes-front = by-mark T k state.CommentLessThanSignBangDashDash
      (token_item None (CommentToken k.comment) 1 (standing k InData)) refl refl
      (λ to b s t. ap (λ i. played to i k b s (45 ∷ 45 ∷ 62 ∷ t)) (comment-closed (standing k InData) k.comment t))

  pub comment_end-front : Untold T state.CommentEnd k
  unfolding held_at
  comment_end-front = by-mark T k state.CommentEnd (token_item None (CommentToken k.comment) 1 (standing k InData))
      refl refl (λ to b s t. ap (λ i. played to i k b s (45 ∷ 45 ∷ 62 ∷ t)) (comment-closed (standing k InData) k.comment t))

  pub comment_end_bang-front : Untold T state.CommentEndBang k
  unfolding held_at
  comment_end_bang-front = by-mark T k state.CommentEndBang
      (token_item (Some Grave) (CommentToken k.comment) 1 (standing k InData)) refl refl (λ to b s t. refl)

  -- doctypes
  pub doctype-front : Untold T state.Doctype k
  unfolding held_at
  doctype-front = by-mark T k state.Doctype (given (standing k InData) (forced no_doctype) 1) refl refl (λ to b s t. refl)

  pub before_doctype-front : Untold T state.BeforeDoctypeName k
  unfolding held_at
  before_doctype-front = by-mark T k state.BeforeDoctypeName (given (standing k InData) (forced no_doctype) 1) refl refl (λ to b s t. refl)

  pub doctype_name-front : Untold T state.DoctypeName k
  unfolding held_at
  doctype_name-front =
      let d : Doctype = record no_doctype { name = Some (k.temporary ++ []) } in
      by-mark T k state.DoctypeName (given (standing k InData) d 1) refl refl (λ to b s t. refl)

  -- after the name: no keyword, or the front of one
  pub after_doctype_name-front : IsPart k.keyword → Untold T state.AfterDoctypeName k
  unfolding held_at
  after_doctype_name-front part = by-keyword k.keyword refl part
    where
      by-keyword : (cs : List ℕ) → k.keyword ≡ cs → IsPart cs → Untold T state.AfterDoctypeName k
      by-keyword [] is part = by-mark T k state.AfterDoctypeName (given (standing k InData) k.doctype 1) refl refl (λ to b s t.
          ap (λ w. played to (after_name (standing k InData) k.doctype (w ++ 62 ∷ t)) k b s (w ++ 62 ∷ t)) is)
      by-keyword (x ∷ cs) is part = by-mark T k state.AfterDoctypeName
          (given_more (standing k InData) (forced k.doctype) 1) refl refl (λ to b s t.
          ap (λ w. played to (after_name (standing k InData) k.doctype (w ++ 62 ∷ t)) k b s (w ++ 62 ∷ t)) is
          ∙ ap (λ i. played to i k b s (x ∷ (cs ++ 62 ∷ t))) (word-junk (standing k InData) k.doctype x cs t part)
          ∙ play-inline to (rows_of k) (x ∷ cs) (62 ∷ t) (given_more (standing k InData) (forced k.doctype) 1) b s
          (plain-inline (x ∷ cs) (part-plain (x ∷ cs) part)))

  pub keyword-front : (which : DoctypeIdKind) → Untold T (state.AfterDoctypeKeyword which) k
  unfolding held_at
  keyword-front id.Public = by-mark T k (state.AfterDoctypeKeyword id.Public)
      (given (standing k InData) (forced k.doctype) 1) refl refl (λ to b s t. refl)
  keyword-front id.System = by-mark T k (state.AfterDoctypeKeyword id.System)
      (given (standing k InData) (forced k.doctype) 1) refl refl (λ to b s t. refl)

  pub before_identifier-front : (which : DoctypeIdKind) → Untold T (state.BeforeDoctypeIdentifier which) k
  unfolding held_at
  before_identifier-front id.Public = by-mark T k (state.BeforeDoctypeIdentifier id.Public)
      (given (standing k InData) (forced k.doctype) 1) refl refl (λ to b s t. refl)
  before_identifier-front id.System = by-mark T k (state.BeforeDoctypeIdentifier id.System)
      (given (standing k InData) (forced k.doctype) 1) refl refl (λ to b s t. refl)

  -- in an identifier, which ">" cuts off
  pub double_quoted-front : (which : DoctypeIdKind) → Untold T (state.DoctypeIdentifierDoubleQuoted which) k
  unfolding held_at
  double_quoted-front id.Public = by-mark T k (state.DoctypeIdentifierDoubleQuoted id.Public)
      (given (standing k InData) (forced (with_identifier id.Public k.doctype (k.temporary ++ []))) 1) refl refl (λ to b s t. refl)
  double_quoted-front id.System = by-mark T k (state.DoctypeIdentifierDoubleQuoted id.System)
      (given (standing k InData) (forced (with_identifier id.System k.doctype (k.temporary ++ []))) 1) refl refl (λ to b s t. refl)

  pub single_quoted-front : (which : DoctypeIdKind) → Untold T (state.DoctypeIdentifierSingleQuoted which) k
  unfolding held_at
  single_quoted-front id.Public = by-mark T k (state.DoctypeIdentifierSingleQuoted id.Public)
      (given (standing k InData) (forced (with_identifier id.Public k.doctype (k.temporary ++ []))) 1) refl refl (λ to b s t. refl)
  single_quoted-front id.System = by-mark T k (state.DoctypeIdentifierSingleQuoted id.System)
      (given (standing k InData) (forced (with_identifier id.System k.doctype (k.temporary ++ []))) 1) refl refl (λ to b s t. refl)

  pub after_identifier-front : (which : DoctypeIdKind) → Untold T (state.AfterDoctypeIdentifier which) k
  unfolding held_at
  after_identifier-front id.Public = by-mark T k (state.AfterDoctypeIdentifier id.Public)
      (given_more (standing k InData) k.doctype 1) refl refl (λ to b s t. refl)
  after_identifier-front id.System = by-mark T k (state.AfterDoctypeIdentifier id.System)
      (given_more (standing k InData) k.doctype 1) refl refl (λ to b s t. refl)

  pub between-front : Untold T state.BetweenDoctypePublicAndSystemIdentifiers k
  unfolding held_at
  between-front = by-mark T k state.BetweenDoctypePublicAndSystemIdentifiers
      (given_more (standing k InData) k.doctype 1) refl refl (λ to b s t. refl)

  pub bogus_doctype-front : Untold T state.BogusDoctype k
  unfolding held_at
  bogus_doctype-front = by-mark T k state.BogusDoctype (given_more (standing k InData) k.doctype 1) refl refl (λ to b s t. refl)
