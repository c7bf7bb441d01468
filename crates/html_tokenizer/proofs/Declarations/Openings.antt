-- What stands after "<!", and what the machine makes of it.
use Rattle.std.proofs.Common.{◌≡◌, ◌∙◌, ℕ, ◌+◌, length, Bool, true, false, ◌||◌, nat_eq, List, [], ◌∷◌, ◌++◌, drop, Result}
use Rattle.std.proofs.Common.{refl, sym, ap, append_assoc}
use Rattle.std.specs.Prelude.{◌&&◌, codes}
use Rattle.std.specs.List.{list_all}
use Rattle.markup.specs.declared.fault.ParseFault.{ParseFault}
use Rattle.html_tokens.specs.declared.replies.ProcessResult.{ProcessResult}
use Rattle.html_tokens.specs.declared.replies.ProcessResult.TheVariants as flow
use Rattle.html_tokens.specs.declared.states.State.TheVariants as state
use Rattle.html_tokens.specs.declared.sink.TokenSink.{Ghosts}
use Rattle.html_tokens.specs.Comments.{comment_at, bogus_comment_after}
use Rattle.html_tokens.specs.Doctypes.{doctype_at}
use Rattle.html_tokens.specs.Item.{Stand, Item, InData, InCdata, moved, longer, longer_by, silent}
use Rattle.html_tokens.specs.Items.{declaration_at, declaration_by}
use Rattle.html_tokens.specs.Notes.{Notes}
use Rattle.html_tokens.specs.Reading.{line_break}
use Rattle.html_tokens.specs.Sink.{SinkLaws}
use Rattle.html_tokenizer_parts.specs.declared.keyword.Word.{Word}
use Rattle.html_tokenizer_parts.specs.declared.keyword.Word.TheVariants as word
use Rattle.html_tokenizer_parts.specs.declared.error_code.ErrorCode.{ErrorCode}
use Rattle.html_tokenizer.specs.declared.tokenizer.Tokenizer.{Tokenizer}
use Rattle.html_tokenizer_parts.specs.Keywords.{becomes, may_become, may_declare, IsPart, MakesNoWord, OpensNothing}
use Rattle.html_tokenizer.specs.Rest.{rows_of, standing, held_at}
use Rattle.html_tokenizer.specs.Steps.{IsAt, Took, Keeps, nothing_owed, reads, plays}
use Rattle.html_tokenizer.proofs.Errors.Rises.{rises-same}
use Rattle.html_tokenizer.proofs.Steps.TokenEnds.{behind-one}
use Rattle.html_tokenizer.proofs.Steps.Keeping.{at, fits-at, stays-same, keeps-along, no-break, now-at, took}
use Rattle.html_tokenizer_parts.proofs.Keywords.{and_both, or_parts, is_plain, part-plain, word-plain, last-plain, plain-break}
use Rattle.html_tokenizer_parts.proofs.Keywords.{spelt-begins, spelt-length, word-apart, word-stops, bogus-behind}
use Rattle.html_tokenizer.proofs.Tags.Opens.{opened}
use Rattle.html_tokenizer.proofs.Steps.Readings.{play-nothing}
use Rattle.html_tokenizer_parts.proofs.Words.{and_parts}
use Rattle.html_tokenizer.specs.Listeners.{listening}

-- ITEMS

pub drop-front : (w t : List ℕ) → drop (length w) (w ++ t) ≡ t
drop-front [] t = refl
drop-front (c ∷ w) t = drop-front w t

-- an item after a word of n characters
pub behind-word : (next : List ℕ → Item) (w t : List ℕ) (n : ℕ) → length w ≡ n
    → longer_by n (next (drop n (w ++ t))) ≡ longer_by (length w) (next t)
behind-word next w t n e = rw (← e, drop-front w t) refl

comment-by : (d s : Bool) (b : Bool) (st : Stand) (t : List ℕ) → b ≡ true → declaration_by b d s st t ≡ longer_by 4
    (comment_at st (drop 2 t))
comment-by d s b st t e = rw e refl

doctype-by : (a b s : Bool) (st : Stand) (t : List ℕ) → a ≡ false → b ≡ true → declaration_by a b s st t ≡ longer_by
    9 (doctype_at st (drop 7 t))
doctype-by a b s st t e f = rw (e, f) refl

cdata-by : (a b s : Bool) (st : Stand) (t : List ℕ) → a ≡ false → b ≡ false → s ≡ true
    → declaration_by a b s st t ≡ silent 9 (moved st InCdata)
cdata-by a b s st t e f g = rw (e, f, g) refl

bogus-by : (a b s : Bool) (st : Stand) (t : List ℕ) → a ≡ false → b ≡ false → s ≡ false
    → declaration_by a b s st t ≡ longer_by 2 (bogus_comment_after st [] t)
bogus-by a b s st t e f g = rw (e, f, g) refl

comment-declared : (asks : Bool) (st : Stand) (w t : List ℕ) → becomes word.Dashes w ≡ true → declaration_at asks st
    (w ++ t) ≡ longer_by 2 (longer_by (length w) (comment_at st t))
comment-declared asks st w t h =
    comment-by _ _ _ st (w ++ t) (spelt-begins false (codes "--") w t h)
    ∙ ap (longer_by 2) (behind-word (comment_at st) w t 2 (spelt-length false (codes "--") w h))

doctype-declared : (asks : Bool) (st : Stand) (w t : List ℕ) → becomes word.Doctype w ≡ true
    → declaration_at asks st (w ++ t) ≡ longer_by 2 (longer_by (length w) (doctype_at st t))
doctype-declared asks st w t h =
    doctype-by _ _ _ st (w ++ t) (word-apart word.Doctype word.Dashes w t refl h) (spelt-begins true (codes "doctype") w t h)
    ∙ ap (longer_by 2) (behind-word (doctype_at st) w t 7 (spelt-length true (codes "doctype") w h))

cdata-declared : (asks : Bool) (st : Stand) (w t : List ℕ) → asks ≡ true → becomes word.Cdata w ≡ true
    → declaration_at asks st (w ++ t) ≡ longer_by 2 (longer_by (length w) (silent 0 (moved st InCdata)))
cdata-declared asks st w t a h =
    cdata-by _ _ _ st (w ++ t) (word-apart word.Cdata word.Dashes w t refl h)
    (word-apart word.Cdata word.Doctype w t refl h) (and_both asks _ a (spelt-begins false (codes "[CDATA[") w t h))
    ∙ ap (λ n. longer_by 2 (longer_by n (silent 0 (moved st InCdata)))) (sym (spelt-length false (codes "[CDATA[") w h))

pub bogus-declared : (asks : Bool) (st : Stand) (cs : List ℕ) (c : ℕ) (t : List ℕ) → IsPart cs
    → OpensNothing asks cs c → declaration_at asks st (cs ++ c ∷ t) ≡ longer_by 2
    (longer_by (length cs) (bogus_comment_after st cs (c ∷ t)))
bogus-declared asks st cs c t part h =
    bogus-by _ _ _ st (cs ++ c ∷ t) (h.dashes t) (h.doctype t) (h.cdata t)
    ∙ ap (longer_by 2) (bogus-behind st [] cs (c ∷ t) (part-plain cs part))

and_none : (a b : Bool) → b ≡ false → (a && b) ≡ false
and_none true b e = e
and_none false b e = refl

-- What c makes no word and no beginning of one is the front of a bogus comment.
pub nothing-begun : (asks : Bool) (cs : List ℕ) (c : ℕ) → IsPart cs → MakesNoWord cs c → may_declare cs c ≡ false → OpensNothing asks cs c
nothing-begun asks cs c part whole h =
    let p = or_parts (may_become word.Dashes (cs ++ c ∷ []) || may_become word.Doctype (cs ++ c ∷ []))
    (may_become word.Cdata (cs ++ c ∷ [])) h in
    let q = or_parts (may_become word.Dashes (cs ++ c ∷ [])) (may_become word.Doctype (cs ++ c ∷ [])) p.0 in
    record {
      dashes = λ t. word-stops word.Dashes cs c t part whole.dashes q.0;
      doctype = λ t. word-stops word.Doctype cs c t part whole.doctype q.1;
      cdata = λ t. and_none asks _ (word-stops word.Cdata cs c t part whole.cdata p.1);
    }

-- c goes on in a word
pub part-more : (cs : List ℕ) (c : ℕ) → may_declare cs c ≡ true → IsPart (cs ++ c ∷ [])
part-more cs c h = by-word (may_become word.Dashes (cs ++ c ∷ [])) (may_become word.Doctype (cs ++ c ∷ []))
    (may_become word.Cdata (cs ++ c ∷ [])) refl refl refl h
  where
    by-word : (x y z : Bool) → may_become word.Dashes (cs ++ c ∷ []) ≡ x → may_become word.Doctype
        (cs ++ c ∷ []) ≡ y → may_become word.Cdata (cs ++ c ∷ []) ≡ z → (x || y || z) ≡ true → IsPart (cs ++ c ∷ [])
    by-word true y z e f g h = record { word = word.Dashes; begun = e }
    by-word false true z e f g h = record { word = word.Doctype; begun = f }
    by-word false false z e f g h = record { word = word.Cdata; begun = g ∙ h }

-- STATES

module _ {K H : Type 0} (Sink : Ghosts K H) (laws : SinkLaws Sink.is_sound Sink.step Sink.ended Sink.is_quiet) where
  -- an item after characters of words
  pub play-plain : (old : Tokenizer K) (cs t : List ℕ) (j : Item) (b : ℕ) (s : Sink.State × Notes ℕ) → list_all is_plain cs ≡ true
      → plays Sink (rows_of old) (longer_by (length cs) j) b s (cs ++ t) ≡ plays Sink (rows_of old) j b s t
  play-plain old [] t j b s h = refl
  play-plain old (c ∷ cs) t j b s h =
      let p = and_parts (is_plain c) (list_all is_plain cs) h in
      behind-one Sink laws old c (plain-break c p.0) (longer_by (length (c ∷ cs)) j) (longer_by (length cs) j) b s (cs ++ t) refl
      ∙ play-plain old cs t j b s p.1

  -- a declaration, read from after what was read of it
  read-declared : (old : Tokenizer K) (cs t : List ℕ) (j : Item) (b : ℕ) (s : Sink.State × Notes ℕ)
      → list_all is_plain cs ≡ true → declaration_at (Sink.asks_cdata s.0) (standing old InData)
      (cs ++ t) ≡ longer_by 2 (longer_by (length cs) j)
      → reads Sink (rows_of old) (standing old InData) b s (60 ∷ 33 ∷ (cs ++ t)) ≡ plays Sink (rows_of old) j b s t
  read-declared old cs t j b s h is =
      opened Sink laws old b s (33 ∷ (cs ++ t)) (longer (longer_by (length cs) j)) is
      ∙ behind-one Sink laws old 33 refl (longer (longer_by (length cs) j)) (longer_by (length cs) j) b s (cs ++ t) refl
      ∙ play-plain old cs t j b s h

  -- the same where c makes the word whole
  read-word : (old : Tokenizer K) (cs : List ℕ) (c : ℕ) (t : List ℕ) (w : Word) (j : Item) (b : ℕ)
      (s : Sink.State × Notes ℕ) → becomes w (cs ++ c ∷ []) ≡ true → declaration_at (Sink.asks_cdata s.0)
      (standing old InData) ((cs ++ c ∷ []) ++ t) ≡ longer_by 2 (longer_by (length (cs ++ c ∷ [])) j)
      → reads Sink (rows_of old) (standing old InData) b s (60 ∷ 33 ∷ (cs ++ c ∷ t)) ≡ plays Sink (rows_of old) j
      (b + line_break (nat_eq c 10)) s t
  read-word old cs c t w j b s h is =
      let plain : list_all is_plain (cs ++ c ∷ []) ≡ true = word-plain w (cs ++ c ∷ []) h in
      ap (λ u. reads Sink (rows_of old) (standing old InData) b s (60 ∷ 33 ∷ u)) (sym (append_assoc cs (c ∷ []) t))
      ∙ read-declared old (cs ++ c ∷ []) t j b s plain is
      ∙ ap (λ x. plays Sink (rows_of old) j x s t) (sym (no-break b c (plain-break c (last-plain cs c plain))))

  module _ (old : Tokenizer K) (c : ℕ) (from : IsAt old state.MarkupDeclarationOpen) (ok : Sink.is_sound (Sink.view old.sink)) where
    pub comment-opened : becomes word.Dashes (old.keyword ++ c ∷ []) ≡ true
        → Took Sink old (record old { state = state.CommentStart }) c flow.Continue
    unfolding held_at
    comment-opened h = took Sink old (record old { state = state.CommentStart }) c state.MarkupDeclarationOpen
        state.CommentStart from (record { state = refl; fresh = from.fresh }) refl refl ok
        (λ b s t. read-word old old.keyword c t word.Dashes (comment_at (standing old InData) t) b s h
        (comment-declared (Sink.asks_cdata s.0) (standing old InData) (old.keyword ++ c ∷ []) t h))

    pub doctype-opened : becomes word.Doctype (old.keyword ++ c ∷ []) ≡ true
        → Took Sink old (record old { state = state.Doctype }) c flow.Continue
    unfolding held_at
    doctype-opened h = took Sink old (record old { state = state.Doctype }) c state.MarkupDeclarationOpen
        state.Doctype from (record { state = refl; fresh = from.fresh }) refl refl ok
        (λ b s t. read-word old old.keyword c t word.Doctype (doctype_at (standing old InData) t) b s h
        (doctype-declared (Sink.asks_cdata s.0) (standing old InData) (old.keyword ++ c ∷ []) t h))

    -- a section, where the sink says so
    cdata-read : (b : ℕ) (s : Sink.State × Notes ℕ) (t : List ℕ) → Sink.asks_cdata s.0 ≡ true → becomes word.Cdata
        (old.keyword ++ c ∷ []) ≡ true
        → at Sink state.MarkupDeclarationOpen old b s (c ∷ t) ≡ at Sink state.CdataSection
        (record old { state = state.CdataSection }) (b + line_break (nat_eq c 10)) s t
    unfolding held_at
    cdata-read b s t asks h =
        read-word old old.keyword c t word.Cdata (silent 0 (standing old InCdata)) b s h
        (cdata-declared (Sink.asks_cdata s.0) (standing old InData) (old.keyword ++ c ∷ []) t asks h)
        ∙ play-nothing (listening Sink) (rows_of old) (standing old InCdata) (b + line_break (nat_eq c 10)) s t

    pub cdata-opened : Sink.asks_cdata (Sink.view old.sink) ≡ true → becomes word.Cdata
        (old.keyword ++ c ∷ []) ≡ true → Took Sink old (record old { state = state.CdataSection }) c flow.Continue
    cdata-opened asks h = record {
      owed = nothing_owed;
      rises = rises-same Sink.errors old.sink old.sink refl;
      same = λ notes t.
          now-at Sink old state.MarkupDeclarationOpen old.stream.breaks (Sink.view old.sink, notes) (c ∷ t) from
          ∙ cdata-read old.stream.breaks (Sink.view old.sink, notes) t asks h
          ∙ sym (now-at Sink (record old { state = state.CdataSection }) state.CdataSection
          (old.stream.breaks + line_break (nat_eq c 10)) (Sink.view old.sink, notes) t (record { state = refl; fresh = from.fresh }));
      stream = refl;
      sound = ok;
      fits = fits-at (record old { state = state.CdataSection }) state.CdataSection (record { state = refl; fresh = from.fresh });
      stays = stays-same Sink old.sink old.sink refl;
      paused = tt;
    }

    -- a character more of a word
    pub declaration-push : (front : List ℕ) → may_declare old.keyword c ≡ true → front ≡ old.keyword ++ c ∷
        [] → Took Sink old (record old { keyword = front }) c flow.Continue
    unfolding held_at
    declaration-push front h is = rw is (
        let plain : is_plain c ≡ true = last-plain old.keyword c (part-plain (old.keyword ++ c ∷ []) (part-more old.keyword c h)) in
        took Sink old (record old { keyword = old.keyword ++ c ∷ [] }) c state.MarkupDeclarationOpen
        state.MarkupDeclarationOpen from (record { state = from.state; fresh = from.fresh }) refl refl ok
        (λ b s t.
        ap (λ u. reads Sink (rows_of old) (standing old InData) b s (60 ∷ 33 ∷ u)) (sym (append_assoc old.keyword (c ∷ []) t))
        ∙ ap (λ x. reads Sink (rows_of old) (standing old InData) x s (60 ∷ 33 ∷ ((old.keyword ++ c ∷ []) ++ t)))
        (sym (no-break b c (plain-break c plain)))))

  -- what was read is the front of a bogus comment
  bogus-read : (fault : ErrorCode) (old : Tokenizer K) (c : ℕ) (b : ℕ) (s : Sink.State × Notes ℕ) (t : List ℕ)
      → IsPart old.keyword → OpensNothing (Sink.asks_cdata s.0) old.keyword c
      → at Sink state.MarkupDeclarationOpen old b s (c ∷ t) ≡ at Sink state.BogusComment
      (record old { comment = old.keyword; fault = fault; state = state.BogusComment }) b s (c ∷ t)
  unfolding held_at
  bogus-read fault old c b s t part h = read-declared old old.keyword (c ∷ t)
      (bogus_comment_after (standing old InData) old.keyword (c ∷ t)) b s (part-plain old.keyword part)
      (bogus-declared (Sink.asks_cdata s.0) (standing old InData) old.keyword c t part h)

  pub bogus-opened : (fault : ErrorCode) (old new : Tokenizer K) (c : ℕ) (front : List ℕ)
      (result : Result (ProcessResult H) ParseFault) → IsAt old state.MarkupDeclarationOpen → IsPart old.keyword
      → OpensNothing (Sink.asks_cdata (Sink.view old.sink)) old.keyword c → front ≡ old.keyword
      → Keeps Sink (record old { comment = front; fault = fault; state = state.BogusComment }) new c result → Keeps Sink old new c result
  bogus-opened fault old new c front result from part h is keeps =
      let mid : Tokenizer K = record old { comment = old.keyword; fault = fault; state = state.BogusComment } in
      let keeps' : Keeps Sink mid new c result = rw is at keeps in
      keeps-along Sink old mid new c result refl (stays-same Sink old.sink old.sink refl)
      (rises-same Sink.errors old.sink old.sink refl) (λ notes t.
      now-at Sink old state.MarkupDeclarationOpen old.stream.breaks (Sink.view old.sink, notes) (c ∷ t) from
      ∙ bogus-read fault old c old.stream.breaks (Sink.view old.sink, notes) t part h
      ∙ sym (now-at Sink mid state.BogusComment old.stream.breaks (Sink.view old.sink, notes) (c ∷ t)
      (record { state = refl; fresh = from.fresh }))) keeps'
