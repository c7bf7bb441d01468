-- What stands after a doctype's name, and what the machine makes of it.
use Rattle.std.proofs.Common.{◌≡◌, ◌∙◌, ℕ, ◌+◌, length, Bool, true, false, ◌||◌, nat_eq, List, [], ◌∷◌, ◌++◌, drop, Result}
use Rattle.std.proofs.Common.{refl, sym, ap, append_assoc}
use Rattle.std.specs.Prelude.{codes}
use Rattle.std.specs.List.{list_all}
use Rattle.markup.specs.declared.fault.ParseFault.{ParseFault}
use Rattle.html_tokens.specs.declared.replies.ProcessResult.{ProcessResult}
use Rattle.html_tokens.specs.declared.replies.ProcessResult.TheVariants as flow
use Rattle.html_tokens.specs.declared.states.DoctypeIdKind.TheVariants as id
use Rattle.html_tokens.specs.declared.states.State.TheVariants as state
use Rattle.html_tokens.specs.declared.token.Doctype.{Doctype}
use Rattle.html_tokens.specs.declared.sink.TokenSink.{Ghosts}
use Rattle.html_tokens.specs.Characters.{is_white_space, ends_word, begins_any_case}
use Rattle.html_tokens.specs.Doctypes.{forced, given, after_name, keyword_at, keyword_by, after_public_keyword}
use Rattle.html_tokens.specs.Doctypes.{after_system_keyword, junk_after}
use Rattle.html_tokens.specs.Item.{Stand, Item, InData, longer_by}
use Rattle.html_tokens.specs.Notes.{Notes}
use Rattle.html_tokens.specs.Reading.{line_break}
use Rattle.html_tokens.specs.Sink.{SinkLaws}
use Rattle.html_tokenizer_parts.specs.declared.keyword.Word.{Word}
use Rattle.html_tokenizer_parts.specs.declared.keyword.Word.TheVariants as word
use Rattle.html_tokenizer_parts.specs.declared.error_code.ErrorCode.{ErrorCode}
use Rattle.html_tokenizer.specs.declared.tokenizer.Tokenizer.{Tokenizer}
use Rattle.html_tokenizer_parts.specs.Keywords.{becomes, may_become, may_identify, front_of, IsPart, MakesNoIdentifier}
use Rattle.html_tokenizer.specs.Rest.{rows_of, standing, held_at}
use Rattle.html_tokenizer.specs.Steps.{IsAt, Took, Keeps, plays}
use Rattle.html_tokenizer.proofs.Declarations.Openings.{behind-word, play-plain}
use Rattle.html_tokenizer.proofs.Declarations.Doctypes.{DoctypeSays, at-mark, skip-white, stop-white}
use Rattle.html_tokenizer.proofs.Steps.TokenEnds.{behind-any}
use Rattle.html_tokenizer.proofs.Steps.Keeping.{took, keeps_silent, no-break}
use Rattle.html_tokenizer_parts.proofs.Keywords.{begun-part, never, or_parts, is_plain, part-plain, word-plain, last-plain}
use Rattle.html_tokenizer_parts.proofs.Keywords.{plain-break, spelt-begins, spelt-length, word-apart, word-stops, junk-behind}

-- WHERE A KEYWORD BEGINS

-- Only where nothing was read, a word ends at its front.
ended-empty : (cs : List ℕ) (c : ℕ) → IsPart cs → ends_word (front_of cs c) ≡ true → cs ≡ []
ended-empty [] c part h = refl
ended-empty (x ∷ cs) c part h = absurd (never (ends_word x) h (begun-part x cs (part-plain (x ∷ cs) part)))

ended-here : (cs : List ℕ) (c : ℕ) → cs ≡ [] → ends_word (front_of cs c) ≡ true → ends_word c ≡ true
ended-here cs c e h = rw e at h

ended-white : (c : ℕ) → ends_word c ≡ true → nat_eq c 62 ≡ false → is_white_space c ≡ true
ended-white c h e = by-white (is_white_space c) (rw e at h)
  where
    by-white : (a : Bool) → (a || false) ≡ true → a ≡ true
    by-white true h = refl
    by-white false h = h

-- ITEMS

name-front : (st : Stand) (d : Doctype) (c : ℕ) (t : List ℕ) → ends_word c ≡ false
    → after_name st d (c ∷ t) ≡ keyword_by false (begins_any_case (codes "public") (c ∷ t))
    (begins_any_case (codes "system") (c ∷ t)) st d (c ∷ t)
name-front st d c t h =
    let p = or_parts (is_white_space c) (nat_eq c 62) h in
    stop-white (keyword_at st d) c t p.0
    ∙ ap (λ m. keyword_by m (begins_any_case (codes "public") (c ∷ t)) (begins_any_case (codes "system") (c ∷ t)) st d (c ∷ t)) p.1

pub name-word : (st : Stand) (d : Doctype) (cs : List ℕ) (c : ℕ) (t : List ℕ) → ends_word (front_of cs c) ≡ false
    → after_name st d (cs ++ c ∷ t) ≡ keyword_by false (begins_any_case (codes "public") (cs ++ c ∷ t))
    (begins_any_case (codes "system") (cs ++ c ∷ t)) st d (cs ++ c ∷ t)
name-word st d [] c t h = name-front st d c t h
name-word st d (x ∷ cs) c t h = name-front st d x (cs ++ c ∷ t) h

public-by : (p s : Bool) (st : Stand) (d : Doctype) (t : List ℕ) → p ≡ true
    → keyword_by false p s st d t ≡ longer_by 6 (after_public_keyword st d (drop 6 t))
public-by p s st d t e = rw e refl

system-by : (p s : Bool) (st : Stand) (d : Doctype) (t : List ℕ) → p ≡ false → s ≡ true
    → keyword_by false p s st d t ≡ longer_by 6 (after_system_keyword st d (drop 6 t))
system-by p s st d t e f = rw (e, f) refl

junk-by : (p s : Bool) (st : Stand) (d : Doctype) (t : List ℕ) → p ≡ false → s ≡ false
    → keyword_by false p s st d t ≡ junk_after st (forced d) t
junk-by p s st d t e f = rw (e, f) refl

public-read : (st : Stand) (d : Doctype) (w t : List ℕ) (s : Bool) → becomes word.Public w ≡ true
    → keyword_by false (begins_any_case (codes "public") (w ++ t)) s st d (w ++ t) ≡ longer_by (length w) (after_public_keyword st d t)
public-read st d w t s h = public-by _ s st d (w ++ t) (spelt-begins true (codes "public") w t h)
    ∙ behind-word (after_public_keyword st d) w t 6 (spelt-length true (codes "public") w h)

system-read : (st : Stand) (d : Doctype) (w t : List ℕ) → becomes word.System w ≡ true
    → keyword_by false (begins_any_case (codes "public") (w ++ t)) (begins_any_case (codes "system") (w ++ t)) st d
    (w ++ t) ≡ longer_by (length w) (after_system_keyword st d t)
system-read st d w t h =
    system-by _ _ st d (w ++ t) (word-apart word.System word.Public w t refl h) (spelt-begins true (codes "system") w t h)
    ∙ behind-word (after_system_keyword st d) w t 6 (spelt-length true (codes "system") w h)

pub junk-read : (st : Stand) (d : Doctype) (cs : List ℕ) (c : ℕ) (t : List ℕ) → IsPart cs → MakesNoIdentifier cs c
    → may_identify cs c ≡ false
    → keyword_by false (begins_any_case (codes "public") (cs ++ c ∷ t))
    (begins_any_case (codes "system") (cs ++ c ∷ t)) st d (cs ++ c ∷ t) ≡ longer_by (length cs) (junk_after st (forced d) (c ∷ t))
junk-read st d cs c t part whole h =
    let p = or_parts (may_become word.Public (cs ++ c ∷ [])) (may_become word.System (cs ++ c ∷ [])) h in
    junk-by _ _ st d (cs ++ c ∷ t) (word-stops word.Public cs c t part whole.public_word p.0)
    (word-stops word.System cs c t part whole.system_word p.1)
    ∙ junk-behind st (forced d) cs (c ∷ t) (part-plain cs part)

-- c goes on in a keyword
pub identifier-more : (cs : List ℕ) (c : ℕ) → may_identify cs c ≡ true → IsPart (cs ++ c ∷ [])
identifier-more cs c h = by-word (may_become word.Public (cs ++ c ∷ [])) (may_become word.System (cs ++ c ∷ [])) refl refl h
  where
    by-word : (x y : Bool) → may_become word.Public (cs ++ c ∷ []) ≡ x → may_become word.System (cs ++ c ∷ []) ≡ y
        → (x || y) ≡ true → IsPart (cs ++ c ∷ [])
    by-word true y e f h = record { word = word.Public; begun = e }
    by-word false y e f h = record { word = word.System; begun = f ∙ h }

-- STATES

module _ {K H : Type 0} (Sink : Ghosts K H) (laws : SinkLaws Sink.is_sound Sink.step Sink.ended Sink.is_quiet) where
  -- a keyword that c makes whole
  read-keyword : (old : Tokenizer K) (d : Doctype) (cs : List ℕ) (c : ℕ) (t : List ℕ) (w : Word) (j : Item) (b : ℕ)
      (s : Sink.State × Notes ℕ) → becomes w (cs ++ c ∷ []) ≡ true → ends_word (front_of cs c) ≡ false
      → keyword_by false (begins_any_case (codes "public") ((cs ++ c ∷ []) ++ t))
      (begins_any_case (codes "system") ((cs ++ c ∷ []) ++ t)) (standing old InData) d
      ((cs ++ c ∷ []) ++ t) ≡ longer_by (length (cs ++ c ∷ [])) j
      → plays Sink (rows_of old) (after_name (standing old InData) d (cs ++ c ∷ t)) b s (cs ++ c ∷ t) ≡ plays Sink
      (rows_of old) j (b + line_break (nat_eq c 10)) s t
  read-keyword old d cs c t w j b s h begun is =
      let plain : list_all is_plain (cs ++ c ∷ []) ≡ true = word-plain w (cs ++ c ∷ []) h in
      ap (λ i. plays Sink (rows_of old) i b s (cs ++ c ∷ t)) (name-word (standing old InData) d cs c t begun)
      ∙ ap (λ u. plays Sink (rows_of old)
      (keyword_by false (begins_any_case (codes "public") u) (begins_any_case (codes "system") u)
      (standing old InData) d u) b s u) (sym (append_assoc cs (c ∷ []) t))
      ∙ ap (λ i. plays Sink (rows_of old) i b s ((cs ++ c ∷ []) ++ t)) is
      ∙ play-plain Sink laws old (cs ++ c ∷ []) t j b s plain
      ∙ ap (λ x. plays Sink (rows_of old) j x s t) (sym (no-break b c (plain-break c (last-plain cs c plain))))

  module _ (old : Tokenizer K) (c : ℕ) (from : IsAt old state.AfterDoctypeName) (ok : Sink.is_sound (Sink.view old.sink)) where
    pub public-found : becomes word.Public (old.keyword ++ c ∷ []) ≡ true
        → ends_word (front_of old.keyword c) ≡ false
        → Took Sink old (record old { state = state.AfterDoctypeKeyword id.Public }) c flow.Continue
    unfolding held_at
    public-found h begun = took Sink old (record old { state = state.AfterDoctypeKeyword id.Public }) c
        state.AfterDoctypeName (state.AfterDoctypeKeyword id.Public) from (record { state = refl; fresh = from.fresh }) refl refl ok
        (λ b s t. read-keyword old old.doctype old.keyword c t word.Public
        (after_public_keyword (standing old InData) old.doctype t) b s h begun
        (public-read (standing old InData) old.doctype (old.keyword ++ c ∷ []) t _ h))

    pub system-found : becomes word.System (old.keyword ++ c ∷ []) ≡ true
        → ends_word (front_of old.keyword c) ≡ false
        → Took Sink old (record old { state = state.AfterDoctypeKeyword id.System }) c flow.Continue
    unfolding held_at
    system-found h begun = took Sink old (record old { state = state.AfterDoctypeKeyword id.System }) c
        state.AfterDoctypeName (state.AfterDoctypeKeyword id.System) from (record { state = refl; fresh = from.fresh }) refl refl ok
        (λ b s t. read-keyword old old.doctype old.keyword c t word.System
        (after_system_keyword (standing old InData) old.doctype t) b s h begun
        (system-read (standing old InData) old.doctype (old.keyword ++ c ∷ []) t h))

    -- a character more of a keyword
    pub keyword-push : (front : List ℕ) → may_identify old.keyword c ≡ true → front ≡ old.keyword ++ c ∷
        [] → Took Sink old (record old { keyword = front }) c flow.Continue
    unfolding held_at
    keyword-push front h is = rw is (
        let plain : is_plain c ≡ true = last-plain old.keyword c (part-plain (old.keyword ++ c ∷ []) (identifier-more old.keyword c h)) in
        took Sink old (record old { keyword = old.keyword ++ c ∷ [] }) c state.AfterDoctypeName
        state.AfterDoctypeName from (record { state = from.state; fresh = from.fresh }) refl refl ok
        (λ b s t.
        ap (λ u. plays Sink (rows_of old) (after_name (standing old InData) old.doctype u) b s u)
        (sym (append_assoc old.keyword (c ∷ []) t))
        ∙ ap (λ x. plays Sink (rows_of old)
        (after_name (standing old InData) old.doctype ((old.keyword ++ c ∷ []) ++ t)) x s
        ((old.keyword ++ c ∷ []) ++ t)) (sym (no-break b c (plain-break c plain)))))

    -- white space where no keyword was read
    white-read : (b : ℕ) (s : Sink.State × Notes ℕ) (t cs : List ℕ) → cs ≡ [] → is_white_space c ≡ true
        → plays Sink (rows_of old) (after_name (standing old InData) old.doctype (cs ++ c ∷ t)) b s
        (cs ++ c ∷ t) ≡ plays Sink (rows_of old) (after_name (standing old InData) old.doctype (cs ++ t))
        (b + line_break (nat_eq c 10)) s (cs ++ t)
    white-read b s t cs e h = rw e (behind-any Sink laws old (after_name (standing old InData) old.doctype (c ∷ t))
        (after_name (standing old InData) old.doctype t) b s c t (skip-white (keyword_at (standing old InData) old.doctype) c t h))

    pub keyword-white : IsPart old.keyword → ends_word (front_of old.keyword c) ≡ true → nat_eq c 62 ≡ false
        → Took Sink old old c flow.Continue
    unfolding held_at
    keyword-white part h e =
        let none : old.keyword ≡ [] = ended-empty old.keyword c part h in
        took Sink old old c state.AfterDoctypeName state.AfterDoctypeName from from refl refl ok
        (λ b s t. white-read b s t old.keyword none (ended-white c (ended-here old.keyword c none h) e))

  mark-read : (old : Tokenizer K) (b : ℕ) (s : Sink.State × Notes ℕ) (t cs : List ℕ) → cs ≡ []
      → plays Sink (rows_of old) (after_name (standing old InData) old.doctype (cs ++ 62 ∷ t)) b s
      (cs ++ 62 ∷ t) ≡ plays Sink (rows_of old) (given (standing old InData) old.doctype 1) b s (62 ∷ t)
  mark-read old b s t cs e = rw e refl

  -- ">" where no keyword was read
  pub keyword-says : (old : Tokenizer K) (c : ℕ) → IsPart old.keyword → ends_word (front_of old.keyword c) ≡ true
      → DoctypeSays Sink laws state.AfterDoctypeName old old.temporary false old.doctype
  unfolding held_at
  keyword-says old c part h b s ok t = mark-read old b s t old.keyword (ended-empty old.keyword c part h)
      ∙ at-mark Sink laws old b s ok false old.doctype t (given (standing old InData) old.doctype 1) refl

  -- what is no keyword is junk
  keyword-junk : (old : Tokenizer K) (c : ℕ) (b : ℕ) (s : Sink.State × Notes ℕ) (t : List ℕ) → IsPart old.keyword
      → MakesNoIdentifier old.keyword c → may_identify old.keyword c ≡ false → ends_word (front_of old.keyword c) ≡ false
      → plays Sink (rows_of old) (after_name (standing old InData) old.doctype (old.keyword ++ c ∷ t)) b s
      (old.keyword ++ c ∷ t) ≡ plays Sink (rows_of old) (junk_after (standing old InData) (forced old.doctype) (c ∷ t)) b s (c ∷ t)
  keyword-junk old c b s t part whole h begun =
      ap (λ i. plays Sink (rows_of old) i b s (old.keyword ++ c ∷ t))
      (name-word (standing old InData) old.doctype old.keyword c t begun
      ∙ junk-read (standing old InData) old.doctype old.keyword c t part whole h)
      ∙ play-plain Sink laws old old.keyword (c ∷ t) (junk_after (standing old InData) (forced old.doctype) (c ∷ t))
      b s (part-plain old.keyword part)

  pub keyword-other : (fault : ErrorCode) (old new : Tokenizer K) (c : ℕ)
      (result : Result (ProcessResult H) ParseFault) → IsAt old state.AfterDoctypeName → IsPart old.keyword
      → MakesNoIdentifier old.keyword c → may_identify old.keyword c ≡ false → ends_word (front_of old.keyword c) ≡ false
      → Keeps Sink (record old { doctype = forced old.doctype; fault = fault; state = state.BogusDoctype }) new c
      result → Keeps Sink old new c result
  unfolding held_at
  keyword-other fault old new c result from part whole h begun keeps =
      keeps_silent Sink old (record old { doctype = forced old.doctype; fault = fault; state = state.BogusDoctype })
      new c state.AfterDoctypeName state.BogusDoctype result from (record { state = refl; fresh = from.fresh }) refl refl
      (λ b s t. keyword-junk old c b s t part whole h begun) keeps
