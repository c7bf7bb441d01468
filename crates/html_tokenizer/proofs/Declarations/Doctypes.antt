-- How doctypes are read, and what the machine's states make of them.
use Rattle.std.proofs.Common.{◌≡◌, ◌∙◌, ℕ, zero, suc, ◌+◌, Bool, true, false, ◌||◌, nat_eq, List, [], ◌∷◌, ◌++◌, take, drop}
use Rattle.std.proofs.Common.{Option, Some, None, Result, Ok, refl, sym, ap, subst, append_assoc, append-nil}
use Rattle.std.specs.Prelude.{is_some, not}
use Rattle.std.specs.Result.{IsErrAnd}
use Rattle.std.proofs.lemmas.Bool.{eqb-true}
use Rattle.markup.specs.declared.fault.ParseFault.{ParseFault}
use Rattle.html_tokens.specs.declared.replies.ProcessResult.{ProcessResult}
use Rattle.html_tokens.specs.declared.replies.ProcessResult.TheVariants as flow
use Rattle.html_tokens.specs.declared.states.DoctypeIdKind.{DoctypeIdKind}
use Rattle.html_tokens.specs.declared.states.DoctypeIdKind.TheVariants as id
use Rattle.html_tokens.specs.declared.states.State.{State}
use Rattle.html_tokens.specs.declared.states.State.TheVariants as state
use Rattle.html_tokens.specs.declared.token.Doctype.{Doctype}
use Rattle.html_tokens.specs.declared.token.Token.TheVariants.{DoctypeToken}
use Rattle.html_tokens.specs.declared.sink.TokenSink.{Ghosts}
use Rattle.html_tokens.specs.Characters.{shown, has_null, lowered, all_lowered, is_white_space, ends_word, run, white}
use Rattle.html_tokens.specs.Doctypes.{no_doctype, forced, given, given_more, junk_by, closed_by, identifier_end, identifier}
use Rattle.html_tokens.specs.Doctypes.{shown_all, Opening, Quote, doctype_at, doctype_after, doctype_name_after, after_name}
use Rattle.html_tokens.specs.Doctypes.{after_public_keyword, after_system_keyword, name_by, doctype_name_at, keyword_at}
use Rattle.html_tokens.specs.Doctypes.{public_at, system_at, second_identifier_at, doctype_end_at, public_by, system_by}
use Rattle.html_tokens.specs.Doctypes.{second_by, opening, Close, Junk, public_after, system_after, after_public, after_system}
use Rattle.html_tokens.specs.Doctypes.{junk_after}
use Rattle.html_tokens.specs.Item.{Stand, Item, InData, longer, longer_by, marked, Fault, grave_if, and_slight, and_slight_if}
use Rattle.html_tokens.specs.Notes.{Notes, noting}
use Rattle.html_tokens.specs.Reading.{line_number, line_break}
use Rattle.html_tokens.specs.Sink.{◌>>=◌, SinkLaws}
use Rattle.html_tokenizer_parts.specs.declared.error_code.ErrorCode.{ErrorCode}
use Rattle.html_tokenizer.specs.declared.tokenizer.Tokenizer.{Tokenizer}
use Rattle.html_tokenizer.specs.Rest.{rows_of, standing, with_identifier, held_at, is_quote, quoted_state}
use Rattle.html_tokenizer.specs.Steps.{owed_for, IsAt, more, Falls, Emitted, Took, Keeps, reads, plays}
use Rattle.html_tokenizer.proofs.Steps.TokenEnds.{EndSays, end-says, emitted-took, emitted-failed, behind-any, item-absorbs}
use Rattle.html_tokenizer.proofs.Errors.RefusedErrors.{tells-less}
use Rattle.html_tokenizer.proofs.Steps.Keeping.{Absorbs, at, took, took_odd, keeps_odd, keeps_silent, state-absorbs}
use Rattle.html_tokenizer.proofs.Steps.Lawful.{slight-absorbed}
use Rattle.html_tokenizer.proofs.Steps.Readings.{marked-both, play-marked, play-odd}
use Rattle.html_tokenizer.proofs.Errors.Rises.{slighted-no-more}
use Rattle.html_tokenizer_parts.proofs.Keywords.{word-other}
use Rattle.html_tokenizer.specs.Listeners.{listening}

-- QUOTES

-- what holds of both quotes holds of each
pub of-quote : (P : ℕ → Type 0) → P 34 → P 39 → (quote : ℕ) → is_quote quote ≡ true → P quote
of-quote P double single quote h = by (nat_eq quote 34) refl h where
  by : (b : Bool) → nat_eq quote 34 ≡ b → (b || nat_eq quote 39) ≡ true → P quote
  by true e h = subst P (sym (eqb-true quote 34 e)) double
  by false e h = subst P (sym (eqb-true quote 39 h)) single

-- ITEMS

-- white space is skipped
pub skip-white : (next : List ℕ → Item) (c : ℕ) (t : List ℕ) → is_white_space c ≡ true → longer_by (white (c ∷ t))
    (next (drop (white (c ∷ t)) (c ∷ t))) ≡ longer (longer_by (white t) (next (drop (white t) t)))
skip-white next c t e = rw e refl

-- and ends before any other character
pub stop-white : (next : List ℕ → Item) (c : ℕ) (t : List ℕ) → is_white_space c ≡ false → longer_by (white (c ∷ t))
    (next (drop (white (c ∷ t)) (c ∷ t))) ≡ next (c ∷ t)
stop-white next c t e = rw e refl

name-goes_on : (st : Stand) (front : List ℕ) (c : ℕ) (t : List ℕ) → ends_word c ≡ false
    → doctype_name_after st front (c ∷ t) ≡ marked (nat_eq c 0) (longer (doctype_name_after st (front ++ lowered c ∷ []) t))
name-goes_on st front c t e =
    let n = run ends_word t in
    rw e (rw append_assoc (marked-both (nat_eq c 0) (has_null (take n t))
    (longer (longer_by n (after_name st
    (record no_doctype { name = Some (front ++ lowered c ∷ all_lowered (take n t)) }) (drop n t))))))

name-ends : (st : Stand) (front : List ℕ) (c : ℕ) (t : List ℕ) → ends_word c ≡ true → doctype_name_after st front
    (c ∷ t) ≡ after_name st (record no_doctype { name = Some front }) (c ∷ t)
name-ends st front c t e = rw e (rw append-nil refl)

public-goes_on : (quote : ℕ) (st : Stand) (d : Doctype) (front : List ℕ) (c : ℕ) (t : List ℕ)
    → (nat_eq c quote || nat_eq c 62) ≡ false → public_after quote st d front (c ∷ t) ≡ longer
    (public_after quote st d (front ++ shown c ∷ []) t)
public-goes_on quote st d front c t e = rw e (rw append_assoc refl)

system-goes_on : (quote : ℕ) (st : Stand) (d : Doctype) (front : List ℕ) (c : ℕ) (t : List ℕ)
    → (nat_eq c quote || nat_eq c 62) ≡ false → system_after quote st d front (c ∷ t) ≡ longer
    (system_after quote st d (front ++ shown c ∷ []) t)
system-goes_on quote st d front c t e = rw e (rw append_assoc refl)

word-white : (c : ℕ) → is_white_space c ≡ true → ends_word c ≡ true
word-white c e = rw e refl

neither : (c quote : ℕ) → nat_eq c quote ≡ false → nat_eq c 62 ≡ false → (nat_eq c quote || nat_eq c 62) ≡ false
neither c quote e f = rw (e, f) refl

-- a character that is no quote, where an identifier is to come
opening-mark : (c : ℕ) → nat_eq c 34 ≡ false → nat_eq c 39 ≡ false → nat_eq c 62 ≡ true → opening c ≡ Close
opening-mark c f g e = rw (f, g, e) refl

opening-junk : (c : ℕ) → nat_eq c 34 ≡ false → nat_eq c 39 ≡ false → nat_eq c 62 ≡ false → opening c ≡ Junk
opening-junk c f g e = rw (f, g, e) refl

junk-ends : (st : Stand) (d : Doctype) (c : ℕ) (t : List ℕ) → nat_eq c 62 ≡ true → junk_after st d (c ∷ t) ≡ given_more st d 1
junk-ends st d c t e = rw e refl

public-junk : (st : Stand) (d : Doctype) (c : ℕ) (t : List ℕ) (closes : Bool) → nat_eq c 62 ≡ closes
    → nat_eq c 34 ≡ false → nat_eq c 39 ≡ false → public_at st d (c ∷ t) ≡ junk_after st (forced d) (c ∷ t)
public-junk st d c t true e f g = ap (λ o. public_by o st d c t) (opening-mark c f g e) ∙ sym (junk-ends st (forced d) c t e)
public-junk st d c t false e f g = ap (λ o. public_by o st d c t) (opening-junk c f g e)

system-junk : (st : Stand) (d : Doctype) (c : ℕ) (t : List ℕ) (closes : Bool) → nat_eq c 62 ≡ closes
    → nat_eq c 34 ≡ false → nat_eq c 39 ≡ false → system_at st d (c ∷ t) ≡ junk_after st (forced d) (c ∷ t)
system-junk st d c t true e f g = ap (λ o. system_by o st d c t) (opening-mark c f g e) ∙ sym (junk-ends st (forced d) c t e)
system-junk st d c t false e f g = ap (λ o. system_by o st d c t) (opening-junk c f g e)

second-junk : (st : Stand) (d : Doctype) (c : ℕ) (t : List ℕ) → nat_eq c 62 ≡ false → nat_eq c 34 ≡ false
    → nat_eq c 39 ≡ false → second_identifier_at st d (c ∷ t) ≡ junk_after st (forced d) (c ∷ t)
second-junk st d c t e f g = ap (λ o. second_by o st d c t) (opening-junk c f g e)

-- FAULTS

slighted : (fault : Option Fault) → is_some (and_slight fault) ≡ true
slighted None = refl
slighted (Some fault) = refl

behind-fault : (n : ℕ) (i : Item) → is_some i.fault ≡ true → is_some (longer_by n i).fault ≡ true
behind-fault zero i h = h
behind-fault (suc n) i h = behind-fault n i h

-- where no word ends after "<!doctype"
doctype-odd : (st : Stand) (c : ℕ) (t : List ℕ) → not (ends_word c) ≡ true → is_some (doctype_at st (c ∷ t)).fault ≡ true
doctype-odd st c t h = rw h (slighted (doctype_after st (c ∷ t)).fault)

-- where U+0000 stands in a name
name-odd_zero : (st : Stand) (front t : List ℕ) → is_some (doctype_name_after st front (0 ∷ t)).fault ≡ true
name-odd_zero st front t = slighted _

name-odd : (st : Stand) (front : List ℕ) (c : ℕ) (t : List ℕ) → nat_eq c 0 ≡ true
    → is_some (doctype_name_after st front (c ∷ t)).fault ≡ true
name-odd st front c t h = rw (eqb-true c 0 h) (name-odd_zero st front t)

junk-fault_by : (ends : Bool) (st : Stand) (d : Doctype) (go : Unit {0} → Item) → is_some (go tt).fault ≡ true
    → is_some (junk_by ends st d go).fault ≡ true
junk-fault_by true st d go h = slighted (grave_if d.force_quirks)
junk-fault_by false st d go h = h

-- a doctype with junk has a fault
junk-fault : (st : Stand) (d : Doctype) (t : List ℕ) → is_some (junk_after st d t).fault ≡ true
junk-fault st d [] = slighted (grave_if d.force_quirks)
junk-fault st d (c ∷ t) = junk-fault_by (nat_eq c 62) st d (λ _. junk_after st d t) (junk-fault st d t)

-- and so has each with an identifier
doctype_end_at-fault : (st : Stand) (d : Doctype) (t : List ℕ) → is_some (doctype_end_at st d t).fault ≡ true
doctype_end_at-fault st d [] = refl
doctype_end_at-fault st d (c ∷ t) = junk-fault st d (c ∷ t)

after_system-fault : (st : Stand) (d : Doctype) (t : List ℕ) → is_some (after_system st d t).fault ≡ true
after_system-fault st d t = behind-fault (white t) _ (doctype_end_at-fault st d (drop (white t) t))

closed-fault : (closes : Bool) (st : Stand) (d : Doctype) (t : List ℕ) (go : Doctype → List ℕ → Item)
    → is_some (go d t).fault ≡ true → is_some (closed_by closes st d t go).fault ≡ true
closed-fault true st d t go h = h
closed-fault false st d t go h = refl

identifier-fault : (quote : ℕ) (st : Stand) (d : Doctype) (t : List ℕ) (go : Doctype → List ℕ → Item)
    → ((u : List ℕ) → is_some (go d u).fault ≡ true) → is_some (identifier_end quote st d t go).fault ≡ true
identifier-fault quote st d [] go h = refl
identifier-fault quote st d (c ∷ t) go h = closed-fault (nat_eq c quote) st d t go (h t)

system-fault : (quote : ℕ) (st : Stand) (d : Doctype) (front t : List ℕ) → is_some (system_after quote st d front t).fault ≡ true
system-fault quote st d front t =
    let n = identifier quote t in
    behind-fault n _ (identifier-fault quote st (record d { system_id = Some (front ++ shown_all (take n t)) })
    (drop n t) (after_system st) (after_system-fault st _))

second-fault_by : (opens : Opening) (st : Stand) (d : Doctype) (c : ℕ) (t : List ℕ) → is_some (second_by opens st d c t).fault ≡ true
second-fault_by Quote st d c t = system-fault c st d [] t
second-fault_by Close st d c t = slighted (grave_if d.force_quirks)
second-fault_by Junk st d c t = junk-fault st (forced d) (c ∷ t)

second_identifier_at-fault : (st : Stand) (d : Doctype) (t : List ℕ) → is_some (second_identifier_at st d t).fault ≡ true
second_identifier_at-fault st d [] = refl
second_identifier_at-fault st d (c ∷ t) = second-fault_by (opening c) st d c t

after_public-fault : (st : Stand) (d : Doctype) (t : List ℕ) → is_some (after_public st d t).fault ≡ true
after_public-fault st d t = behind-fault (white t) _ (second_identifier_at-fault st d (drop (white t) t))

public-fault : (quote : ℕ) (st : Stand) (d : Doctype) (front t : List ℕ) → is_some (public_after quote st d front t).fault ≡ true
public-fault quote st d front t =
    let n = identifier quote t in
    behind-fault n _ (identifier-fault quote st (record d { public_id = Some (front ++ shown_all (take n t)) })
    (drop n t) (after_public st) (after_public-fault st _))

public-fault_by : (opens : Opening) (st : Stand) (d : Doctype) (c : ℕ) (t : List ℕ) → is_some (public_by opens st d c t).fault ≡ true
public-fault_by Quote st d c t = public-fault c st d [] t
public-fault_by Close st d c t = refl
public-fault_by Junk st d c t = junk-fault st (forced d) (c ∷ t)

system-fault_by : (opens : Opening) (st : Stand) (d : Doctype) (c : ℕ) (t : List ℕ) → is_some (system_by opens st d c t).fault ≡ true
system-fault_by Quote st d c t = system-fault c st d [] t
system-fault_by Close st d c t = refl
system-fault_by Junk st d c t = junk-fault st (forced d) (c ∷ t)

public_at-fault : (st : Stand) (d : Doctype) (t : List ℕ) → is_some (public_at st d t).fault ≡ true
public_at-fault st d [] = refl
public_at-fault st d (c ∷ t) = public-fault_by (opening c) st d c t

system_at-fault : (st : Stand) (d : Doctype) (t : List ℕ) → is_some (system_at st d t).fault ≡ true
system_at-fault st d [] = refl
system_at-fault st d (c ∷ t) = system-fault_by (opening c) st d c t

-- and so has each with a keyword
public_keyword-fault : (st : Stand) (d : Doctype) (t : List ℕ) → is_some (after_public_keyword st d t).fault ≡ true
public_keyword-fault st d t = behind-fault (white t) _ (public_at-fault st d (drop (white t) t))

system_keyword-fault : (st : Stand) (d : Doctype) (t : List ℕ) → is_some (after_system_keyword st d t).fault ≡ true
system_keyword-fault st d t = behind-fault (white t) _ (system_at-fault st d (drop (white t) t))

-- STATES

module _ {K H : Type 0} (Sink : Ghosts K H) (laws : SinkLaws Sink.is_sound Sink.step Sink.ended Sink.is_quiet) where
  -- the machine once its doctype is told
  abbrev emitted : Tokenizer K → List ℕ → Tokenizer K
  emitted k cs = record k { doctype = no_doctype; temporary = cs; state = state.Data }

  -- A doctype is told next, after its error if it sets quirks, and ">" ends it; errors may be told of it where it is odd.
  abbrev pub DoctypeSays : State → Tokenizer K → List ℕ → Bool → Doctype → Type 0
  DoctypeSays st old cs odd d = EndSays Sink laws st old (emitted old cs)
      (owed_for (and_slight_if odd (grave_if d.force_quirks))) (DoctypeToken d)

  -- The doctype was told, or could not be told.
  pub doctype-took : (old new : Tokenizer K) (c : ℕ) (st : State) (cs : List ℕ) (odd : Bool) (d : Doctype) → c ≡ 62
      → IsAt old st → Sink.is_sound (Sink.view old.sink) → Emitted Sink (owed_for (grave_if d.force_quirks))
      (DoctypeToken d) (emitted old cs) new → DoctypeSays st old cs odd d → Took Sink old new c flow.Continue
  doctype-took old new c st cs odd d e from ok told says = emitted-took Sink laws old (emitted old cs) new c st
      (DoctypeToken d) e from ok refl refl (record { state = refl; fresh = from.fresh })
      (tells-less Sink laws (owed_for (grave_if d.force_quirks))
      (owed_for (and_slight_if odd (grave_if d.force_quirks))) (emitted old cs) new (DoctypeToken d) (Ok tt)
      (slighted-no-more odd (grave_if d.force_quirks)) told) says

  pub doctype-failed : (old new : Tokenizer K) (c : ℕ) (st : State) (cs : List ℕ) (odd : Bool) (d : Doctype)
      (result : Result (ProcessResult H) ParseFault) (fault : ParseFault) → c ≡ 62 → IsAt old st
      → Sink.is_sound (Sink.view old.sink) → IsErrAnd result (λ y. y ≡ fault)
      → Falls Sink old.sink new.sink
      (Sink.step (Sink.view old.sink) (DoctypeToken d) (line_number old.stream.breaks)) fault
      → DoctypeSays st old cs odd d → Keeps Sink old new c result
  doctype-failed old new c st cs odd d result fault e from ok is fails says = emitted-failed Sink laws
      (owed_for (and_slight_if odd (grave_if d.force_quirks))) old (emitted old cs) new c st (DoctypeToken d) result
      fault e from ok is fails says

  pub at-mark : (old : Tokenizer K) (b : ℕ) (s : Sink.State × Notes ℕ) → Sink.is_sound s.0
      → (odd : Bool) (d : Doctype) (t : List ℕ) (i : Item) → i ≡ marked odd (given (standing old InData) d 1)
      → plays Sink (rows_of old) i b s
      (62 ∷ t) ≡ (noting Sink.step Sink.is_quiet
      (s.0, more (owed_for (and_slight_if odd (grave_if d.force_quirks))) s.1) (DoctypeToken d)
      (line_number b) >>= λ p. reads Sink (rows_of old) (standing old InData) (b + 0) p.0 t)
  at-mark old b s h odd d t i is = end-says Sink laws (and_slight_if odd (grave_if d.force_quirks)) old b s h
      (DoctypeToken d) t (62 ∷ t) 1 i tt is refl refl

  -- ">" at each place
  pub before_name-says : (old : Tokenizer K) (cs : List ℕ) → DoctypeSays state.BeforeDoctypeName old cs false (forced no_doctype)
  unfolding held_at
  before_name-says old cs b s h t = at-mark old b s h false (forced no_doctype) t _ refl

  pub name-says : (old : Tokenizer K) (cs : List ℕ) → DoctypeSays state.DoctypeName old cs false
      (record no_doctype { name = Some old.temporary })
  unfolding held_at
  name-says old cs b s h t = at-mark old b s h false (record no_doctype { name = Some old.temporary }) t
      (doctype_name_after (standing old InData) old.temporary (62 ∷ t)) (rw append-nil refl)

  double-says : (kind : DoctypeIdKind) (old : Tokenizer K) (cs : List ℕ)
      → DoctypeSays (state.DoctypeIdentifierDoubleQuoted kind) old cs false (forced (with_identifier kind old.doctype old.temporary))
  unfolding held_at
  double-says id.Public old cs b s h t = at-mark old b s h false
      (forced (with_identifier id.Public old.doctype old.temporary)) t
      (public_after 34 (standing old InData) old.doctype old.temporary (62 ∷ t)) (rw append-nil refl)
  double-says id.System old cs b s h t = at-mark old b s h false
      (forced (with_identifier id.System old.doctype old.temporary)) t
      (system_after 34 (standing old InData) old.doctype old.temporary (62 ∷ t)) (rw append-nil refl)

  single-says : (kind : DoctypeIdKind) (old : Tokenizer K) (cs : List ℕ)
      → DoctypeSays (state.DoctypeIdentifierSingleQuoted kind) old cs false (forced (with_identifier kind old.doctype old.temporary))
  unfolding held_at
  single-says id.Public old cs b s h t = at-mark old b s h false
      (forced (with_identifier id.Public old.doctype old.temporary)) t
      (public_after 39 (standing old InData) old.doctype old.temporary (62 ∷ t)) (rw append-nil refl)
  single-says id.System old cs b s h t = at-mark old b s h false
      (forced (with_identifier id.System old.doctype old.temporary)) t
      (system_after 39 (standing old InData) old.doctype old.temporary (62 ∷ t)) (rw append-nil refl)

  pub quoted-says : (quote : ℕ) → is_quote quote ≡ true → (kind : DoctypeIdKind) (old : Tokenizer K) (cs : List ℕ)
      → DoctypeSays (quoted_state quote kind) old cs false (forced (with_identifier kind old.doctype old.temporary))
  quoted-says = of-quote (λ quote. (kind : DoctypeIdKind) (old : Tokenizer K) (cs : List ℕ)
      → DoctypeSays (quoted_state quote kind) old cs false
      (forced (with_identifier kind old.doctype old.temporary))) double-says single-says

  pub between-says : (old : Tokenizer K) (cs : List ℕ) → DoctypeSays state.BetweenDoctypePublicAndSystemIdentifiers old cs true old.doctype
  unfolding held_at
  between-says old cs b s h t = at-mark old b s h true old.doctype t _ refl

  pub bogus-says : (old : Tokenizer K) (cs : List ℕ) → DoctypeSays state.BogusDoctype old cs true old.doctype
  unfolding held_at
  bogus-says old cs b s h t = at-mark old b s h true old.doctype t _ refl

  -- What is slight before a doctype with a fault changes nothing.
  module _ (old : Tokenizer K) (c : ℕ) where
    pub doctype-absorbs : IsAt old state.Doctype → not (ends_word c) ≡ true → Absorbs Sink old c
    unfolding held_at
    doctype-absorbs from h = state-absorbs Sink old c state.Doctype from
        (λ b s t. item-absorbs Sink laws old (doctype_at (standing old InData) (c ∷ t)) b s (c ∷ t)
        (doctype-odd (standing old InData) c t h))

    pub name-absorbs : IsAt old state.DoctypeName → nat_eq c 0 ≡ true → Absorbs Sink old c
    unfolding held_at
    name-absorbs from h = state-absorbs Sink old c state.DoctypeName from
        (λ b s t. item-absorbs Sink laws old (doctype_name_after (standing old InData) old.temporary (c ∷ t)) b s
        (c ∷ t) (name-odd (standing old InData) old.temporary c t h))

    pub keyword-absorbs : (kind : DoctypeIdKind) → IsAt old (state.AfterDoctypeKeyword kind) → Absorbs Sink old c
    unfolding held_at
    keyword-absorbs id.Public from = state-absorbs Sink old c (state.AfterDoctypeKeyword id.Public) from
        (λ b s t. item-absorbs Sink laws old (after_public_keyword (standing old InData) old.doctype (c ∷ t)) b s
        (c ∷ t) (public_keyword-fault (standing old InData) old.doctype (c ∷ t)))
    keyword-absorbs id.System from = state-absorbs Sink old c (state.AfterDoctypeKeyword id.System) from
        (λ b s t. item-absorbs Sink laws old (after_system_keyword (standing old InData) old.doctype (c ∷ t)) b s
        (c ∷ t) (system_keyword-fault (standing old InData) old.doctype (c ∷ t)))

    double-absorbs : (kind : DoctypeIdKind) → IsAt old (state.DoctypeIdentifierDoubleQuoted kind) → Absorbs Sink old c
    unfolding held_at
    double-absorbs id.Public from = state-absorbs Sink old c (state.DoctypeIdentifierDoubleQuoted id.Public) from
        (λ b s t. item-absorbs Sink laws old (public_after 34 (standing old InData) old.doctype old.temporary
        (c ∷ t)) b s (c ∷ t) (public-fault 34 (standing old InData) old.doctype old.temporary (c ∷ t)))
    double-absorbs id.System from = state-absorbs Sink old c (state.DoctypeIdentifierDoubleQuoted id.System) from
        (λ b s t. item-absorbs Sink laws old (system_after 34 (standing old InData) old.doctype old.temporary
        (c ∷ t)) b s (c ∷ t) (system-fault 34 (standing old InData) old.doctype old.temporary (c ∷ t)))

    single-absorbs : (kind : DoctypeIdKind) → IsAt old (state.DoctypeIdentifierSingleQuoted kind) → Absorbs Sink old c
    unfolding held_at
    single-absorbs id.Public from = state-absorbs Sink old c (state.DoctypeIdentifierSingleQuoted id.Public) from
        (λ b s t. item-absorbs Sink laws old (public_after 39 (standing old InData) old.doctype old.temporary
        (c ∷ t)) b s (c ∷ t) (public-fault 39 (standing old InData) old.doctype old.temporary (c ∷ t)))
    single-absorbs id.System from = state-absorbs Sink old c (state.DoctypeIdentifierSingleQuoted id.System) from
        (λ b s t. item-absorbs Sink laws old (system_after 39 (standing old InData) old.doctype old.temporary
        (c ∷ t)) b s (c ∷ t) (system-fault 39 (standing old InData) old.doctype old.temporary (c ∷ t)))

    pub quoted-absorbs : (quote : ℕ) → is_quote quote ≡ true → (kind : DoctypeIdKind)
        → IsAt old (quoted_state quote kind) → Absorbs Sink old c
    quoted-absorbs = of-quote (λ quote. (kind : DoctypeIdKind) → IsAt old (quoted_state quote kind)
        → Absorbs Sink old c) double-absorbs single-absorbs

    pub identifier-absorbs : (kind : DoctypeIdKind) → IsAt old (state.AfterDoctypeIdentifier kind) → Absorbs Sink old c
    unfolding held_at
    identifier-absorbs id.Public from = state-absorbs Sink old c (state.AfterDoctypeIdentifier id.Public) from
        (λ b s t. item-absorbs Sink laws old (after_public (standing old InData) old.doctype (c ∷ t)) b s (c ∷ t)
        (after_public-fault (standing old InData) old.doctype (c ∷ t)))
    identifier-absorbs id.System from = state-absorbs Sink old c (state.AfterDoctypeIdentifier id.System) from
        (λ b s t. item-absorbs Sink laws old (after_system (standing old InData) old.doctype (c ∷ t)) b s (c ∷ t)
        (after_system-fault (standing old InData) old.doctype (c ∷ t)))

    pub bogus-absorbs : IsAt old state.BogusDoctype → Absorbs Sink old c
    unfolding held_at
    bogus-absorbs from = state-absorbs Sink old c state.BogusDoctype from
        (λ b s t. item-absorbs Sink laws old (junk_after (standing old InData) old.doctype (c ∷ t)) b s (c ∷ t)
        (junk-fault (standing old InData) old.doctype (c ∷ t)))

  -- The machine moves on by a character that ends no doctype.
  module _ (old : Tokenizer K) (c : ℕ) (ok : Sink.is_sound (Sink.view old.sink)) where
    stays : (st : State) → IsAt old st
        → ((b : ℕ) (s : Sink.State × Notes ℕ) (t : List ℕ) → at Sink st old b s (c ∷ t) ≡ at Sink st old (b + line_break (nat_eq c 10)) s t)
        → Took Sink old old c flow.Continue
    stays st from law = took Sink old old c st st from from refl refl ok law

    grows : (st : State) (front : List ℕ) → IsAt old st
        → ((b : ℕ) (s : Sink.State × Notes ℕ) (t : List ℕ) → at Sink st old b s (c ∷ t) ≡ at Sink st
        (record old { temporary = front }) (b + line_break (nat_eq c 10)) s t)
        → Took Sink old (record old { temporary = front }) c flow.Continue
    grows st front from law = took Sink old (record old { temporary = front }) c st st from
        (record { state = from.state; fresh = from.fresh }) refl refl ok law

    moves : (st st' : State) (front : List ℕ) (d : Doctype) → IsAt old st
        → ((b : ℕ) (s : Sink.State × Notes ℕ) (t : List ℕ) → at Sink st old b s (c ∷ t) ≡ at Sink st'
        (record old { temporary = front; doctype = d; state = st' }) (b + line_break (nat_eq c 10)) s t)
        → Took Sink old (record old { temporary = front; doctype = d; state = st' }) c flow.Continue
    moves st st' front d from law = took Sink old (record old { temporary = front; doctype = d; state = st' }) c st
        st' from (record { state = refl; fresh = from.fresh }) refl refl ok law

    behind-c : (i j : Item) (b : ℕ) (s : Sink.State × Notes ℕ) (t : List ℕ) → i ≡ longer j
        → plays Sink (rows_of old) i b s (c ∷ t) ≡ plays Sink (rows_of old) j (b + line_break (nat_eq c 10)) s t
    behind-c i j b s t is = behind-any Sink laws old i j b s c t is

    -- white space
    pub before_name-white : IsAt old state.BeforeDoctypeName → is_white_space c ≡ true → Took Sink old old c flow.Continue
    unfolding held_at
    before_name-white from e = stays state.BeforeDoctypeName from
        (λ b s t. behind-c _ _ b s t (skip-white (doctype_name_at (standing old InData)) c t e))

    pub name-white : (front word : List ℕ) (d : Doctype) → IsAt old state.DoctypeName → is_white_space c ≡ true
        → front ≡ [] → word ≡ [] → d ≡ record no_doctype { name = Some old.temporary }
        → Took Sink old (record old { temporary = front; doctype = d; keyword = word; state = state.AfterDoctypeName }) c flow.Continue
    unfolding held_at
    name-white front word d from e is is' is'' = rw (is, is', is'')
        (took Sink old (record old {
          temporary = [];
          doctype = record no_doctype { name = Some old.temporary };
          keyword = [];
          state = state.AfterDoctypeName;
        }) c state.DoctypeName state.AfterDoctypeName from
        (record { state = refl; fresh = from.fresh }) refl refl ok (λ b s t.
        behind-c _ _ b s t (name-ends (standing old InData) old.temporary c t (word-white c e)
        ∙ skip-white (keyword_at (standing old InData) (record no_doctype { name = Some old.temporary })) c t e)))

    pub before_identifier-white : (kind : DoctypeIdKind) → IsAt old (state.BeforeDoctypeIdentifier kind)
        → is_white_space c ≡ true → Took Sink old old c flow.Continue
    unfolding held_at
    before_identifier-white id.Public from e = stays (state.BeforeDoctypeIdentifier id.Public) from
        (λ b s t. behind-c _ _ b s t (skip-white (public_at (standing old InData) old.doctype) c t e))
    before_identifier-white id.System from e = stays (state.BeforeDoctypeIdentifier id.System) from
        (λ b s t. behind-c _ _ b s t (skip-white (system_at (standing old InData) old.doctype) c t e))

    pub between-white : IsAt old state.BetweenDoctypePublicAndSystemIdentifiers → is_white_space c ≡ true
        → Took Sink old old c flow.Continue
    unfolding held_at
    between-white from e = stays state.BetweenDoctypePublicAndSystemIdentifiers from
        (λ b s t. behind-c _ _ b s t (skip-white (second_identifier_at (standing old InData) old.doctype) c t e))

    pub after_system-white : IsAt old (state.AfterDoctypeIdentifier id.System) → is_white_space c ≡ true → Took Sink old old c flow.Continue
    unfolding held_at
    after_system-white from e = stays (state.AfterDoctypeIdentifier id.System) from
        (λ b s t. behind-c _ _ b s t (skip-white (doctype_end_at (standing old InData) old.doctype) c t e))

    -- characters of a name or an identifier, and junk
    pub name-push : (front : List ℕ) → IsAt old state.DoctypeName → is_white_space c ≡ false → nat_eq c 62 ≡ false
        → front ≡ old.temporary ++ lowered c ∷ [] → Took Sink old (record old { temporary = front }) c flow.Continue
    unfolding held_at
    name-push front from e f is =
        rw is (took_odd Sink (nat_eq c 0) old (record old { temporary = old.temporary ++ lowered c ∷ [] }) c
        state.DoctypeName state.DoctypeName from (record { state = from.state; fresh = from.fresh }) refl refl ok
        (λ b s t. play-odd (listening Sink) (rows_of old) slight-absorbed (nat_eq c 0) _ _ b s c t
        (name-goes_on (standing old InData) old.temporary c t (word-other c e f))))

    double-push : (kind : DoctypeIdKind) (front : List ℕ) → IsAt old (state.DoctypeIdentifierDoubleQuoted kind)
        → nat_eq c 34 ≡ false → nat_eq c 62 ≡ false → front ≡ old.temporary ++ shown c ∷
        [] → Took Sink old (record old { temporary = front }) c flow.Continue
    unfolding held_at
    double-push id.Public front from e f is =
        rw is (grows (state.DoctypeIdentifierDoubleQuoted id.Public) (old.temporary ++ shown c ∷ []) from
        (λ b s t. behind-c _ _ b s t (public-goes_on 34 (standing old InData) old.doctype old.temporary c t (neither c 34 e f))))
    double-push id.System front from e f is =
        rw is (grows (state.DoctypeIdentifierDoubleQuoted id.System) (old.temporary ++ shown c ∷ []) from
        (λ b s t. behind-c _ _ b s t (system-goes_on 34 (standing old InData) old.doctype old.temporary c t (neither c 34 e f))))

    single-push : (kind : DoctypeIdKind) (front : List ℕ) → IsAt old (state.DoctypeIdentifierSingleQuoted kind)
        → nat_eq c 39 ≡ false → nat_eq c 62 ≡ false → front ≡ old.temporary ++ shown c ∷
        [] → Took Sink old (record old { temporary = front }) c flow.Continue
    unfolding held_at
    single-push id.Public front from e f is =
        rw is (grows (state.DoctypeIdentifierSingleQuoted id.Public) (old.temporary ++ shown c ∷ []) from
        (λ b s t. behind-c _ _ b s t (public-goes_on 39 (standing old InData) old.doctype old.temporary c t (neither c 39 e f))))
    single-push id.System front from e f is =
        rw is (grows (state.DoctypeIdentifierSingleQuoted id.System) (old.temporary ++ shown c ∷ []) from
        (λ b s t. behind-c _ _ b s t (system-goes_on 39 (standing old InData) old.doctype old.temporary c t (neither c 39 e f))))

    pub quoted-push : (quote : ℕ) → is_quote quote ≡ true → (kind : DoctypeIdKind) (front : List ℕ)
        → IsAt old (quoted_state quote kind) → nat_eq c quote ≡ false → nat_eq c 62 ≡ false → front ≡ old.temporary
        ++ shown c ∷ [] → Took Sink old (record old { temporary = front }) c flow.Continue
    quoted-push = of-quote (λ quote. (kind : DoctypeIdKind) (front : List ℕ) → IsAt old (quoted_state quote kind)
        → nat_eq c quote ≡ false → nat_eq c 62 ≡ false → front ≡ old.temporary ++ shown c ∷
        [] → Took Sink old (record old { temporary = front }) c flow.Continue) double-push single-push

    pub bogus-junk : IsAt old state.BogusDoctype → nat_eq c 62 ≡ false → Took Sink old old c flow.Continue
    unfolding held_at
    bogus-junk from e = stays state.BogusDoctype from (λ b s t. behind-c _ _ b s t (rw e refl))

  -- Quotes.
  module _ (old : Tokenizer K) (ok : Sink.is_sound (Sink.view old.sink)) where
    double-closed : (kind : DoctypeIdKind) (front : List ℕ) (d : Doctype)
        → IsAt old (state.DoctypeIdentifierDoubleQuoted kind) → front ≡ [] → d ≡ with_identifier kind old.doctype
        old.temporary → Took Sink old
        (record old { temporary = front; doctype = d; state = state.AfterDoctypeIdentifier kind }) 34 flow.Continue
    unfolding held_at
    double-closed id.Public front d from is is' =
        rw (is, is') (moves old 34 ok (state.DoctypeIdentifierDoubleQuoted id.Public)
        (state.AfterDoctypeIdentifier id.Public) [] (with_identifier id.Public old.doctype old.temporary) from (λ b s t.
        behind-c old 34 ok (public_after 34 (standing old InData) old.doctype old.temporary (34 ∷ t)) _ b s t (rw append-nil refl)))
    double-closed id.System front d from is is' =
        rw (is, is') (moves old 34 ok (state.DoctypeIdentifierDoubleQuoted id.System)
        (state.AfterDoctypeIdentifier id.System) [] (with_identifier id.System old.doctype old.temporary) from (λ b s t.
        behind-c old 34 ok (system_after 34 (standing old InData) old.doctype old.temporary (34 ∷ t)) _ b s t (rw append-nil refl)))

    single-closed : (kind : DoctypeIdKind) (front : List ℕ) (d : Doctype)
        → IsAt old (state.DoctypeIdentifierSingleQuoted kind) → front ≡ [] → d ≡ with_identifier kind old.doctype
        old.temporary → Took Sink old
        (record old { temporary = front; doctype = d; state = state.AfterDoctypeIdentifier kind }) 39 flow.Continue
    unfolding held_at
    single-closed id.Public front d from is is' =
        rw (is, is') (moves old 39 ok (state.DoctypeIdentifierSingleQuoted id.Public)
        (state.AfterDoctypeIdentifier id.Public) [] (with_identifier id.Public old.doctype old.temporary) from (λ b s t.
        behind-c old 39 ok (public_after 39 (standing old InData) old.doctype old.temporary (39 ∷ t)) _ b s t (rw append-nil refl)))
    single-closed id.System front d from is is' =
        rw (is, is') (moves old 39 ok (state.DoctypeIdentifierSingleQuoted id.System)
        (state.AfterDoctypeIdentifier id.System) [] (with_identifier id.System old.doctype old.temporary) from (λ b s t.
        behind-c old 39 ok (system_after 39 (standing old InData) old.doctype old.temporary (39 ∷ t)) _ b s t (rw append-nil refl)))

    pub quoted-closed : (quote : ℕ) → is_quote quote ≡ true → (kind : DoctypeIdKind) (front : List ℕ) (d : Doctype)
        → IsAt old (quoted_state quote kind) → front ≡ [] → d ≡ with_identifier kind old.doctype old.temporary
        → Took Sink old (record old { temporary = front; doctype = d; state = state.AfterDoctypeIdentifier kind }) quote flow.Continue
    quoted-closed = of-quote (λ quote. (kind : DoctypeIdKind) (front : List ℕ) (d : Doctype)
        → IsAt old (quoted_state quote kind) → front ≡ [] → d ≡ with_identifier kind old.doctype old.temporary
        → Took Sink old (record old { temporary = front; doctype = d; state = state.AfterDoctypeIdentifier kind })
        quote flow.Continue) double-closed single-closed

    pub double-opened : (kind : DoctypeIdKind) (front : List ℕ) → IsAt old (state.BeforeDoctypeIdentifier kind)
        → front ≡ [] → Took Sink old (record old { temporary = front; state = state.DoctypeIdentifierDoubleQuoted kind }) 34 flow.Continue
    unfolding held_at
    double-opened id.Public front from is =
        rw is (moves old 34 ok (state.BeforeDoctypeIdentifier id.Public)
        (state.DoctypeIdentifierDoubleQuoted id.Public) [] old.doctype from (λ b s t. behind-c old 34 ok _ _ b s t refl))
    double-opened id.System front from is =
        rw is (moves old 34 ok (state.BeforeDoctypeIdentifier id.System)
        (state.DoctypeIdentifierDoubleQuoted id.System) [] old.doctype from (λ b s t. behind-c old 34 ok _ _ b s t refl))

    pub single-opened : (kind : DoctypeIdKind) (front : List ℕ) → IsAt old (state.BeforeDoctypeIdentifier kind)
        → front ≡ [] → Took Sink old (record old { temporary = front; state = state.DoctypeIdentifierSingleQuoted kind }) 39 flow.Continue
    unfolding held_at
    single-opened id.Public front from is =
        rw is (moves old 39 ok (state.BeforeDoctypeIdentifier id.Public)
        (state.DoctypeIdentifierSingleQuoted id.Public) [] old.doctype from (λ b s t. behind-c old 39 ok _ _ b s t refl))
    single-opened id.System front from is =
        rw is (moves old 39 ok (state.BeforeDoctypeIdentifier id.System)
        (state.DoctypeIdentifierSingleQuoted id.System) [] old.doctype from (λ b s t. behind-c old 39 ok _ _ b s t refl))

    pub second-double : (front : List ℕ) → IsAt old state.BetweenDoctypePublicAndSystemIdentifiers → front ≡ []
        → Took Sink old (record old { temporary = front; state = state.DoctypeIdentifierDoubleQuoted id.System }) 34 flow.Continue
    unfolding held_at
    second-double front from is =
        rw is (moves old 34 ok state.BetweenDoctypePublicAndSystemIdentifiers
        (state.DoctypeIdentifierDoubleQuoted id.System) [] old.doctype from (λ b s t. behind-c old 34 ok _ _ b s t refl))

    pub second-single : (front : List ℕ) → IsAt old state.BetweenDoctypePublicAndSystemIdentifiers → front ≡ []
        → Took Sink old (record old { temporary = front; state = state.DoctypeIdentifierSingleQuoted id.System }) 39 flow.Continue
    unfolding held_at
    second-single front from is =
        rw is (moves old 39 ok state.BetweenDoctypePublicAndSystemIdentifiers
        (state.DoctypeIdentifierSingleQuoted id.System) [] old.doctype from (λ b s t. behind-c old 39 ok _ _ b s t refl))

  -- The character is one of another state.
  module _ (old new : Tokenizer K) (c : ℕ) (result : Result (ProcessResult H) ParseFault) where
    goes-on : (fault : ErrorCode) (st st' : State) (front : List ℕ) (d : Doctype) → IsAt old st
        → ((b : ℕ) (s : Sink.State × Notes ℕ) (t : List ℕ) → at Sink st old b s (c ∷ t) ≡ at Sink st'
        (record old { temporary = front; doctype = d; fault = fault; state = st' }) b s (c ∷ t))
        → Keeps Sink (record old { temporary = front; doctype = d; fault = fault; state = st' }) new c result → Keeps Sink old new c result
    goes-on fault st st' front d from law keeps = keeps_silent Sink old
        (record old { temporary = front; doctype = d; fault = fault; state = st' }) new c st st' result from
        (record { state = refl; fresh = from.fresh }) refl refl law keeps

    same-item : (i j : Item) (b : ℕ) (s : Sink.State × Notes ℕ) (u : List ℕ) → i ≡ j
        → plays Sink (rows_of old) i b s u ≡ plays Sink (rows_of old) j b s u
    same-item i j b s u e = ap (λ x. plays Sink (rows_of old) x b s u) e

    pub before_name-other : (front : List ℕ) (d : Doctype) → IsAt old state.BeforeDoctypeName
        → is_white_space c ≡ false → nat_eq c 62 ≡ false → front ≡ []
        → Keeps Sink (record old { temporary = front; doctype = d; state = state.DoctypeName }) new c result → Keeps Sink old new c result
    unfolding held_at
    before_name-other front d from e f is = goes-on old.fault state.BeforeDoctypeName state.DoctypeName front d from
        (λ b s t. rw is (same-item (doctype_after (standing old InData) (c ∷ t))
        (doctype_name_after (standing old InData) [] (c ∷ t)) b s (c ∷ t)
        (stop-white (doctype_name_at (standing old InData)) c t e ∙ ap (λ x. name_by x (standing old InData) (c ∷ t)) f)))

    pub keyword-other : (kind : DoctypeIdKind) → IsAt old (state.AfterDoctypeKeyword kind)
        → Keeps Sink (record old { state = state.BeforeDoctypeIdentifier kind }) new c result → Keeps Sink old new c result
    unfolding held_at
    keyword-other id.Public from = goes-on old.fault (state.AfterDoctypeKeyword id.Public)
        (state.BeforeDoctypeIdentifier id.Public) old.temporary old.doctype from (λ b s t. refl)
    keyword-other id.System from = goes-on old.fault (state.AfterDoctypeKeyword id.System)
        (state.BeforeDoctypeIdentifier id.System) old.temporary old.doctype from (λ b s t. refl)

    pub before_identifier-other : (fault : ErrorCode) (kind : DoctypeIdKind)
        → IsAt old (state.BeforeDoctypeIdentifier kind) → is_white_space c ≡ false → nat_eq c 34 ≡ false → nat_eq c 39 ≡ false
        → Keeps Sink (record old { doctype = forced old.doctype; fault = fault; state = state.BogusDoctype }) new c
        result → Keeps Sink old new c result
    unfolding held_at
    before_identifier-other fault id.Public from e f g = goes-on fault (state.BeforeDoctypeIdentifier id.Public)
        state.BogusDoctype old.temporary (forced old.doctype) from (λ b s t.
        same-item (after_public_keyword (standing old InData) old.doctype (c ∷ t))
        (junk_after (standing old InData) (forced old.doctype) (c ∷ t)) b s (c ∷ t)
        (stop-white (public_at (standing old InData) old.doctype) c t e
        ∙ public-junk (standing old InData) old.doctype c t (nat_eq c 62) refl f g))
    before_identifier-other fault id.System from e f g = goes-on fault (state.BeforeDoctypeIdentifier id.System)
        state.BogusDoctype old.temporary (forced old.doctype) from (λ b s t.
        same-item (after_system_keyword (standing old InData) old.doctype (c ∷ t))
        (junk_after (standing old InData) (forced old.doctype) (c ∷ t)) b s (c ∷ t)
        (stop-white (system_at (standing old InData) old.doctype) c t e
        ∙ system-junk (standing old InData) old.doctype c t (nat_eq c 62) refl f g))

    pub between-other : (fault : ErrorCode) → IsAt old state.BetweenDoctypePublicAndSystemIdentifiers
        → is_white_space c ≡ false → nat_eq c 62 ≡ false → nat_eq c 34 ≡ false → nat_eq c 39 ≡ false
        → Keeps Sink (record old { doctype = forced old.doctype; fault = fault; state = state.BogusDoctype }) new c
        result → Keeps Sink old new c result
    unfolding held_at
    between-other fault from e f g h = goes-on fault state.BetweenDoctypePublicAndSystemIdentifiers
        state.BogusDoctype old.temporary (forced old.doctype) from (λ b s t.
        same-item (after_public (standing old InData) old.doctype (c ∷ t))
        (junk_after (standing old InData) (forced old.doctype) (c ∷ t)) b s (c ∷ t)
        (stop-white (second_identifier_at (standing old InData) old.doctype) c t e
        ∙ second-junk (standing old InData) old.doctype c t f g h))

    pub after_system-other : IsAt old (state.AfterDoctypeIdentifier id.System) → is_white_space c ≡ false
        → Keeps Sink (record old { state = state.BogusDoctype }) new c result → Keeps Sink old new c result
    unfolding held_at
    after_system-other from e = goes-on old.fault (state.AfterDoctypeIdentifier id.System) state.BogusDoctype
        old.temporary old.doctype from (λ b s t.
        same-item (after_system (standing old InData) old.doctype (c ∷ t))
        (junk_after (standing old InData) old.doctype (c ∷ t)) b s (c ∷ t)
        (stop-white (doctype_end_at (standing old InData) old.doctype) c t e))

    pub after_public-other : IsAt old (state.AfterDoctypeIdentifier id.Public)
        → Keeps Sink (record old { state = state.BetweenDoctypePublicAndSystemIdentifiers }) new c result → Keeps Sink old new c result
    unfolding held_at
    after_public-other from = goes-on old.fault (state.AfterDoctypeIdentifier id.Public)
        state.BetweenDoctypePublicAndSystemIdentifiers old.temporary old.doctype from (λ b s t. refl)

    pub doctype-other : IsAt old state.Doctype
        → Keeps Sink (record old { state = state.BeforeDoctypeName }) new c result → Keeps Sink old new c result
    unfolding held_at
    doctype-other from keeps = keeps_odd Sink (not (ends_word c)) old
        (record old { state = state.BeforeDoctypeName }) new c state.Doctype state.BeforeDoctypeName result from
        (record { state = refl; fresh = from.fresh }) refl refl
        (λ b s t. play-marked (listening Sink) (rows_of old) slight-absorbed (not (ends_word c))
        (doctype_after (standing old InData) (c ∷ t)) b s (c ∷ t)) keeps
