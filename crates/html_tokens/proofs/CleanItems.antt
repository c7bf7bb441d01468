-- No clean item has a fault, so a clean text owes no error and is quiet.
use Rattle.std.proofs.Common.{◌≡◌, ◌∙◌, ℕ, zero, suc, ◌+◌, ◌-◌, Bool, true, false, nat_eq, List, [], ◌∷◌, ◌++◌, take, drop}
use Rattle.std.proofs.Common.{Option, Some, None, Result, Ok, Err, refl, ap, arith}
use Rattle.std.specs.Prelude.{◌||◌, ◌&&◌, not, codes, is_none}
use Rattle.std.specs.Char.{is_ascii_lowercase, is_ascii_alphabetic}
use Rattle.std.proofs.lemmas.Bool.{and_parts}
use Rattle.std.proofs.lemmas.Bool.Decides.{nat_tests}
use Rattle.html_tokens.specs.declared.replies.TokenSinkResult.{TokenSinkResult}
use Rattle.html_tokens.specs.declared.replies.TokenSinkResult.TheVariants.{Continue}
use Rattle.html_tokens.specs.declared.states.RawKind.{RawKind}
use Rattle.html_tokens.specs.declared.tags.Tag.{Tag}
use Rattle.html_tokens.specs.declared.tags.TagKind.{TagKind}
use Rattle.html_tokens.specs.declared.tags.TagKind.TheVariants.{StartTag, EndTag}
use Rattle.html_tokens.specs.declared.token.Token.{Token}
use Rattle.html_tokens.specs.declared.token.Token.TheVariants.{EOFToken}
use Rattle.html_tokens.specs.Characters.{begins}
use Rattle.html_tokens.specs.Clean.{is_clean_text, is_clean_name, is_clean_end, is_clean_comment, is_clean_declaration}
use Rattle.html_tokens.specs.Clean.{is_clean_open, is_clean_markup, is_clean_in, is_clean, is_clean_part, quiet_by, clean_by}
use Rattle.html_tokens.specs.Clean.{clean_from, is_named}
use Rattle.html_tokens.specs.Comments
use Rattle.html_tokens.specs.Item.{TextPlace, InData, InRaw, InPlaintext, InCdata, InTag, Stand, Fault, grave_if}
use Rattle.html_tokens.specs.Item.{reference_item, fault_at_end}
use Rattle.html_tokens.specs.Items
use Rattle.html_tokens.specs.Notes.{Notes, no_notes, noted, heard, noting, noting_error, noting_cdata, noting_end, errors_of}
use Rattle.html_tokens.specs.Notes.{was_quiet, owed, is_quiet_reading}
use Rattle.html_tokens.specs.RawText
use Rattle.html_tokens.specs.Reading.{◌>>=◌, said, next_stand, line_number, line_breaks, reading_from}
use Rattle.html_tokens.specs.Reference.{Reference, reference_at, fault_of_reference}
use Rattle.html_tokens.specs.Table.{Row}
use Rattle.html_tokens.specs.Tags
use Rattle.html_tokens.proofs.CleanComments.{comment}
use Rattle.html_tokens.proofs.CleanTags.{IsFaultless, all, name, attribute, amp-named}
use Rattle.html_tokens.proofs.ReferenceNames.{none-true, begins-front, named-faultless}

-- what holds beside nothing else holds
or-none : (b : Bool) → (b || false) ≡ true → b ≡ true
or-none true h = refl
or-none false h = absurd cc

-- TEXT

-- a reference has the fault that its text has
reference : (fault : Option Fault) (o : Option Reference) (st : Stand) → fault ≡ None → IsFaultless (reference_item fault o st)
reference fault None st h = h
reference fault (Some r) st h = h

-- a character of text in data, by whether it is "<", "&" and U+0000
in-data : (lt amp null : Bool) (rows : List Row) (cdata : Bool) (st : Stand) (c : ℕ) (t : List ℕ) → nat_eq c 0 ≡ null
    → ((not lt && not null && (not amp || is_named rows t)) || (lt && is_clean_markup t)) ≡ true
    → (is_clean_markup t ≡ true → IsFaultless (Items.open_at cdata st t)) → IsFaultless (Items.data_by lt amp rows cdata st c t)
in-data true amp null rows cdata st c t z h markup = markup h
in-data false true true rows cdata st c t z h markup = absurd cc
in-data false true false rows cdata st c t z h markup = reference (fault_of_reference rows t)
    (reference_at false rows t) st (named-faultless rows t (or-none (is_named rows t) h))
in-data false false true rows cdata st c t z h markup = absurd cc
in-data false false false rows cdata st c t z h markup = rw z refl

-- a character of raw text, by whether the fitting end tag begins there, and whether it is "&" and U+0000
raw : (ends amp : Bool) (rows : List Row) (st : Stand) (kind : RawKind) (c : ℕ) (t : List ℕ)
    → (ends ≡ true → is_clean_name (drop 1 t) ≡ true) → (ends ≡ false → nat_eq c 0 ≡ false)
    → (ends ≡ false → amp ≡ true → fault_of_reference rows t ≡ None)
    → IsFaultless (RawText.raw_by ends amp rows st kind c t)
raw true amp rows st kind c t e h k = name st (Tags.named EndTag []) (drop 1 t) (e refl)
raw false true rows st kind c t e h k = reference (fault_of_reference rows t) (reference_at false rows t) st (k refl refl)
raw false false rows st kind c t e h k = rw (h refl) refl

-- MARKUP

-- a lower-case letter is a letter
lower-letter : (c : ℕ) → is_ascii_lowercase c ≡ true → is_ascii_alphabetic c ≡ true
lower-letter c h = grind (arith, nat_tests)

-- a clean end tag's name is a clean name
end-name : (t : List ℕ) → is_clean_end t ≡ true → is_clean_name t ≡ true
end-name [] h = absurd cc
end-name (c ∷ t) h = (and_parts (is_ascii_lowercase c) _ h).1

-- after "</" a clean end tag's name begins
end : (st : Stand) (t : List ℕ) → is_clean_end t ≡ true → IsFaultless (Items.end_at st t)
end st [] h = absurd cc
end st (c ∷ t) h = rw (lower-letter c (and_parts (is_ascii_lowercase c) _ h).0)
    (name st (Tags.named EndTag []) (c ∷ t) (end-name (c ∷ t) h))

-- after "<!" the doctype stands
doctype : (cdata : Bool) (st : Stand) (t u : List ℕ) → t ≡ codes "DOCTYPE html>" ++ u → IsFaultless (Items.declaration_at cdata st t)
doctype cdata st t u e = rw e refl

-- after "<!" "--" and a clean comment stand
dashed : (cdata : Bool) (st : Stand) (t u : List ℕ) → t ≡ codes "--" ++ u → is_clean_comment u ≡ true
    → IsFaultless (Items.declaration_at cdata st t)
dashed cdata st t u e h = rw e (all 4 (Comments.comment_at st u) (comment st u h))

-- one of two
either : {P : Type 0} (a b : Bool) → (a || b) ≡ true → (a ≡ true → P) → (b ≡ true → P) → P
either true b h f g = f refl
either false b h f g = g h

-- after "<!" a clean declaration has no fault
declaration : (cdata : Bool) (st : Stand) (c : ℕ) (t : List ℕ) → is_clean_declaration (c ∷ t) ≡ true
    → IsFaultless (Items.declaration_at cdata st t)
declaration cdata st c t h =
    either (begins (codes "!DOCTYPE html>") (c ∷ t)) _ h
    (λ e. doctype cdata st t (drop 13 t) (ap (drop 1) (begins-front (codes "!DOCTYPE html>") (c ∷ t) e)))
    (λ e. let parts = and_parts (begins (codes "!--") (c ∷ t)) (is_clean_comment (drop 2 t)) e in dashed cdata st t
    (drop 2 t) (ap (drop 1) (begins-front (codes "!--") (c ∷ t) parts.0)) parts.1)

-- what a clean character after "<" begins
open-by : (o : Items.Opening) (cdata : Bool) (st : Stand) (c : ℕ) (t : List ℕ) → is_clean_open o (c ∷ t) ≡ true
    → IsFaultless (Items.open_by o cdata st c t)
open-by Items.Letter cdata st c t h = name st (Tags.named StartTag []) (c ∷ t) (end-name (c ∷ t) h)
open-by Items.Slash cdata st c t h = end st t h
open-by Items.Mark cdata st c t h = declaration cdata st c t h
open-by Items.Question cdata st c t h = absurd cc
open-by Items.Close cdata st c t h = absurd cc
open-by Items.Other cdata st c t h = absurd cc

-- after "<" clean markup has no fault
in-open : (cdata : Bool) (st : Stand) (t : List ℕ) → is_clean_markup t ≡ true → IsFaultless (Items.open_at cdata st t)
in-open cdata st [] h = absurd cc
in-open cdata st (c ∷ t) h = open-by (Items.opening c) cdata st c t h

-- TAGS

-- an attribute stands in a start tag
in-tag : (kind : TagKind) (rows : List Row) (st : Stand) (tag : Tag) (c : ℕ) (t : List ℕ)
    → is_clean_part Tags.Attributes kind rows tag (c ∷ t) ≡ true → IsFaultless (Tags.tag_by Tags.Attributes rows st tag c t)
in-tag StartTag rows st tag c t h = attribute rows st tag c t h
in-tag EndTag rows st tag c t h = absurd cc

-- a clean part of a tag has no fault
part : (p : Tags.Part) (rows : List Row) (st : Stand) (tag : Tag) (c : ℕ) (t : List ℕ)
    → is_clean_part p tag.kind rows tag (c ∷ t) ≡ true → IsFaultless (Tags.tag_by p rows st tag c t)
part Tags.Space rows st tag c t h = refl
part Tags.Solidus rows st tag c t h = absurd cc
part Tags.End rows st tag c t h = ap grave_if (none-true (Tags.is_faulty_tag tag) h)
part Tags.Attributes rows st tag c t h = in-tag tag.kind rows st tag c t h

-- ITEMS

-- a clean character of text is not U+0000
text-null : (rows : List Row) (c : ℕ) (t : List ℕ) → is_clean_text rows c t ≡ true → nat_eq c 0 ≡ false
text-null rows c t h = none-true (nat_eq c 0) (and_parts (not (nat_eq c 60)) (not (nat_eq c 0)) (and_parts _ _ h).0).1

-- a clean "&" begins a named reference
text-named : (rows : List Row) (c : ℕ) (t : List ℕ) → is_clean_text rows c t ≡ true → nat_eq c 38 ≡ true → fault_of_reference rows t ≡ None
text-named rows c t h e = named-faultless rows t
    (amp-named (nat_eq c 38) (is_named rows t) e (and_parts (not (nat_eq c 60) && not (nat_eq c 0)) _ h).1)

-- where no end tag begins in clean raw text the character is clean
clean-raw : (text lt ends fits name : Bool) → (text || (lt && ends && fits && name)) ≡ true → (lt && ends && fits) ≡ false → text ≡ true
clean-raw true lt ends fits name h e = refl
clean-raw false true true true name h e = absurd cc
clean-raw false true true false name h e = absurd cc
clean-raw false true false fits name h e = absurd cc
clean-raw false false ends fits name h e = absurd cc

-- where an end tag begins in clean raw text its name is clean
clean-raw_end : (lt null named ends fits name : Bool)
    → ((not lt && not null && named) || (lt && ends && fits && name)) ≡ true → (lt && ends && fits) ≡ true → name ≡ true
clean-raw_end true null named true true name h e = h
clean-raw_end true null named true false name h e = absurd cc
clean-raw_end true null named false fits name h e = absurd cc
clean-raw_end false null named ends fits name h e = absurd cc

-- a clean item has no fault, at each place
item-in : (place : TextPlace) (rows : List Row) (cdata : Bool) (st : Stand) (c : ℕ) (t : List ℕ)
    → is_clean_in place rows st c t ≡ true → IsFaultless (Items.item_in place rows cdata st c t)
item-in InData rows cdata st c t h = in-data (nat_eq c 60) (nat_eq c 38) (nat_eq c 0) rows cdata st c t refl h (in-open cdata st t)
item-in (InRaw kind) rows cdata st c t h =
    let ends = RawText.ends_at_tag kind in
    let fits = RawText.is_fitting_end st.last_start_tag t in
    let clean = is_clean_end (drop 1 t) in
    let text : (nat_eq c 60 && ends && fits) ≡ false → is_clean_text rows c t ≡ true =
    clean-raw (is_clean_text rows c t) (nat_eq c 60) ends fits clean h in
    raw (nat_eq c 60 && ends && fits) (nat_eq c 38 && RawText.has_references kind) rows st kind c t
    (λ e. end-name (drop 1 t) (clean-raw_end (nat_eq c 60) (nat_eq c 0) (not (nat_eq c 38) || is_named rows t) ends fits clean h e))
    (λ e. text-null rows c t (text e))
    (λ e f. text-named rows c t (text e) (and_parts (nat_eq c 38) _ f).0)
item-in InPlaintext rows cdata st c t h = rw (text-null rows c t h) refl
item-in InCdata rows cdata st c t h = absurd cc
item-in (InTag tag) rows cdata st c t h = part (Tags.part c) rows st tag c t h

-- a clean item has no fault
pub item-clean : (rows : List Row) (cdata : Bool) (st : Stand) (c : ℕ) (t : List ℕ) → is_clean rows st c t ≡ true
    → IsFaultless (Items.item rows cdata st c t)
item-clean rows cdata st c t h = item-in st.place rows cdata st c t h

-- READINGS

-- no fault at all
no-fault : (o : Option Fault) → is_none o ≡ true → o ≡ None
no-fault None h = refl
no-fault (Some fault) h = absurd cc

module _ {S H F : Type 0} (step : S → Token → ℕ → Result (S × TokenSinkResult H) F) (quiet : S → Token → Bool)
    (cdata : S → Bool) (ends : S → S) (rows : List Row) where
  -- no more errors were noted, and what was quiet stayed so
  abbrev Stays : Notes H → ℕ → Bool → Type 0
  Stays notes errors is_quiet = (errors ≡ notes.errors) × (notes.is_quiet ≡ true → is_quiet ≡ true)

  -- where what is read is clean, that holds after it
  abbrev pub OwesNone : Notes H → Result (S × Notes H) (F × ℕ) → Type 0
  OwesNone notes r = Stays notes (errors_of r) (was_quiet r)

  -- what stayed once and then again stayed
  then : (first next : Notes H) (errors : ℕ) (is_quiet : Bool) → Stays first next.errors next.is_quiet
      → Stays next errors is_quiet → Stays first errors is_quiet
  then first next errors is_quiet h k = (k.0 ∙ h.0, λ q. k.1 (h.1 q))

  -- a quiet token leaves what was noted as it was
  hears : (q : Bool) (notes : Notes H) → q ≡ true → Stays notes (heard q notes).errors (heard q notes).is_quiet
  hears q notes h = (refl, λ e. rw (e, h) refl)

  -- the end of input, after what stayed
  ended : (notes before : Notes H) (r : Result (S × TokenSinkResult H) F)
      → Stays notes before.errors before.is_quiet → OwesNone notes (noted before r >>= λ p. Ok (noting_end ends p.0))
  ended notes before (Ok p) e = e
  ended notes before (Err x) e = (e.0, λ q. refl)

  -- a step, after what stayed, and then the rest
  goes-on : (notes before : Notes H) (r : Result (S × TokenSinkResult H) F) (clean : S × TokenSinkResult H → Bool)
      (f : (S × Notes H) × TokenSinkResult H → Result (S × Notes H) (F × ℕ)) → clean_by step quiet cdata rows true r clean ≡ true
      → ((p : S × TokenSinkResult H) (after : Notes H) → Stays notes after.errors after.is_quiet → clean p ≡ true
      → OwesNone notes (f ((p.0, after), p.1))) → Stays notes before.errors before.is_quiet → OwesNone notes (noted before r >>= f)
  goes-on notes before (Ok p) clean f h k e = k p _ e h
  goes-on notes before (Err x) clean f h k e = (e.0, λ q. refl)

  -- a quiet token without a fault, and then the rest
  said-clean : (token : Option Token) (b : ℕ) (s : S) (notes : Notes H) (clean : S × TokenSinkResult H → Bool)
      (f : (S × Notes H) × TokenSinkResult H → Result (S × Notes H) (F × ℕ)) → quiet_by quiet token s ≡ true
      → clean_by step quiet cdata rows true (said step (λ fault s. s) None token b s) clean ≡ true
      → ((p : S × TokenSinkResult H) (after : Notes H) → Stays notes after.errors after.is_quiet → clean p ≡ true
      → OwesNone notes (f ((p.0, after), p.1))) → OwesNone notes (said (noting step quiet) noting_error None token b (s, notes) >>= f)
  said-clean None b s notes clean f q h k = k (s, Continue) notes (refl, λ e. e) h
  said-clean (Some token) b s notes clean f q h k =
      goes-on notes (heard (quiet s token) notes) (step s token (line_number b)) clean f h k (hears (quiet s token) notes q)

  -- of a clean reading the item is clean
  clean-item : (clean : Bool) (r : Result (S × TokenSinkResult H) F) (go : S × TokenSinkResult H → Bool)
      → clean_by step quiet cdata rows clean r go ≡ true → clean ≡ true
  clean-item true r go h = refl
  clean-item false r go h = absurd cc

  -- a clean reading leaves the number of errors and the quiet as they were
  pub reading-stays : (n : ℕ) (st : Stand) (b : ℕ) (s : S) (notes : Notes H) (t : List ℕ)
      → clean_from step quiet cdata rows n st b s t ≡ true
      → OwesNone notes (reading_from (noting step quiet) noting_error (noting_cdata cdata) (noting_end ends) rows n st b (s, notes) t)
  unfolding reading_from clean_from
  reading-stays n st b s notes [] h =
      let parts = and_parts (is_none (fault_at_end st.place)) (quiet s EOFToken) h in
      rw (no-fault (fault_at_end st.place) parts.0)
      (ended notes (heard (quiet s EOFToken) notes) (step s EOFToken (line_number b)) (hears (quiet s EOFToken) notes parts.1))
  reading-stays zero st b s notes (c ∷ t) h =
      let i = Items.item rows (cdata s) st c t in
      let read = b + line_breaks (take i.len (c ∷ t)) in
      let clean = clean-item (is_clean rows st c t && quiet_by quiet i.token s) _ _ h in
      let parts = and_parts (is_clean rows st c t) (quiet_by quiet i.token s) clean in
      let faultless : i.fault ≡ None = item-clean rows (cdata s) st c t parts.0 in
      let h' : clean_by step quiet cdata rows true (said step (λ fault s. s) None i.token read s)
      (λ p. clean_from step quiet cdata rows (i.len - 1) (next_stand i.next p.1) read p.0 t) ≡ true = rw (clean, faultless) at h in
      rw faultless (said-clean i.token read s notes _
      (λ p. reading_from (noting step quiet) noting_error (noting_cdata cdata) (noting_end ends) rows
      (i.len - 1) (next_stand i.next p.1) read p.0 t) parts.1 h'
      (λ p after same go. then notes after _ _ same (reading-stays (i.len - 1) (next_stand i.next p.1) read p.0 after t go)))
  reading-stays (suc n) st b s notes (c ∷ t) h = reading-stays n st b s notes t h

  -- a clean reading owes no error and is quiet
  pub reading-clean : (st : Stand) (b : ℕ) (s : S) (t : List ℕ) → clean_from step quiet cdata rows 0 st b s t ≡ true
      → (owed step quiet cdata ends rows st b s t ≡ 0) × (is_quiet_reading step quiet cdata ends rows st b s t ≡ true)
  reading-clean st b s t h =
      let stays = reading-stays 0 st b s no_notes t h in
      (stays.0, stays.1 refl)
