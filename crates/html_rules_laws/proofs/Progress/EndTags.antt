-- While the text of an element is read, characters are told, and an end tag. A start tag that is told leaves its name as that of the last
-- one.
use Rattle.std.proofs.Common.{◌≡◌, ℕ, suc, Bool, true, false, List, [], ◌∷◌, ◌++◌, Option, Some, None, refl}
use Rattle.std.specs.Prelude.{drop, take, nat_eq, ◌&&◌, codes}
use Rattle.html_tokens.specs.declared.states.RawKind.{RawKind}
use Rattle.html_tokens.specs.declared.tags.Tag.{Tag}
use Rattle.html_tokens.specs.declared.tags.TagKind.{TagKind}
use Rattle.html_tokens.specs.declared.tags.TagKind.TheVariants.{StartTag, EndTag}
use Rattle.html_tokens.specs.declared.token.Doctype.{Doctype}
use Rattle.html_tokens.specs.declared.token.Token.{Token}
use Rattle.html_tokens.specs.declared.token.Token.TheVariants.{TagToken, CharacterTokens, CommentToken, DoctypeToken}
use Rattle.html_tokens.specs.Characters.{all_lowered, begins, ends_attribute_name, lowered, run, white}
use Rattle.html_tokens.specs.Comments.{bogus_comment_after, comment_at}
use Rattle.html_tokens.specs.Doctypes.{doctype_at as doctype_item}
use Rattle.html_tokens.specs.Fault.{Fault}
use Rattle.html_tokens.specs.Item.{TextPlace, InData, InRaw, InPlaintext, InCdata, InTag, Stand, moved, null_by, reference_item}
use Rattle.html_tokens.specs.Items as Begins
use Rattle.html_tokens.specs.Items.{cdata_by, data_by, declaration_by, end_at, end_by, item, item_in, open_at, open_by}
use Rattle.html_tokens.specs.RawText.{ends_at_tag, has_references, is_fitting_end, raw_at, raw_by}
use Rattle.html_tokens.specs.Reference.{Reference, fault_of_reference, reference_at}
use Rattle.html_tokens.specs.Table.{Row}
use Rattle.html_tokens.specs.Tags.{Opening, Quote, Close, Other, Part, Space, Solidus, End, Attributes, attribute_after}
use Rattle.html_tokens.specs.Tags.{attribute_by, after_tag, equals_by, has_attribute, last_name, opened_at, opened_by, opening}
use Rattle.html_tokens.specs.Tags.{part, quote_at, slash_by, tag_by, value_at, with_attribute}
use Rattle.html_tokens.proofs.Declarations.{Holds, all as every, bogus, doctype_at, empty_by}
use Rattle.html_rules.specs.ForeignContent.{is_end_tag, is_start_tag}
use Rattle.html_rules_laws.specs.Joint.{is_raw_place}
use Rattle.html_rules_laws.proofs.Bools.{no}

-- what may come there, where the name of the last start tag is this one
abbrev pub MayTell : Option Token → TextPlace → Type 0
MayTell None p = is_raw_place p ≡ true
MayTell (Some (CharacterTokens cs)) p = is_raw_place p ≡ true
MayTell (Some (TagToken tag)) p = is_end_tag tag.kind ≡ true
MayTell (Some t) p = ⊥

abbrev pub Fits : Option (List ℕ) → Option Token → Stand → Type 0
Fits last o next = MayTell o next.place × (next.last_start_tag ≡ last)

-- What holds inside of a tag of a kind, and after it where it ends, holds of each item there.
module _ (P : Option Token → Stand → Type 0) (st : Stand) (Q : TagKind → Type 0)
    (inside : (tag : Tag) → Q tag.kind → P None (moved st (InTag tag)))
    (over : (tag : Tag) → Q tag.kind → P (Some (TagToken tag)) (after_tag st tag)) where
  with-kind : (tag : Tag) (name value : List ℕ) → Q tag.kind → Q (with_attribute tag name value).kind
  with-kind tag name value e = by (has_attribute tag name) where
    by : (b : Bool) → Q (attribute_by b tag name value).kind
    by true = e
    by false = e

  with-attribute : (tag : Tag) (name value : List ℕ) → Q tag.kind → P None (moved st (InTag (with_attribute tag name value)))
  with-attribute tag name value e = inside (with_attribute tag name value) (with-kind tag name value e)

  quote-holds : (n : ℕ) (tag : Tag) (t : List ℕ) → Q tag.kind → Holds P (quote_at n (moved st (InTag tag)) t)
  quote-holds n tag [] e = inside tag e
  quote-holds n tag (c ∷ t) e = inside tag e

  opened-holds : (o : Opening) (rows : List Row) (tag : Tag) (name : List ℕ) (c : ℕ) (t : List ℕ) → Q tag.kind
      → Holds P (opened_by o rows st tag name c t)
  opened-holds Quote rows tag name c t e = quote-holds _ (with_attribute tag name _) _ (with-kind tag name _ e)
  opened-holds Close rows tag name c t e = with-attribute tag name [] e
  opened-holds Other rows tag name c t e = with-attribute tag name _ e

  at-holds : (rows : List Row) (tag : Tag) (name t : List ℕ) → Q tag.kind → Holds P (opened_at rows st tag name t)
  at-holds rows tag name [] e = with-attribute tag name [] e
  at-holds rows tag name (c ∷ t) e = opened-holds (opening c) rows tag name c t e

  value-holds : (rows : List Row) (tag : Tag) (name t : List ℕ) → Q tag.kind → Holds P (value_at rows st tag name t)
  value-holds rows tag name t e = every P (white t) _ (at-holds rows tag name (drop (white t) t) e)

  equals-holds : (b : Bool) (rows : List Row) (tag : Tag) (name t : List ℕ) → Q tag.kind → Holds P (equals_by b rows st tag name t)
  equals-holds true rows tag name t e = every P (suc (white t)) _ (value-holds rows tag name (drop (suc (white t)) t) e)
  equals-holds false rows tag name t e = with-attribute tag name [] e

  attribute-holds : (rows : List Row) (tag : Tag) (front t : List ℕ) → Q tag.kind → Holds P (attribute_after rows st tag front t)
  attribute-holds rows tag front t e =
      let n = run ends_attribute_name t in
      every P n _ (equals-holds (begins (codes "=") (drop (white (drop n t)) (drop n t))) rows tag
      (front ++ all_lowered (take n t)) (drop n t) e)

  slash-holds : (b : Bool) (tag : Tag) → Q tag.kind → Holds P (slash_by b st tag)
  slash-holds true tag e = over (record tag { self_closing = true }) e
  slash-holds false tag e = inside tag e

  part-holds : (p : Part) (rows : List Row) (tag : Tag) (c : ℕ) (t : List ℕ) → Q tag.kind → Holds P (tag_by p rows st tag c t)
  part-holds Space rows tag c t e = inside tag e
  part-holds Solidus rows tag c t e = slash-holds (begins (codes ">") t) tag e
  part-holds End rows tag c t e = over tag e
  part-holds Attributes rows tag c t e = attribute-holds rows tag (lowered c ∷ []) t e

-- an end tag leaves the name of the last start tag as it was
end-same : (kind : TagKind) (name : List ℕ) (last : Option (List ℕ)) → is_end_tag kind ≡ true → last_name kind name last ≡ last
end-same StartTag name last e = no e
end-same EndTag name last e = refl

part-fits : (p : Part) (rows : List Row) (st : Stand) (tag : Tag) (c : ℕ) (t : List ℕ) → is_end_tag tag.kind ≡ true
    → Holds (Fits st.last_start_tag) (tag_by p rows st tag c t)
part-fits p rows st tag c t e = part-holds (Fits st.last_start_tag) st (λ kind. is_end_tag kind ≡ true)
    (λ tag e. (e, refl)) (λ tag e. (e, end-same tag.kind tag.name st.last_start_tag e)) p rows tag c t e

-- raw text

reference-fits : (rows : List Row) (st : Stand) (t : List ℕ) → is_raw_place st.place ≡ true
    → Holds (Fits st.last_start_tag) (reference_item (fault_of_reference rows t) (reference_at false rows t) st)
reference-fits rows st t h = by (reference_at false rows t) where
  by : (o : Option Reference) → Holds (Fits st.last_start_tag) (reference_item (fault_of_reference rows t) o st)
  by None = (h, refl)
  by (Some r) = (h, refl)

raw-fits : (rows : List Row) (st : Stand) (kind : RawKind) (c : ℕ) (t : List ℕ) → is_raw_place st.place ≡ true
    → Holds (Fits st.last_start_tag) (raw_at rows st kind c t)
raw-fits rows st kind c t h = by (nat_eq c 60 && ends_at_tag kind && is_fitting_end st.last_start_tag t)
    (nat_eq c 38 && has_references kind) where
      by : (a b : Bool) → Holds (Fits st.last_start_tag) (raw_by a b rows st kind c t)
      by true b = (refl, refl)
      by false true = reference-fits rows st t h
      by false false = (refl, refl)

-- the item there
pub item-fits : (rows : List Row) (cdata : Bool) (st : Stand) (c : ℕ) (t : List ℕ) → is_raw_place st.place ≡ true
    → Holds (Fits st.last_start_tag) (item rows cdata st c t)
item-fits rows cdata st c t h = by st.place refl h where
  by : (p : TextPlace) → st.place ≡ p → is_raw_place p ≡ true → Holds (Fits st.last_start_tag) (item_in p rows cdata st c t)
  by (InRaw kind) e h = raw-fits rows st kind c t (rw e h)
  by (InTag tag) e h = part-fits (part c) rows st tag c t h
  by InData e h = no h
  by InPlaintext e h = no h
  by InCdata e h = no h

-- WHAT TELLS A TAG

-- a start tag that is told leaves its name as that of the last one
abbrev pub LeavesName : Option Token → Stand → Type 0
LeavesName (Some (TagToken tag)) next = is_start_tag tag.kind ≡ true → next.last_start_tag ≡ Some tag.name
LeavesName o next = Unit {0}

own-name : (kind : TagKind) (name : List ℕ) (last : Option (List ℕ)) → is_start_tag kind ≡ true → last_name kind name last ≡ Some name
own-name StartTag name last s = refl
own-name EndTag name last s = no s

comment-leaves : (st : Stand) (text : List ℕ) → Unit {0} → LeavesName (Some (CommentToken text)) st
comment-leaves st text u = tt

doctype-leaves : (st : Stand) (d : Doctype) → Unit {0} → LeavesName (Some (DoctypeToken d)) st
doctype-leaves st d u = tt

abbrev bogus-leaves : (st : Stand) (t : List ℕ) → Holds LeavesName (bogus_comment_after st [] t)
bogus-leaves st t = bogus LeavesName (λ st. Unit {0}) comment-leaves doctype-leaves st tt t []

declaration-leaves : (a b e : Bool) (st : Stand) (t : List ℕ) → Holds LeavesName (declaration_by a b e st t)
declaration-leaves true b e st t = every LeavesName 4 (comment_at st (drop 2 t))
    (empty_by LeavesName (λ st. Unit {0}) comment-leaves doctype-leaves _ _ st (drop 2 t) tt)
declaration-leaves false true e st t = every LeavesName 9 (doctype_item st (drop 7 t))
    (doctype_at LeavesName (λ st. Unit {0}) comment-leaves doctype-leaves st tt (drop 7 t))
declaration-leaves false false true st t = tt
declaration-leaves false false false st t = bogus-leaves st t

end-leaves : (o : Begins.Opening) (st : Stand) (c : ℕ) (t : List ℕ) → Holds LeavesName (end_by o st c t)
end-leaves Begins.Letter st c t = tt
end-leaves Begins.Close st c t = tt
end-leaves Begins.Slash st c t = bogus-leaves st (c ∷ t)
end-leaves Begins.Mark st c t = bogus-leaves st (c ∷ t)
end-leaves Begins.Question st c t = bogus-leaves st (c ∷ t)
end-leaves Begins.Other st c t = bogus-leaves st (c ∷ t)

slash-leaves : (st : Stand) (t : List ℕ) → Holds LeavesName (end_at st t)
slash-leaves st [] = tt
slash-leaves st (c ∷ t) = end-leaves (Begins.opening c) st c t

opened-leaves : (o : Begins.Opening) (cdata : Bool) (st : Stand) (c : ℕ) (t : List ℕ) → Holds LeavesName (open_by o cdata st c t)
opened-leaves Begins.Letter cdata st c t = tt
opened-leaves Begins.Slash cdata st c t = slash-leaves st t
opened-leaves Begins.Mark cdata st c t = declaration-leaves _ _ _ st t
opened-leaves Begins.Question cdata st c t = bogus-leaves st (c ∷ t)
opened-leaves Begins.Close cdata st c t = tt
opened-leaves Begins.Other cdata st c t = tt

open-leaves : (cdata : Bool) (st : Stand) (t : List ℕ) → Holds LeavesName (open_at cdata st t)
open-leaves cdata st [] = tt
open-leaves cdata st (c ∷ t) = opened-leaves (Begins.opening c) cdata st c t

reference-leaves : (o : Option Reference) (fault : Option Fault) (st : Stand) → Holds LeavesName (reference_item fault o st)
reference-leaves None fault st = tt
reference-leaves (Some r) fault st = tt

null-leaves : (b : Bool) (c : ℕ) (st : Stand) → Holds LeavesName (null_by b c st)
null-leaves true c st = tt
null-leaves false c st = tt

data-leaves : (a b : Bool) (rows : List Row) (cdata : Bool) (st : Stand) (c : ℕ) (t : List ℕ)
    → Holds LeavesName (data_by a b rows cdata st c t)
data-leaves true b rows cdata st c t = open-leaves cdata st t
data-leaves false true rows cdata st c t = reference-leaves (reference_at false rows t) _ st
data-leaves false false rows cdata st c t = null-leaves (nat_eq c 0) c st

cdata-leaves : (b : Bool) (st : Stand) (c : ℕ) → Holds LeavesName (cdata_by b st c)
cdata-leaves true st c = tt
cdata-leaves false st c = null-leaves (nat_eq c 0) c st

raw-leaves : (a b : Bool) (rows : List Row) (st : Stand) (kind : RawKind) (c : ℕ) (t : List ℕ)
    → Holds LeavesName (raw_by a b rows st kind c t)
raw-leaves true b rows st kind c t = tt
raw-leaves false true rows st kind c t = reference-leaves (reference_at false rows t) _ st
raw-leaves false false rows st kind c t = tt

pub item-leaves : (rows : List Row) (cdata : Bool) (st : Stand) (c : ℕ) (t : List ℕ) → Holds LeavesName (item rows cdata st c t)
item-leaves rows cdata st c t = by st.place where
  by : (p : TextPlace) → Holds LeavesName (item_in p rows cdata st c t)
  by InData = data-leaves _ _ rows cdata st c t
  by (InRaw kind) = raw-leaves _ _ rows st kind c t
  by InPlaintext = tt
  by InCdata = cdata-leaves _ st c
  by (InTag tag) = part-holds LeavesName st (λ kind. Unit {0}) (λ tag u. tt)
      (λ tag u. own-name tag.kind tag.name st.last_start_tag) (part c) rows tag c t tt
