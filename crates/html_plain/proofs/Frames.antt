-- A plain document has a frame.
use Rattle.std.proofs.Common.{◌≡◌, ◌∙◌, ℕ, Bool, true, false, List, [], ◌∷◌, refl, ap, subst}
use Rattle.std.specs.Prelude.{codes}
use Rattle.std.specs.List.{list_all}
use Rattle.markup.specs.Trees.{Trees, Nothing, Text, Comment, ProcessingInstruction, Doctype, Element}
use Rattle.markup.specs.declared.attributes.Attribute.{Attribute}
use Rattle.markup.specs.declared.names.QualName.{QualName}
use Rattle.html_plain.specs.Elements.{place_after_element, holds, html_name, inside, spelled}
use Rattle.html_plain.specs.Frames.{AreDocumentsFramed, text_before}
use Rattle.html_plain.specs.Grammar.{IsPlain, are_plain_attributes, is_plain_text, is_white}
use Rattle.html_plain.specs.declared.elements.PlainElement.{PlainElement}
use Rattle.html_plain.specs.declared.elements.PlainElement.TheVariants.{Html, Head, Body}
use Rattle.html_plain.specs.declared.place.PlainPlace.{PlainPlace}
use Rattle.html_plain.specs.declared.place.PlainPlace.TheVariants.{BeforeRoot, AfterRoot, BeforeHead, AfterHead, BeforeBody}
use Rattle.html_plain.specs.declared.place.PlainPlace.TheVariants.{AfterBody, InFlow, InHead}

html-only : (k : PlainElement) → holds BeforeRoot k ≡ true → k ≡ Html
html-only Html h = refl
html-only k h = absurd cc

head-only : (k : PlainElement) → holds BeforeHead k ≡ true → k ≡ Head
head-only Head h = refl
head-only k h = absurd cc

body-only : (k : PlainElement) → holds BeforeBody k ≡ true → k ≡ Body
body-only Body h = refl
body-only k h = absurd cc

body-after_head : (k : PlainElement) → holds AfterHead k ≡ true → k ≡ Body
body-after_head Body h = refl
body-after_head k h = absurd cc

-- what is known of an element where only one may stand
record IsOne (pl : PlainPlace) (j : PlainElement) (name : QualName) (attributes : List Attribute) (template : Bool)
    (kids rest : Trees) : Type 0 where
  called : name ≡ html_name (spelled j)
  ordinary : template ≡ false
  tagged : are_plain_attributes attributes ≡ true
  within : IsPlain (inside pl j) false kids
  behind : IsPlain (place_after_element pl) false rest

one : (pl : PlainPlace) (j : PlainElement) → ((k : PlainElement) → holds pl k ≡ true → k ≡ j)
    → (b : Bool) (name : QualName) (attributes : List Attribute) (template : Bool) (kids rest : Trees)
    → IsPlain pl b (Element name attributes template kids rest) → IsOne pl j name attributes template kids rest
one pl j only b name attributes template kids rest h =
    let k = h.0 in
    let w = h.1 in
    let same : k ≡ j = only k w.2 in record {
      called = w.0 ∙ ap (λ k. html_name (spelled k)) same;
      ordinary = w.1;
      tagged = w.3;
      within = subst (λ k. IsPlain (inside pl k) false kids) same w.4;
      behind = w.5;
    }

nothing-after_root : (b : Bool) (trees : Trees) → IsPlain AfterRoot b trees → trees ≡ Nothing
nothing-after_root b Nothing h = refl
nothing-after_root b (Text text rest) h = absurd (let no = h.2 in cc)
nothing-after_root b (Comment text rest) h = absurd (let no = h.0 in cc)
nothing-after_root b (ProcessingInstruction target text rest) h = absurd h
nothing-after_root b (Doctype name public_id system_id rest) h = absurd (let no = h.0 in cc)
nothing-after_root b (Element name attributes template kids rest) h = absurd (let no = h.1.2 in cc)

nothing-after_body : (b : Bool) (trees : Trees) → IsPlain AfterBody b trees → trees ≡ Nothing
nothing-after_body b Nothing h = refl
nothing-after_body b (Text text rest) h = absurd (let no = h.2 in cc)
nothing-after_body b (Comment text rest) h = absurd (let no = h.0 in cc)
nothing-after_body b (ProcessingInstruction target text rest) h = absurd h
nothing-after_body b (Doctype name public_id system_id rest) h = absurd (let no = h.0 in cc)
nothing-after_body b (Element name attributes template kids rest) h = absurd (let no = h.1.2 in cc)

-- BODY

record IsBody (trees : Trees) : Type 0 where
  attributes : List Attribute
  flow : Trees
  is : trees ≡ Element (html_name (codes "body")) attributes false flow Nothing
  plain : are_plain_attributes attributes ≡ true
  flows : IsPlain InFlow false flow

body-of : (name : QualName) (attributes : List Attribute) (template : Bool) (kids rest : Trees)
    → name ≡ html_name (codes "body") → template ≡ false → rest ≡ Nothing → are_plain_attributes attributes ≡ true
    → IsPlain InFlow false kids → IsBody (Element name attributes template kids rest)
body-of name attributes template kids rest e t r a k = record {
  attributes = attributes;
  flow = kids;
  is = rw (e, t, r) refl;
  plain = a;
  flows = k;
}

body-comes : (b : Bool) (trees : Trees) → IsPlain BeforeBody b trees → IsBody trees
body-comes b Nothing h = absurd (let no = h in cc)
body-comes b (Text text rest) h = absurd (let no = h.2 in cc)
body-comes b (Comment text rest) h = absurd (let no = h.0 in cc)
body-comes b (ProcessingInstruction target text rest) h = absurd h
body-comes b (Doctype name public_id system_id rest) h = absurd (let no = h.0 in cc)
body-comes b (Element name attributes template kids rest) h =
    let is = one BeforeBody Body body-only b name attributes template kids rest h in
    body-of name attributes template kids rest is.called is.ordinary (nothing-after_body false rest is.behind) is.tagged is.within

-- BEHIND THE HEAD

record IsAfterHead (trees : Trees) : Type 0 where
  space : List ℕ
  body : List Attribute
  flow : Trees
  is : trees ≡ text_before space (Element (html_name (codes "body")) body false flow Nothing)
  white : list_all is_white space ≡ true
  plain : are_plain_attributes body ≡ true
  flows : IsPlain InFlow false flow

after_head-of : (space : List ℕ) (trees : Trees) → list_all is_white space ≡ true → IsBody trees → IsAfterHead (text_before space trees)
after_head-of space trees w b = record {
  space = space;
  body = b.attributes;
  flow = b.flow;
  is = ap (text_before space) b.is;
  white = w;
  plain = b.plain;
  flows = b.flows;
}

spaced : (text : List ℕ) (rest : Trees) → is_plain_text text ≡ true → list_all is_white text ≡ true → IsBody rest
    → IsAfterHead (Text text rest)
spaced [] rest p w b = absurd cc
spaced (c ∷ cs) rest p w b = after_head-of (c ∷ cs) rest w b

after_head : (b : Bool) (trees : Trees) → IsPlain AfterHead b trees → IsAfterHead trees
after_head b Nothing h = absurd (let no = h in cc)
after_head b (Text text rest) h = spaced text rest h.1 h.2 (body-comes true rest h.3)
after_head b (Comment text rest) h = absurd (let no = h.0 in cc)
after_head b (ProcessingInstruction target text rest) h = absurd h
after_head b (Doctype name public_id system_id rest) h = absurd (let no = h.0 in cc)
after_head b (Element name attributes template kids rest) h =
    let is = one AfterHead Body body-after_head b name attributes template kids rest h in
    after_head-of [] (Element name attributes template kids rest) refl
    (body-of name attributes template kids rest is.called is.ordinary (nothing-after_body false rest is.behind) is.tagged is.within)

-- THE ROOT AND THE DOCTYPE

record IsRootFilled (trees : Trees) : Type 0 where
  head : List Attribute
  heads : Trees
  plain : are_plain_attributes head ≡ true
  holds : IsPlain InHead false heads
  rest : Trees
  is : trees ≡ Element (html_name (codes "head")) head false heads rest
  behind : IsAfterHead rest

head-of : (name : QualName) (attributes : List Attribute) (template : Bool) (kids rest : Trees)
    → name ≡ html_name (codes "head") → template ≡ false → are_plain_attributes attributes ≡ true
    → IsPlain InHead false kids → IsAfterHead rest → IsRootFilled (Element name attributes template kids rest)
head-of name attributes template kids rest e t a k r = record {
  head = attributes;
  heads = kids;
  plain = a;
  holds = k;
  rest = rest;
  is = rw (e, t) refl;
  behind = r;
}

root-filled : (b : Bool) (trees : Trees) → IsPlain BeforeHead b trees → IsRootFilled trees
root-filled b Nothing h = absurd (let no = h in cc)
root-filled b (Text text rest) h = absurd (let no = h.2 in cc)
root-filled b (Comment text rest) h = absurd (let no = h.0 in cc)
root-filled b (ProcessingInstruction target text rest) h = absurd h
root-filled b (Doctype name public_id system_id rest) h = absurd (let no = h.0 in cc)
root-filled b (Element name attributes template kids rest) h =
    let is = one BeforeHead Head head-only b name attributes template kids rest h in
    head-of name attributes template kids rest is.called is.ordinary is.tagged is.within (after_head false rest is.behind)

record IsRoot (trees : Trees) : Type 0 where
  root : List Attribute
  kids : Trees
  plain : are_plain_attributes root ≡ true
  is : trees ≡ Element (html_name (codes "html")) root false kids Nothing
  filled : IsRootFilled kids

root-of : (name : QualName) (attributes : List Attribute) (template : Bool) (kids rest : Trees)
    → name ≡ html_name (codes "html") → template ≡ false → rest ≡ Nothing → are_plain_attributes attributes ≡ true
    → IsRootFilled kids → IsRoot (Element name attributes template kids rest)
root-of name attributes template kids rest e t r a k = record {
  root = attributes;
  kids = kids;
  plain = a;
  is = rw (e, t, r) refl;
  filled = k;
}

root-comes : (b : Bool) (trees : Trees) → IsPlain BeforeRoot b trees → IsRoot trees
root-comes b Nothing h = absurd (let no = h in cc)
root-comes b (Text text rest) h = absurd (let no = h.2 in cc)
root-comes b (Comment text rest) h = absurd (let no = h.0 in cc)
root-comes b (ProcessingInstruction target text rest) h = absurd h
root-comes b (Doctype name public_id system_id rest) h = absurd (let no = h.0 in cc)
root-comes b (Element name attributes template kids rest) h =
    let is = one BeforeRoot Html html-only b name attributes template kids rest h in
    root-of name attributes template kids rest is.called is.ordinary (nothing-after_root false rest is.behind)
    is.tagged (root-filled false kids is.within)

doctype-same : (name public_id system_id : List ℕ) (rest other : Trees) → name ≡ codes "html" → public_id ≡ []
    → system_id ≡ [] → rest ≡ other → Doctype name public_id system_id rest ≡ Doctype (codes "html") [] [] other
doctype-same name public_id system_id rest other e p s r = rw (e, p, s, r) refl

pub documents-framed : AreDocumentsFramed
documents-framed Nothing h = absurd (let no = h in cc)
documents-framed (Text text rest) h = absurd (let no = h.2 in cc)
documents-framed (Comment text rest) h = absurd (let no = h.0 in cc)
documents-framed (ProcessingInstruction target text rest) h = absurd h
documents-framed (Element name attributes template kids rest) h = absurd (let no = h.1.2 in cc)
documents-framed (Doctype name public_id system_id rest) h =
    let root = root-comes false rest h.4 in
    let filled = root.filled in
    let behind = filled.behind in
    let kids : root.kids ≡ Element (html_name (codes "head")) filled.head false filled.heads
    (text_before behind.space (Element (html_name (codes "body")) behind.body false behind.flow Nothing)) =
    filled.is ∙ ap (λ rest. Element (html_name (codes "head")) filled.head false filled.heads rest) behind.is in (
      record { root = root.root; head = filled.head; body = behind.body; heads = filled.heads; space = behind.space; flow = behind.flow },
      (
        doctype-same name public_id system_id rest _ h.1 h.2 h.3
            (root.is ∙ ap (λ kids. Element (html_name (codes "html")) root.root false kids Nothing) kids),
        record {
          root = root.plain;
          head = filled.plain;
          body = behind.plain;
          heads = filled.holds;
          space = behind.white;
          flow = behind.flows;
        },
      ),
    )
