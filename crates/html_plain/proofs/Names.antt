-- The names of plain elements.
use Rattle.std.proofs.Common.{length, slice_index_or, true≢false, sym}
use Rattle.std.specs.Prelude.{map}
use Rattle.std.specs.List.{list_all, list_any}
use Rattle.std.proofs.Math.ListN.{get_or-map}
use Rattle.markup.specs.KnownNames.{names}
use Rattle.html_plain.specs.declared.known_elements.TheConstants.{ELEMENTS}
use Rattle.std.proofs.Common.{◌≡◌, ◌∙◌, ℕ, Bool, true, false, List, [], ◌∷◌, Option, Some, None, refl, ap, subst}
use Rattle.std.specs.Prelude.{◌&&◌, cond, is_none}
use Rattle.std.specs.Str.{bytes_eq}
use Rattle.std.proofs.lemmas.Bool.{and_parts}
use Rattle.std.proofs.lemmas.Slice.Eq.{bytes_eq-Decides}
use Rattle.markup.specs.Names.{html_namespace}
use Rattle.markup.specs.declared.names.QualName.{QualName}
use Rattle.html_plain.specs.Elements.{element_of, elements, first_spelled, html_name, local_element, spelled}
use Rattle.html_plain.specs.declared.elements.CellKind.TheVariants.{Data, Header}
use Rattle.html_plain.specs.declared.elements.Format.TheVariants.{Bold, Italic, Emphasis, Code}
use Rattle.html_plain.specs.declared.elements.Level.TheVariants.{One, Two, Three, Four, Five, Six}
use Rattle.html_plain.specs.declared.elements.ListKind.TheVariants.{Unordered, Ordered}
use Rattle.html_plain.specs.declared.elements.PlainElement.{PlainElement}
use Rattle.html_plain.specs.declared.elements.PlainElement.TheVariants.{Html, Head, Title, Body, Paragraph, Heading, Division}
use Rattle.html_plain.specs.declared.elements.PlainElement.TheVariants.{List as ListElement, Item, Table, TableBody, Row, Cell}
use Rattle.html_plain.specs.declared.elements.PlainElement.TheVariants.{Break, Formatted, Link}

-- the element of its own name
pub spelled-found : (k : PlainElement) → local_element (spelled k) ≡ Some k
unfolding local_element
spelled-found Html = refl
spelled-found Head = refl
spelled-found Title = refl
spelled-found Body = refl
spelled-found Paragraph = refl
spelled-found (Heading One) = refl
spelled-found (Heading Two) = refl
spelled-found (Heading Three) = refl
spelled-found (Heading Four) = refl
spelled-found (Heading Five) = refl
spelled-found (Heading Six) = refl
spelled-found Division = refl
spelled-found (ListElement Unordered) = refl
spelled-found (ListElement Ordered) = refl
spelled-found Item = refl
spelled-found Table = refl
spelled-found TableBody = refl
spelled-found Row = refl
spelled-found (Cell Data) = refl
spelled-found (Cell Header) = refl
spelled-found Break = refl
spelled-found (Formatted Bold) = refl
spelled-found (Formatted Italic) = refl
spelled-found (Formatted Emphasis) = refl
spelled-found (Formatted Code) = refl
spelled-found Link = refl

first-by : (j : PlainElement) (ks : List PlainElement) (name : List ℕ) (k : PlainElement) (b : Bool)
    → bytes_eq name (spelled j) ≡ b → (first_spelled ks name ≡ Some k → name ≡ spelled k)
    → cond b (Some j) (first_spelled ks name) ≡ Some k → name ≡ spelled k
first-by j ks name k true e f h = let same : j ≡ k = cc in (bytes_eq-Decides name (spelled j)).0 e ∙ ap spelled same
first-by j ks name k false e f h = f h

first-spelled : (ks : List PlainElement) (name : List ℕ) (k : PlainElement) → first_spelled ks name ≡ Some k → name ≡ spelled k
first-spelled [] name k h = absurd cc
first-spelled (j ∷ ks) name k h = first-by j ks name k _ refl (first-spelled ks name k) h

-- a name is that of the element that is found of it
pub found-spelled : (name : List ℕ) (k : PlainElement) → local_element name ≡ Some k → name ≡ spelled k
unfolding local_element
found-spelled name k h = first-spelled elements name k h

no-prefix : (o : Option (List ℕ)) → is_none o ≡ true → o ≡ None
no-prefix None h = refl
no-prefix (Some x) h = absurd cc

-- a name of its parts
abbrev made : Option (List ℕ) → List ℕ → List ℕ → QualName
made prefix ns local = record { prefix = prefix; ns = ns; local = local }

made-html : (prefix : Option (List ℕ)) (ns local : List ℕ) (k : PlainElement) → prefix ≡ None → ns ≡ html_namespace
    → local ≡ spelled k → made prefix ns local ≡ html_name (spelled k)
made-html prefix ns local k h i j = rw (h, i, j) refl

element-by : (name : QualName) (k : PlainElement) (b : Bool)
    → (is_none name.prefix && bytes_eq name.ns html_namespace) ≡ b → cond b (local_element name.local) None ≡ Some k
    → name ≡ html_name (spelled k)
element-by name k true e h =
    let p = and_parts (is_none name.prefix) (bytes_eq name.ns html_namespace) e in
    made-html name.prefix name.ns name.local k (no-prefix name.prefix p.0)
    ((bytes_eq-Decides name.ns html_namespace).0 p.1) (found-spelled name.local k h)
element-by name k false e h = absurd cc

-- the same of a name with its prefix and its namespace
pub element-named : (name : QualName) (k : PlainElement) → element_of name ≡ Some k → name ≡ html_name (spelled k)
element-named name k h = element-by name k _ refl h

pub named-element : (k : PlainElement) → element_of (html_name (spelled k)) ≡ Some k
unfolding html_namespace
named-element k = spelled-found k

listed-by : (test : PlainElement → Bool) (j k : PlainElement) (o : Option PlainElement) (b : Bool) → test j ≡ true
    → (o ≡ Some k → test k ≡ true) → cond b (Some j) o ≡ Some k → test k ≡ true
listed-by test j k o true h f e = let same : j ≡ k = cc in subst (λ x. test x ≡ true) same h
listed-by test j k o false h f e = f e

first-listed : (test : PlainElement → Bool) (ks : List PlainElement) (name : List ℕ) (k : PlainElement)
    → list_all test ks ≡ true → first_spelled ks name ≡ Some k → test k ≡ true
first-listed test [] name k h e = absurd cc
first-listed test (j ∷ ks) name k h e =
    let parts = and_parts (test j) (list_all test ks) h in
    listed-by test j k (first_spelled ks name) (bytes_eq name (spelled j)) parts.0 (first-listed test ks name k parts.1) e

-- what all of the list of elements pass, which is computed, each passes
pub each-element : (test : PlainElement → Bool) → list_all test elements ≡ true → (k : PlainElement) → test k ≡ true
unfolding local_element
each-element test h k = first-listed test elements (spelled k) k h (spelled-found k)

-- each name is a known one
spelled-known : (k : PlainElement) → list_any (bytes_eq (spelled k)) names ≡ true
unfolding names
spelled-known k = each-element (λ k. list_any (bytes_eq (spelled k)) names) refl k

unknown-by : (name : List ℕ) (o : Option PlainElement) → local_element name ≡ o → list_any (bytes_eq name) names ≡ false → o ≡ None
unknown-by name None e h = refl
unknown-by name (Some k) e h =
    absurd (true≢false (sym (spelled-known k) ∙ (ap (λ n. list_any (bytes_eq n) names) (sym (found-spelled name k e)) ∙ h)))

-- what is no known name is that of no element
pub unknown : (name : List ℕ) → list_any (bytes_eq name) names ≡ false → local_element name ≡ None
unknown name h = unknown-by name (local_element name) refl h

-- BY PLACES

pub as_many : length ELEMENTS ≡ length names
unfolding names
as_many = refl

all-elements : ELEMENTS ≡ map local_element names
unfolding names local_element
all-elements = refl

none-element : local_element [] ≡ None
unfolding local_element
none-element = refl

-- the table has the element of each known name at its place
pub element-at : (n : ℕ) → slice_index_or ELEMENTS n None ≡ local_element (slice_index_or names n [])
element-at n =
    ap (λ l. slice_index_or l n None) all-elements
    ∙ (ap (λ d. slice_index_or (map local_element names) n d) (sym none-element) ∙ get_or-map local_element names n [])
