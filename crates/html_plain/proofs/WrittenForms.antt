-- What is written of the forms of the plain grammar.
use Rattle.std.proofs.Common.{◌≡◌, ◌∙◌, ℕ, Bool, true, false, List, ◌++◌, refl, ap}
use Rattle.std.specs.Prelude.{◌&&◌, ◌||◌, codes}
use Rattle.std.specs.Str.{bytes_eq}
use Rattle.markup.specs.Escape.{end_tag, start_tag}
use Rattle.markup.specs.Names.{html_namespace}
use Rattle.markup.specs.Trees.{Entry, Trees, Nothing, Element, default_entry, end_of, entry_under, is_among, is_html, is_raw}
use Rattle.markup.specs.Trees.{raw_names, void_names, written}
use Rattle.markup.specs.declared.attributes.Attribute.{Attribute}
use Rattle.html_plain.specs.Elements.{html_name, spelled}
use Rattle.html_plain.specs.Laws.{is_void, text_of}
use Rattle.html_plain.specs.declared.elements.CellKind.TheVariants.{Data, Header}
use Rattle.html_plain.specs.declared.elements.Format.TheVariants.{Bold, Italic, Emphasis, Code}
use Rattle.html_plain.specs.declared.elements.Level.TheVariants.{One, Two, Three, Four, Five, Six}
use Rattle.html_plain.specs.declared.elements.ListKind.TheVariants.{Unordered, Ordered}
use Rattle.html_plain.specs.declared.elements.PlainElement.{PlainElement}
use Rattle.html_plain.specs.declared.elements.PlainElement.TheVariants.{Html, Head, Title, Body, Paragraph, Heading, Division}
use Rattle.html_plain.specs.declared.elements.PlainElement.TheVariants.{List as ListElement, Item, Table, TableBody, Row, Cell}
use Rattle.html_plain.specs.declared.elements.PlainElement.TheVariants.{Break, Formatted, Link}

-- no raw text stands in an element of this name, and it is void or is not
abbrev IsUsual : List ℕ → Bool → Type 0
IsUsual local void = (is_among local raw_names ≡ false) × (bytes_eq local (codes "noscript") ≡ false) × (is_among local void_names ≡ void)

usual : (k : PlainElement) → IsUsual (spelled k) (is_void k)
usual Html = (refl, refl, refl)
usual Head = (refl, refl, refl)
usual Title = (refl, refl, refl)
usual Body = (refl, refl, refl)
usual Paragraph = (refl, refl, refl)
usual (Heading One) = (refl, refl, refl)
usual (Heading Two) = (refl, refl, refl)
usual (Heading Three) = (refl, refl, refl)
usual (Heading Four) = (refl, refl, refl)
usual (Heading Five) = (refl, refl, refl)
usual (Heading Six) = (refl, refl, refl)
usual Division = (refl, refl, refl)
usual (ListElement Unordered) = (refl, refl, refl)
usual (ListElement Ordered) = (refl, refl, refl)
usual Item = (refl, refl, refl)
usual Table = (refl, refl, refl)
usual TableBody = (refl, refl, refl)
usual Row = (refl, refl, refl)
usual (Cell Data) = (refl, refl, refl)
usual (Cell Header) = (refl, refl, refl)
usual Break = (refl, refl, refl)
usual (Formatted Bold) = (refl, refl, refl)
usual (Formatted Italic) = (refl, refl, refl)
usual (Formatted Emphasis) = (refl, refl, refl)
usual (Formatted Code) = (refl, refl, refl)
usual Link = (refl, refl, refl)

raw-by : (scripting among noscript : Bool) → among ≡ false → noscript ≡ false → (among || (scripting && noscript)) ≡ false
raw-by true among noscript h k = rw (h, k) refl
raw-by false among noscript h k = rw h refl

html-is : (local : List ℕ) → is_html (html_name local) ≡ true
unfolding html_namespace
html-is local = refl

-- an entry by its tests
abbrev entry_by : Bool → Bool → Bool → Entry
entry_by html raw void = record { raw_text = html && raw; ignores_children = html && void }

-- what stands under an element that has an end tag is written as under none
pub own-entry : (k : PlainElement) → is_void k ≡ false → (scripting : Bool) → entry_under scripting default_entry
    (html_name (spelled k)) ≡ default_entry
own-entry k h scripting =
    let u = usual k in
    ap (λ html. entry_by html (is_raw scripting (spelled k)) (is_among (spelled k) void_names)) (html-is (spelled k))
    ∙ (ap (λ raw. entry_by true raw (is_among (spelled k) void_names)) (raw-by scripting _ _ u.0 u.1)
    ∙ ap (λ void. entry_by true false void) (u.2 ∙ h))

pub element-written : (k : PlainElement) → is_void k ≡ false → (scripting : Bool) (attributes : List Attribute) (kids rest : Trees)
    → text_of scripting (Element (html_name (spelled k)) attributes false kids rest) ≡ start_tag
    (spelled k) attributes ++ (text_of scripting kids ++ (end_tag (spelled k) ++ text_of scripting rest))
unfolding written
element-written k h scripting attributes kids rest =
    ap (λ own. start_tag (spelled k) attributes
    ++ (written scripting own kids ++ (end_of own (html_name (spelled k)) ++ text_of scripting rest))) (own-entry k h scripting)

pub break-written : (scripting : Bool) (attributes : List Attribute) (rest : Trees)
    → text_of scripting (Element (html_name (spelled Break)) attributes false Nothing rest) ≡ start_tag
    (spelled Break) attributes ++ text_of scripting rest
unfolding written html_namespace
break-written scripting attributes rest = refl
