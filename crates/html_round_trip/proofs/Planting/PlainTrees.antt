-- Plain documents, planted in a new forest.
use Rattle.std.proofs.Common.{◌≡◌, ◌∙◌, Bool, true, false, [], refl, ap, codes, Some}
use Rattle.std.specs.Prelude.{◌↔◌, ◌&&◌, not}
use Rattle.std.specs.Str.{bytes_eq}
use Rattle.markup.specs.Forest.{Forest, children_of, empty_forest, node_count}
use Rattle.markup.specs.Named.{IsTree}
use Rattle.markup.specs.Names.{is_html_name}
use Rattle.markup.specs.Trees.{Trees, Nothing, Text, Comment, ProcessingInstruction, Doctype, Element, trees_of}
use Rattle.markup.proofs.Forests.{IsForest-empty}
use Rattle.markup.proofs.PutTexts.{IsParent-document}
use Rattle.markup.proofs.TemplateContents.{HasContents-empty}
use Rattle.html_plain.specs.Elements.{place_after_text, spelled}
use Rattle.html_plain.specs.Grammar.{IsPlain, IsPlainDocument, is_plain_forest, is_plain_text}
use Rattle.html_plain.specs.declared.elements.PlainElement.{PlainElement}
use Rattle.html_plain.specs.declared.place.PlainPlace.{PlainPlace}
use Rattle.html_plain.specs.declared.place.PlainPlace.TheVariants.{BeforeDoctype}
use Rattle.html_plain.proofs.Agreement.{computed-cases, cases-computed}
use Rattle.html_plain.proofs.Names.{each-element}
use Rattle.html_round_trip.specs.Planting.Planted.{ArePlantable, planted}
use Rattle.html_round_trip.proofs.Planting.Planting.{planted-alone, planted-keeps}
use Rattle.html_round_trip.proofs.Planting.Shown.{shown-walked, without-templates}

-- none is a template
pub no-template : (k : PlainElement) → bytes_eq (spelled k) (codes "template") ≡ false
no-template k = by _ (each-element (λ k. not (bytes_eq (spelled k) (codes "template"))) refl k) where
  by : (b : Bool) → not b ≡ true → b ≡ false
  by false h = refl
  by true h = absurd cc

pub and-false : (b c : Bool) → c ≡ false → (b && c) ≡ false
and-false true c h = h
and-false false c h = refl

pub plain-plantable : (place : PlainPlace) (after_text : Bool) (trees : Trees) → IsPlain place after_text trees
    → ArePlantable after_text trees
plain-plantable place after_text Nothing h = tt
plain-plantable place after_text (Text text rest) h =
    (h.0, (λ e. (let no : is_plain_text [] ≡ true = rw e at h.1 in absurd (cc))), plain-plantable (place_after_text place) true rest h.3)
plain-plantable place after_text (Comment text rest) h = plain-plantable place false rest h.2
plain-plantable place after_text (ProcessingInstruction target text rest) h = absurd h
plain-plantable place after_text (Doctype name public_id system_id rest) h = plain-plantable _ false rest h.4
plain-plantable place after_text (Element name attributes template kids rest) h =
    let w = h.1 in (
      w.1,
      ap (λ n. is_html_name (Some n) (codes "template")) w.0 ∙ and-false _ _ (no-template h.0),
      plain-plantable _ false kids w.4,
      plain-plantable _ false rest w.5,
    )

empty-tree : IsTree empty_forest
empty-tree = record { forest = IsForest-empty; contents = HasContents-empty }

pub document-walked : (trees : Trees) → IsPlainDocument trees → let f = planted trees 0 empty_forest in trees_of f (children_of f 0) ≡ trees
document-walked trees plain =
    let ok = plain-plantable BeforeDoctype false trees plain in
    let at = IsParent-document empty_forest IsForest-empty in
    let made = planted-alone trees 0 empty_forest false at ok (λ e. refl) in
    let f = planted trees 0 empty_forest in
    ap (trees_of f) made.1.children
    ∙ shown-walked f (planted-keeps trees 0 empty_forest false empty-tree at ok).tree (node_count empty_forest)
    made.0 trees (without-templates trees false ok) made.1.shows

pub plain-judged : (f : Forest) → (is_plain_forest f ≡ true) ↔ IsPlainDocument (trees_of f (children_of f 0))
plain-judged f = (
  computed-cases BeforeDoctype false (trees_of f (children_of f 0)),
  cases-computed BeforeDoctype false (trees_of f (children_of f 0)),
)
