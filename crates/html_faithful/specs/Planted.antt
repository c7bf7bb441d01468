-- What follows the doctype of a document is put just there.
use Rattle.std.specs.Prelude.{◌≡◌, Bool, true, false, IfSome}
use Rattle.markup.specs.Forest.{Forest, Last, add_error, set_quirks}
use Rattle.markup.specs.Named.{IsTree}
use Rattle.markup.specs.Trees.{Trees}
use Rattle.markup.specs.declared.quirks.QuirksMode.TheVariants.{Quirks}
use Rattle.html_rules.specs.Documents.{Setting, before_document}
use Rattle.html_rules.specs.Rules.{Settled}
use Rattle.html_rules.specs.Step.{untouched}
use Rattle.html_faithful.specs.Begins.{before_html, beginning}
use Rattle.html_faithful.specs.Inside.{trees_taken}
use Rattle.html_faithful.specs.Keeping.{IsAt}
use Rattle.html_faithful.specs.Planting.{ArePlantable, planted}
use Rattle.html_faithful.specs.Spots.{Spot}
use Rattle.html_faithful.specs.Waiting.{Untyped, comes_first}
use Rattle.html_faithful.specs.Walk.{OfDocument, walk}

-- the trees were put last in the document, and the state stands at the spot where the walk ends
pub record AreAllPlanted (trees : Trees) (f : Forest) (left : Settled) (after : Spot) : Type 0 where
  pub is_done : left.is_settled ≡ true
  pub now : IsAt left.state after
  pub tree : left.state.forest ≡ planted (Last 0) trees f
  pub are_plantable : ArePlantable false trees

-- the same from the first token of a document on that has no doctype: it is in quirks mode, after one error
abbrev pub missed_setting : Setting → Setting
missed_setting setting = record setting { quirks_mode = Quirks }

abbrev pub missed_forest : Forest → Forest
missed_forest f = set_quirks (add_error f) Quirks

pub record AreDocumentsPlanted : Type 0 where
  -- Trees that walk from the first spot on: their tokens put just them, last in the document.
  pub after_doctype : (scripting : Bool) (setting : Setting) (f : Forest) (trees : Trees) → setting.opts.iframe_srcdoc ≡ false → IsTree f
      → IfSome (walk scripting OfDocument false false trees (beginning setting))
      (λ after. AreAllPlanted trees f (trees_taken trees (untouched (before_html setting f))) after)
  -- the same where the root comes first, and no doctype
  pub without_doctype : (scripting : Bool) (setting : Setting) (f : Forest) (trees : Trees) → setting.opts.iframe_srcdoc ≡ false → IsTree f
      → comes_first Untyped trees ≡ true
      → IfSome (walk scripting OfDocument false false trees (beginning (missed_setting setting)))
      (λ after. AreAllPlanted trees (missed_forest f) (trees_taken trees (untouched (before_document setting f))) after)
