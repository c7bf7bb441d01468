-- Where a document begins, and what follows its doctype.
use Rattle.std.proofs.Common.{◌≡◌, ◌∙◌, Bool, ap, true, false, refl, subst, sym, true≢false}
use Rattle.std.specs.Prelude.{IfSome, Option, None, Some}
use Rattle.markup.specs.Forest.{Forest, Last, one_more}
use Rattle.markup.specs.Named.{IsTree}
use Rattle.markup.specs.Trees.{Trees}
use Rattle.markup.specs.declared.quirks.QuirksMode.TheVariants.{Quirks}
use Rattle.markup.proofs.PutTexts.{IsParent-document}
use Rattle.markup.proofs.Trees.{IsTree-same_nodes}
use Rattle.html_rules.specs.Actions.{set_mode, set_quirks_mode}
use Rattle.html_rules.specs.Documents.{Setting, before_document}
use Rattle.html_rules.specs.Rules.{Settled}
use Rattle.html_rules.specs.Stack.{parse_error}
use Rattle.html_rules.specs.State.{State}
use Rattle.html_rules.specs.Step.{untouched}
use Rattle.html_faithful.specs.Around.{IsRooted}
use Rattle.html_faithful.specs.Begins.{before_html, beginning}
use Rattle.html_faithful.specs.Faces.{face}
use Rattle.html_faithful.specs.Inside.{trees_taken}
use Rattle.html_faithful.specs.Keeping.{IsAt}
use Rattle.html_faithful.specs.Listing.{Empty}
use Rattle.html_faithful.specs.Planted.{AreAllPlanted, missed_forest, missed_setting}
use Rattle.html_faithful.specs.Planting.{ArePlantable, planted}
use Rattle.html_faithful.specs.Spots.{Spot}
use Rattle.html_faithful.specs.Waiting.{IsBetween, Pause, Still, Untyped, Waiting, comes_first, is_untyped, is_waiting, untyped}
use Rattle.html_faithful.specs.Walk.{OfDocument, walk}
use Rattle.html_faithful.proofs.Around.{Ready, trees-planted, walked}
use Rattle.html_faithful.proofs.Plantable.{walked-plantable}

pub begins : (setting : Setting) (f : Forest) → setting.opts.iframe_srcdoc ≡ false → IsAt (before_html setting f) (beginning setting)
begins setting f no_srcdoc = record {
  looks = ap (λ srcdoc. record (face (before_html setting f)) { srcdoc = srcdoc }) no_srcdoc;
  lists = Empty;
  form = refl;
  numbered = (tt, tt);
  counted = tt;
  unasked = refl;
  no_text = refl;
}

-- where nothing is to be done before the next tag, it is the state itself
rested-is : (pause : Pause) (s r : State) → is_waiting pause ≡ false → is_untyped pause ≡ false → IsBetween pause s r → r ≡ s
rested-is Still s r w u h = h
rested-is Waiting s r w u h = absurd (true≢false w)
rested-is Untyped s r w u h = absurd (true≢false u)

all-planted : (trees : Trees) (s : State) (left : Settled) (after : Spot)
    → IsRooted OfDocument (Last 0) (planted (Last 0) trees) s left after → ArePlantable false trees
    → AreAllPlanted trees s.forest left after
all-planted trees s left after g h =
    let e = rested-is g.waits left.state g.rested g.still g.begun g.between in
    record {
      is_done = g.is_done;
      now = subst (λ (s : State). IsAt s after) e g.now;
      tree = ap (λ (s : State). s.forest) (sym e) ∙ g.tree;
      are_plantable = h;
    }

both : (o : Option Spot) (P : Spot → Type 0) (Q : Type 0) (R : Spot → Type 0) → IfSome o P → IfSome o (λ _. Q)
    → ((after : Spot) → P after → Q → R after) → IfSome o R
both None P Q R a b f = tt
both (Some after) P Q R a b f = f after a b

pub document-planted : (scripting : Bool) (setting : Setting) (f : Forest) (trees : Trees) → setting.opts.iframe_srcdoc ≡ false → IsTree f
    → IfSome (walk scripting OfDocument false false trees (beginning setting))
    (λ after. AreAllPlanted trees f (trees_taken trees (untouched (before_html setting f))) after)
document-planted scripting setting f trees no_srcdoc tree =
    let p = beginning setting in
    let left = trees_taken trees (untouched (before_html setting f)) in
    both (walk scripting OfDocument false false trees p)
    (λ after. IsRooted OfDocument (Last 0) (planted (Last 0) trees) (before_html setting f) left after) (ArePlantable false trees)
    (λ after. AreAllPlanted trees f left after)
    (trees-planted scripting OfDocument trees 0 false false (untouched (before_html setting f)) p (begins setting f no_srcdoc)
    refl refl tree (IsParent-document f tree.forest) refl)
    (walked-plantable scripting trees OfDocument false false p)
    (λ after g h. all-planted trees (before_html setting f) left after g h)

-- the same without a doctype
untyped-now : (setting : Setting) (f : Forest) → before_html (missed_setting setting) (missed_forest f) ≡ untyped
    (before_document setting f)
unfolding set_mode set_quirks_mode parse_error
untyped-now setting f = refl

missed-tree : (f : Forest) → IsTree f → IsTree (missed_forest f)
missed-tree f tree = IsTree-same_nodes f Quirks (one_more f.errors) tree

pub untyped-ready : (setting : Setting) (f : Forest) → setting.opts.iframe_srcdoc ≡ false → IsTree f
    → Ready OfDocument 0 (untouched (before_document setting f)) Untyped (before_html (missed_setting setting) (missed_forest f))
    (beginning (missed_setting setting))
untyped-ready setting f no_srcdoc tree = record {
  between = (record { mode = refl; none_open = refl; no_context = refl; no_srcdoc = no_srcdoc }, untyped-now setting f);
  still = refl;
  here = begins (missed_setting setting) (missed_forest f) no_srcdoc;
  done = refl;
  tree = missed-tree f tree;
  at = IsParent-document (missed_forest f) (missed-tree f tree).forest;
  is = refl;
}

pub untyped-planted : (scripting : Bool) (setting : Setting) (f : Forest) (trees : Trees) → setting.opts.iframe_srcdoc ≡ false → IsTree f
    → comes_first Untyped trees ≡ true
    → IfSome (walk scripting OfDocument false false trees (beginning (missed_setting setting)))
    (λ after. AreAllPlanted trees (missed_forest f) (trees_taken trees (untouched (before_document setting f))) after)
untyped-planted scripting setting f trees no_srcdoc tree first =
    let p = beginning (missed_setting setting) in
    let s = before_html (missed_setting setting) (missed_forest f) in
    let left = trees_taken trees (untouched (before_document setting f)) in
    both (walk scripting OfDocument false false trees p)
    (λ after. IsRooted OfDocument (Last 0) (planted (Last 0) trees) s left after) (ArePlantable false trees)
    (λ after. AreAllPlanted trees (missed_forest f) left after)
    (walked scripting OfDocument trees 0 false false (untouched (before_document setting f)) Untyped s p
    (untyped-ready setting f no_srcdoc tree) first (λ e. refl) refl)
    (walked-plantable scripting trees OfDocument false false p)
    (λ after g h. all-planted trees s left after g h)
