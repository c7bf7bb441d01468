-- States in which the parts nest fit; documents and fragments begin in such states.
use Rattle.std.proofs.Common.{◌≡◌, ℕ, ◌+◌, Bool, true, false, [], ◌∷◌, length, Option, Some, refl, codes}
use Rattle.std.specs.Prelude.{IfSome}
use Rattle.markup.specs.Forest.{Forest, Last, data_of, element_name, node_count}
use Rattle.markup.specs.Named.{IsTree}
use Rattle.markup.proofs.PutTexts.{IsParent-document}
use Rattle.html_rules.specs.Choice.{choose}
use Rattle.html_rules.specs.Documents.{Setting, before_document, before_fragment, modes_of_context, form_of_context}
use Rattle.html_rules.specs.Names.{Html, element_name_of}
use Rattle.html_rules.specs.Places.{create_root}
use Rattle.html_rules.specs.Shape.{one_if}
use Rattle.html_rules.specs.State.{Open, State, is_in}
use Rattle.html_rules.specs.declared.insertion_mode.InsertionMode.TheVariants as mode
use Rattle.html_rules.specs.declared.tag_set.TagSet.TheVariants as set
use Rattle.html_rules_laws.specs.Nesting.{AreNestedStatesFit, IsNested}
use Rattle.html_rules_laws.proofs.Soundness.Sink.{context-template_modes}
use Rattle.html_rules_laws.proofs.TreePreserved.StandingTrees.{made-Made, put-Made}
use Rattle.html_rules_laws.proofs.ModesPreserved.Fits.{nested-fits}
use Rattle.html_rules_laws.proofs.ModesPreserved.Fluid.{form-kept}
use Rattle.html_rules_laws.proofs.ModesPreserved.Heads.{root-part, root-template}
use Rattle.html_rules_laws.proofs.ModesPreserved.Resets.{reset-nested}
use Rattle.html_rules_laws.proofs.ModesPreserved.Turns.{turn-nested}

context-count : (b : Bool) → 0 + one_if b ≡ length (choose b (λ _. mode.InTemplate ∷ []) (λ _. []))
context-count true = refl
context-count false = refl

document-nested : (setting : Setting) (f : Forest) → IsNested (before_document setting f)
document-nested setting f = record { fits = refl; count = refl; framed = λ e. refl; form = tt }

fragment-nested : (setting : Setting) (context : Open) (form : Option ℕ) (f : Forest) → IsTree f
    → IfSome (form_of_context setting.opts.rules context form)
    (λ n. element_name (data_of f n) ≡ Some (element_name_of Html (codes "form")))
    → IsNested (before_fragment setting context form f)
unfolding create_root
fragment-nested setting context form f tree named =
    let s : State = create_root [] (record (before_document setting f) {
      context_elem = Some context;
      form_elem = form_of_context setting.opts.rules context form;
      template_modes = modes_of_context context;
    }) in
    let at = IsParent-document f tree.forest in
    let made = made-Made setting.opts.rules f Html (codes "html") [] false [] tree tt tt in
    let whole = put-Made setting.opts.rules f Html (codes "html") [] false [] (Last 0) tree tt tt at (IsParent-document _ made.stays.tree.forest) in
    reset-nested s (record {
      nested = rw (root-part (node_count f) setting.opts.rules) refl;
      some = refl;
      modes = context-template_modes (is_in set.Template context);
      count = rw (root-template (node_count f) setting.opts.rules) (context-count (is_in set.Template context));
      framed = λ e. rw (root-template (node_count f) setting.opts.rules) refl;
      form = form-kept (form_of_context setting.opts.rules context form) f s.forest whole.stays.names.names named;
    })

pub nested-states : AreNestedStatesFit
nested-states = record {
  fit = λ s sound nested. nested-fits s sound.head nested;
  document = document-nested;
  fragment = fragment-nested;
  turn = turn-nested;
}
