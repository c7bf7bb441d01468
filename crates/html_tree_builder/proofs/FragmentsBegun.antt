-- The state before the first token of a fragment, step by step.
use Rattle.std.proofs.Common.{◌≡◌, ◌∙◌, ℕ, Bool, true, false, [], ◌∷◌, Option, Some, None, refl, sym, ap, subst}
use Rattle.std.specs.Prelude.{IfSome}
use Rattle.markup.specs.Forest.{Forest, IsNode, above_of}
use Rattle.markup.specs.Named.{IsTree}
use Rattle.html_rules.specs.Actions.{push_template_mode}
use Rattle.html_rules.specs.Choice.{choose}
use Rattle.html_rules.specs.Documents.{Setting, before_document, before_fragment, modes_of_context, form_of_context}
use Rattle.html_rules.specs.Places.{create_root}
use Rattle.html_rules.specs.Reset.{reset_insertion_mode}
use Rattle.html_rules.specs.State.{Answers, Open, State, is_in}
use Rattle.html_rules.specs.declared.insertion_mode.InsertionMode.TheVariants.{InTemplate}
use Rattle.html_rules.specs.declared.tag_set.TagSet.TheVariants.{Template}
use Rattle.html_tree_builder.specs.Acting.{Grounded}
use Rattle.html_tree_builder.specs.States.{Building, Stands, state_of, with_mode_of}
use Rattle.html_tree_builder.proofs.Acted.{stands-of}

-- without its root
abbrev rootless : Setting → Open → Option ℕ → Forest → State
rootless setting context form f = record (before_document setting f) {
  context_elem = Some context;
  form_elem = form_of_context setting.opts.rules context form;
  template_modes = modes_of_context context;
}

moded : (b : Bool) (context : Open) (form : Option ℕ) (setting : Setting) (f : Forest)
    → record (choose b (λ _. push_template_mode InTemplate (before_document setting f))
    (λ _. before_document setting f)) { context_elem = Some context; form_elem = form }
    ≡ record (before_document setting f) {
      context_elem = Some context;
      form_elem = form;
      template_modes = choose b (λ _. InTemplate ∷ []) (λ _. []);
    }
unfolding push_template_mode
moded true context form setting f = refl
moded false context form setting f = refl

pub rootless-is : (setting : Setting) (context : Open) (form held : Option ℕ) (f : Forest) (s t u : State)
    → held ≡ form_of_context setting.opts.rules context form
    → s ≡ before_document setting f → t ≡ with_mode_of context s → u ≡ record t {
      context_elem = Some context;
      form_elem = held;
    } → u ≡ rootless setting context form f
rootless-is setting context form held f s t u is_held is_s is_t is_u =
    is_u ∙ ap (λ (x : State). record x { context_elem = Some context; form_elem = held })
    (is_t ∙ ap (with_mode_of context) is_s) ∙ moded (is_in Template context) context held setting f
    ∙ ap (λ form. record (before_document setting f) {
      context_elem = Some context;
      form_elem = form;
      template_modes = modes_of_context context;
    }) is_held

-- it stands, so that the root may be put
pub rootless-stands : (a : Answers) (b : Building) (setting : Setting) (context : Open) (form : Option ℕ)
    (f : Forest) → state_of a b f ≡ rootless setting context form f → IsTree f → above_of f 0 ≡ None
    → IsNode f context.number → IfSome (form_of_context setting.opts.rules context form) (IsNode f) → Stands f b
rootless-stands a b setting context form f e tree top at is =
    stands-of a b f (subst Grounded (sym e)
    (record {
      standing = record { tree = tree; opened = tt; apart = tt; listed = tt; top = top };
      head = tt;
      form = is;
      context = at;
    }))

pub fragment-begun : (setting : Setting) (context : Open) (form : Option ℕ) (f : Forest) (u v r : State)
    → u ≡ rootless setting context form f → v ≡ create_root [] u → r ≡ reset_insertion_mode v → r ≡ before_fragment setting context form f
fragment-begun setting context form f u v r is_u is_v is = is ∙ ap reset_insertion_mode (is_v ∙ ap (create_root []) is_u)
