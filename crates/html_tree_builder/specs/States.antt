-- The state of tree construction, as the code has it.
use Rattle.std.specs.Prelude.{◌≡◌, ℕ, Bool, List, [], Option, Some, None, IfSome}
use Rattle.markup.specs.Forest.{Forest, IsNode, data_of, element_name}
use Rattle.markup.specs.declared.attributes.Attribute.{Attribute}
use Rattle.markup.specs.declared.names.QualName.{QualName}
use Rattle.markup.specs.declared.quirks.QuirksMode.{QuirksMode}
use Rattle.markup.specs.declared.tree_sink.TreeSink.{Ghosts}
use Rattle.html_rules.specs.Actions.{push_template_mode}
use Rattle.html_rules.specs.Choice.{choose}
use Rattle.html_rules.specs.Documents.{Setting}
use Rattle.html_rules.specs.Names.{Other, namespace_of}
use Rattle.html_rules.specs.State.{Answers, Open, Options, State, is_in}
use Rattle.html_rules_laws.specs.Soundness.{IsStanding}
use Rattle.html_rules.specs.declared.insertion_mode.InsertionMode.{InsertionMode}
use Rattle.html_rules.specs.declared.insertion_mode.InsertionMode.TheVariants.{InTemplate}
use Rattle.html_rules.specs.declared.rules.Rules.{Rules}
use Rattle.html_rules.specs.declared.tag_set.TagSet.TheVariants.{Template}
use Rattle.html_stack.specs.Stacks.{Stacked, open_of}
use Rattle.html_stack.specs.declared.entries.OpenElement.{OpenElement}
use Rattle.html_tree_builder.specs.declared.options.TreeBuilderOpts.{TreeBuilderOpts}

abbrev pub number_if : {H : Type 0} → (H → ℕ) → Option H → Option ℕ
number_if node None = None
number_if node (Some handle) = Some (node handle)

abbrev pub context_of : {H : Type 0} → (H → ℕ) → Option (OpenElement H) → Option Open
context_of node None = None
context_of node (Some x) = Some (open_of node x)

abbrev pub options_of : TreeBuilderOpts → Options
options_of opts = record {
  scripting_enabled = opts.scripting_enabled;
  iframe_srcdoc = opts.iframe_srcdoc;
  drop_doctype = opts.drop_doctype;
  rules = opts.rules;
}

-- how the rules are set up, where the sink answers so
abbrev pub setting_of : Answers → TreeBuilderOpts → Setting
setting_of answers opts = record { opts = options_of opts; quirks_mode = opts.quirks_mode; answers = answers }

abbrev pub answers_of : (Forest → ℕ → Bool) → (Forest → ℕ → Bool) → (Forest → ℕ → ℕ → List Attribute → Bool) → Answers
answers_of integration_point allows_shadow_roots attaches_shadow = record {
  integration_point = integration_point;
  allows_shadow_roots = allows_shadow_roots;
  attaches_shadow = attaches_shadow;
}

-- what the rules go by beside the tree and what the sink answers
pub record Building : Type 0 where
  pub stack : Stacked
  pub mode : InsertionMode
  pub orig_mode : Option InsertionMode
  pub head_elem : Option ℕ
  pub form_elem : Option ℕ
  pub frameset_ok : Bool
  pub ignore_lf : Bool
  pub foster_parenting : Bool
  pub pending_table_text : List ℕ
  pub quirks_mode : QuirksMode
  pub context_elem : Option Open
  pub has_ended : Bool
  pub opts : Options

-- the state of the rules, with what the sink answers and its tree
abbrev pub state_of : Answers → Building → Forest → State
state_of answers b f = record {
  forest = f;
  open_elems = b.stack.open_elems;
  active_formatting = b.stack.active_formatting;
  template_modes = b.stack.template_modes;
  mode = b.mode;
  orig_mode = b.orig_mode;
  head_elem = b.head_elem;
  form_elem = b.form_elem;
  frameset_ok = b.frameset_ok;
  ignore_lf = b.ignore_lf;
  foster_parenting = b.foster_parenting;
  pending_table_text = b.pending_table_text;
  quirks_mode = b.quirks_mode;
  context_elem = b.context_elem;
  has_ended = b.has_ended;
  opts = record b.opts { rules = b.stack.rules };
  answers = answers;
}

-- an element of a tree, as what a fragment is parsed in
abbrev pub named_open : Rules → ℕ → Option QualName → Open
named_open rules n None = record { number = n; namespace = Other []; name = []; rules = rules }
named_open rules n (Some name) = record { number = n; namespace = namespace_of name.ns; name = name.local; rules = rules }

abbrev pub context_in : Rules → Forest → ℕ → Open
context_in rules f n = named_open rules n (element_name (data_of f n))

-- a template that is a context has its template insertion mode
abbrev pub with_mode_of : Open → State → State
with_mode_of context s = choose (is_in Template context) (λ _. push_template_mode InTemplate s) (λ _. s)

-- the open elements stand, and the pointers name nodes
pub record Stands (f : Forest) (b : Building) : Type 0 where
  pub standing : IsStanding f b.stack.open_elems b.stack.active_formatting
  pub head : IfSome b.head_elem (IsNode f)
  pub form : IfSome b.form_elem (IsNode f)
  pub context : IfSome b.context_elem (λ c. IsNode f c.number)

-- the same, with what a sink answers
abbrev pub built : {K H O : Type 0} → Ghosts K H O → Building → Forest → State
built sink b f = state_of (answers_of sink.integration_point sink.allows_shadow_roots sink.attaches_shadow) b f

-- what a step of the rules does to a state is done to a builder and its tree
abbrev pub Performs : (State → State) → Building → Building → Forest → Forest → Type 0
Performs step old new f g = (a : Answers) → state_of a new g ≡ step (state_of a old f)

-- the same of a step that neither looks at the tree nor at what the sink answers: of each tree
abbrev pub Changes : (State → State) → Building → Building → Type 0
Changes step old new = (a : Answers) (f : Forest) → state_of a new f ≡ step (state_of a old f)
