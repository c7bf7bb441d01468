-- How parsers of fragments begin.
use Rattle.std.proofs.Common.{◌≡◌, ◌∙◌, ℕ, Bool, true, false, List, Option, Some, None, refl, sym, ap, subst}
use Rattle.std.specs.Prelude.{IfSome, codes}
use Rattle.markup.specs.Forest.{Forest, IsForest, above_of, create_element, data_of, element_name, node_count}
use Rattle.markup.specs.Named.{IsTree}
use Rattle.markup.specs.declared.attributes.Attribute.{Attribute}
use Rattle.markup.specs.declared.flags.ElementFlags.{ElementFlags}
use Rattle.markup.specs.declared.names.QualName.{QualName}
use Rattle.markup.specs.declared.tree_sink.TreeSink.{Ghosts as TreeGhosts}
use Rattle.markup.proofs.Forests.{IsMade-create_element}
use Rattle.html_queue.specs.Queue.{Queue}
use Rattle.html_tokens.specs.Table.{Row}
use Rattle.html_tokens.specs.TextState.{is_text_state}
use Rattle.html_tokens.specs.declared.options.TokenizerOpts.{TokenizerOpts}
use Rattle.html_tokens.specs.declared.states.RawKind.TheVariants.{Rcdata, Rawtext, ScriptData}
use Rattle.html_tokens.specs.declared.states.State.{State as TokenizerState}
use Rattle.html_tokens.specs.declared.states.State.TheVariants.{Data, Plaintext, RawData}
use Rattle.html_rules.specs.Choice.{choose}
use Rattle.html_rules.specs.Documents.{Setting, before_document, before_fragment, modes_of_context, tokenizer_state, form_of_context}
use Rattle.html_rules.specs.Names.{Html, element_name_of, flags_of, namespace_of}
use Rattle.html_rules.specs.State.{Open, State, is_in}
use Rattle.html_rules.specs.declared.tag_set.TagSet.TheVariants as set
use Rattle.html_rules.specs.declared.rules.Rules.{Rules}
use Rattle.html_rules.specs.declared.rules.Rules.TheVariants.{Html5ever, Standard}
use Rattle.html_rules_laws.specs.EachText.{IsEachTextTaken}
use Rattle.html_rules_laws.proofs.Frames.Larger.{root-larger}
use Rattle.html_tokenizer.specs.declared.tokenizer.Tokenizer.{Tokenizer}
use Rattle.html_tree_builder.specs.States.{context_in, named_open}
use Rattle.html_tree_builder.specs.declared.builder.TreeBuilder.{TreeBuilder}
use Rattle.html_tree_builder.proofs.BuildersBegun.{named-own}
use Rattle.html_parser.specs.Documents.{Begins, Starts, from_state, of_fragment, of_new_context, new_context}

-- the state in which a fragment's text is read first is one of text
pub state-text : (context : Open) (scripting : Bool) → is_text_state (tokenizer_state context scripting) ≡ true
state-text context scripting =
    by (is_in set.RcdataContext context) (is_in set.RawtextContext context) (is_in set.Script context)
    (is_in set.Noscript context) (is_in set.Plaintext context) scripting
  where
    by : (a b c d e f : Bool)
        → is_text_state (choose a (λ _. RawData Rcdata)
        (λ _. choose b (λ _. RawData Rawtext)
        (λ _. choose c (λ _. RawData ScriptData)
        (λ _. choose d (λ _. choose f (λ _. RawData Rawtext) (λ _. Data)) (λ _. choose e (λ _. Plaintext) (λ _. Data)))))) ≡ true
    by true b c d e f = refl
    by false true c d e f = refl
    by false false true d e f = refl
    by false false false true e true = refl
    by false false false true e false = refl
    by false false false false true f = refl
    by false false false false false f = refl

-- the context is that of the state before the fragment
pub begun-context : (setting : Setting) (context : Open) (form : Option ℕ) (f : Forest) (s : State)
    → s ≡ before_fragment setting context form f → s.context_elem ≡ Some context
begun-context setting context form f s e = ap (λ (x : State). x.context_elem) e
    ∙ (root-larger (record (before_document setting f) {
      context_elem = Some context;
      form_elem = form_of_context setting.opts.rules context form;
      template_modes = modes_of_context context;
    })).context

-- what is so of the context, if there is one
pub of-context : (o : Option Open) (context : Open) (P : Open → Type 0) → o ≡ Some context → IfSome o P → P context
of-context o context P e h = let known : IfSome (Some context) P = subst (λ x. IfSome x P) e h in known

module _ {K H O : Type 0} (Sink : TreeGhosts K H O) where
  -- it begins as the rules say, and no text is refused
  pub fragment-begins : (table : List Row) (opts : TokenizerOpts) (setting : Setting) (n : ℕ) (form : Option ℕ)
      (scripting : Bool) (f g : Forest) (s : State) (state : TokenizerState) (has_failed : Bool)
      (k : Tokenizer (TreeBuilder K H O)) (input : Queue)
      → IsEachTextTaken → g ≡ f → IsTree g → above_of f 0 ≡ None
      → IfSome (form_of_context setting.opts.rules (context_in setting.opts.rules f n) form)
      (λ n. element_name (data_of f n) ≡ Some (element_name_of Html (codes "form")))
      → s ≡ before_fragment setting (context_in setting.opts.rules g n) form g
      → state ≡ tokenizer_state (context_in setting.opts.rules g n) scripting
      → Starts Sink (from_state table (record opts { initial_state = Some state }) s) has_failed k input
      → Begins Sink (of_fragment table opts setting (context_in setting.opts.rules f n) form scripting f) has_failed k input
  fragment-begins table opts setting n form scripting f g s state has_failed k input taken e tree top named is is_state starts =
      let begun : s ≡ before_fragment setting (context_in setting.opts.rules f n) form f = is
      ∙ ap (λ x. before_fragment setting (context_in setting.opts.rules x n) form x) e in
      let stated : state ≡ tokenizer_state (context_in setting.opts.rules f n) scripting = is_state
      ∙ ap (λ x. tokenizer_state (context_in setting.opts.rules x n) scripting) e in
      record {
        starts =
            subst (λ x. Starts Sink (from_state table (record opts { initial_state = Some x })
            (before_fragment setting (context_in setting.opts.rules f n) form f)) has_failed k input) stated
            (subst (λ x. Starts Sink (from_state table (record opts { initial_state = Some state }) x) has_failed k input) begun starts);
        taken = λ text. taken.fragment table opts setting (context_in setting.opts.rules f n) form scripting f (subst IsTree e tree)
            top (named-own setting.opts.rules n (element_name (data_of f n))) named text;
      }

-- a new context is the element that was asked for
pub new-context : (f : Forest) (name : QualName) (attributes : List Attribute) (flags : ElementFlags) → IsForest f
    → element_name (data_of (create_element f name attributes flags) (node_count f)) ≡ Some name
new-context f name attributes flags is = ap element_name (IsMade-create_element f name attributes flags is).made

-- nothing stands above the document after it
pub new-top : (f : Forest) (name : QualName) (attributes : List Attribute) (flags : ElementFlags) → IsForest f
    → above_of f 0 ≡ None → above_of (create_element f name attributes flags) 0 ≡ None
new-top f name attributes flags is top = (IsMade-create_element f name attributes flags is).grown.olds 0 is.document ∙ top

abbrev pub flags_by : QualName → List Attribute → ElementFlags
flags_by name attributes = flags_of (namespace_of name.ns) name.local attributes false

-- a fragment in a new context begins as one in that element
pub new-beginning : (table : List Row) (opts : TokenizerOpts) (setting : Setting) (name : QualName)
    (attributes : List Attribute) (scripting : Bool) (f g h : Forest) (n : ℕ)
    → g ≡ f → IsForest g → n ≡ node_count g → h ≡ create_element g name attributes (flags_by name attributes)
    → of_fragment table opts setting (context_in setting.opts.rules h n) None scripting h
    ≡ of_new_context table opts setting name attributes scripting f
new-beginning table opts setting name attributes scripting f g h n e forest is_n is =
    let named : element_name (data_of h n) ≡ Some name =
    ap (λ x. element_name (data_of x n)) is
    ∙ (ap (λ k. element_name (data_of (create_element g name attributes (flags_by name attributes)) k)) is_n
    ∙ new-context g name attributes (flags_by name attributes) forest) in
    let context : context_in setting.opts.rules h n ≡ named_open setting.opts.rules (node_count f) (Some name) =
    ap (named_open setting.opts.rules n) named
    ∙ ap (λ k. named_open setting.opts.rules k (Some name)) (is_n ∙ ap (λ x. node_count x) e) in
    ap (λ x. of_fragment table opts setting x None scripting h) context
    ∙ ap (λ x. of_fragment table opts setting (named_open setting.opts.rules (node_count f) (Some name)) None scripting x)
    (is ∙ ap (λ x. create_element x name attributes (flags_by name attributes)) e)

-- a new context is a form, if it is the form element pointer
pub new-form : (rules : Rules) (name : QualName) (attributes : List Attribute) (f g h : Forest) (n : ℕ)
    → g ≡ f → IsForest g → n ≡ node_count g → h ≡ create_element g name attributes (flags_by name attributes)
    → IfSome (form_of_context rules (new_context rules name f) None) (λ k. name ≡ element_name_of Html (codes "form"))
    → IfSome (form_of_context rules (context_in rules h n) None)
    (λ k. element_name (data_of h k) ≡ Some (element_name_of Html (codes "form")))
new-form rules name attributes f g h n e forest is_n is form =
    let named : element_name (data_of h n) ≡ Some name =
    ap (λ x. element_name (data_of x n)) is
    ∙ (ap (λ k. element_name (data_of (create_element g name attributes (flags_by name attributes)) k)) is_n
    ∙ new-context g name attributes (flags_by name attributes) forest) in
    let context : context_in rules h n ≡ named_open rules n (Some name) = ap (named_open rules n) named in
    subst (λ context. IfSome (form_of_context rules context None)
    (λ k. element_name (data_of h k) ≡ Some (element_name_of Html (codes "form")))) (sym context) (by rules form)
  where
    both : (b : Bool) (m : ℕ) → IfSome (choose b (λ _. Some m) (λ _. None)) (λ k. name ≡ element_name_of Html (codes "form"))
        → element_name (data_of h n) ≡ Some name
        → IfSome (choose b (λ _. Some n) (λ _. None)) (λ k. element_name (data_of h k) ≡ Some (element_name_of Html (codes "form")))
    both true m same named = named ∙ ap Some same
    both false m same named = tt

    by : (r : Rules) → IfSome (form_of_context r (new_context rules name f) None) (λ k. name ≡ element_name_of Html (codes "form"))
        → IfSome (form_of_context r (named_open rules n (Some name)) None)
        (λ k. element_name (data_of h k) ≡ Some (element_name_of Html (codes "form")))
    by Html5ever form = tt
    by Standard form = both (is_in set.Form (named_open rules n (Some name))) (node_count f) form (
        ap (λ x. element_name (data_of x n)) is
        ∙ (ap (λ k. element_name (data_of (create_element g name attributes (flags_by name attributes)) k)) is_n
        ∙ new-context g name attributes (flags_by name attributes) forest))
