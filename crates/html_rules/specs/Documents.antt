-- The document of a text, and the fragment (HTML Standard, sections 13.2 and 13.4).
use Rattle.std.specs.Prelude.{ℕ, Bool, true, false, List, [], ◌∷◌, Option, Some, None, Result}
use Rattle.markup.specs.Forest.{Forest}
use Rattle.markup.specs.declared.quirks.QuirksMode.{QuirksMode}
use Rattle.html_tokens.specs.Item.{Stand}
use Rattle.html_tokens.specs.NormalText.{normal_text}
use Rattle.html_tokens.specs.Clean.{is_clean_reading}
use Rattle.html_tokens.specs.Reading.{first_stand, reading}
use Rattle.html_tokens.specs.Sink.{Refusal}
use Rattle.html_tokens.specs.Table.{Row}
use Rattle.html_tokens.specs.declared.options.TokenizerOpts.{TokenizerOpts}
use Rattle.html_tokens.specs.declared.states.RawKind.TheVariants.{Rcdata, Rawtext, ScriptData}
use Rattle.html_tokens.specs.declared.states.State.{State as TokenizerState}
use Rattle.html_tokens.specs.declared.states.State.TheVariants.{Data, Plaintext, RawData}
use Rattle.html_rules.specs.Choice.{choose}
use Rattle.html_rules.specs.ForeignContent.{asks_cdata}
use Rattle.html_rules.specs.Places.{create_root}
use Rattle.html_rules.specs.Reset.{reset_insertion_mode}
use Rattle.html_rules.specs.State.{Open, Options, Answers, State, hushed, is_in}
use Rattle.html_rules.specs.Step.{ended, is_quiet, step}
use Rattle.html_rules.specs.declared.insertion_mode.InsertionMode.{InsertionMode}
use Rattle.html_rules.specs.declared.insertion_mode.InsertionMode.TheVariants.{Initial, InTemplate}
use Rattle.html_rules.specs.declared.rules.Rules.{Rules}
use Rattle.html_rules.specs.declared.rules.Rules.TheVariants.{Html5ever, Standard}
use Rattle.html_rules.specs.declared.tag_set.TagSet.TheVariants as set

-- how a parser is set up: scripting and the other options, and the quirks mode to begin with
pub record Setting : Type 0 where
  pub opts : Options
  pub quirks_mode : QuirksMode
  pub answers : Answers

-- the state before the first token, over a forest
abbrev pub before_document : Setting → Forest → State
before_document setting f = record {
  forest = f;
  open_elems = [];
  active_formatting = [];
  template_modes = [];
  mode = Initial;
  orig_mode = None;
  head_elem = None;
  form_elem = None;
  frameset_ok = true;
  ignore_lf = false;
  foster_parenting = false;
  pending_table_text = [];
  quirks_mode = setting.quirks_mode;
  context_elem = None;
  has_ended = false;
  opts = setting.opts;
  answers = setting.answers;
}

abbrev pub modes_of_context : Open → List InsertionMode
modes_of_context context = choose (is_in set.Template context) (λ _. InTemplate ∷ []) (λ _. [])

-- the form element pointer of a fragment: by the Standard, a context that is a form is meant itself
abbrev pub form_of_context : Rules → Open → Option ℕ → Option ℕ
form_of_context Html5ever context form = form
form_of_context Standard context form = choose (is_in set.Form context) (λ _. Some context.number) (λ _. form)

-- the state before the first token of a fragment: with its context, and with the form that the context stands in, if it stands in one
abbrev pub before_fragment : Setting → Open → Option ℕ → Forest → State
before_fragment setting context form f =
    reset_insertion_mode (create_root [] (record (before_document setting f) {
      context_elem = Some context;
      form_elem = form_of_context setting.opts.rules context form;
      template_modes = modes_of_context context;
    }))

-- the text state in which the tokenizer begins a fragment (section 13.4)
abbrev pub tokenizer_state : Open → Bool → TokenizerState
tokenizer_state context scripting =
    choose (is_in set.RcdataContext context) (λ _. RawData Rcdata)
    (λ _. choose (is_in set.RawtextContext context) (λ _. RawData Rawtext)
    (λ _. choose (is_in set.Script context) (λ _. RawData ScriptData)
    (λ _. choose (is_in set.Noscript context) (λ _. choose scripting (λ _. RawData Rawtext) (λ _. Data))
    (λ _. choose (is_in set.Plaintext context) (λ _. Plaintext) (λ _. Data)))))

-- the state that a whole text leaves, from a state on, where the tokenizer begins at a stand
abbrev pub document_from : List Row → Bool → Stand → State → List ℕ → Result State Refusal
document_from table discard_bom st s text = reading step (λ fault s. s) asks_cdata ended table st 0 (hushed s)
    (normal_text discard_bom text)

abbrev pub stand_of : TokenizerOpts → Stand
stand_of opts = first_stand opts.initial_state opts.last_start_tag_name

-- the document of a text
abbrev pub document : List Row → TokenizerOpts → Setting → Forest → List ℕ → Result State Refusal
document table opts setting f text = document_from table opts.discard_bom (stand_of opts) (before_document setting f) text

-- the fragment of a text; `scripting` says how the context was scripted
abbrev pub fragment : List Row → TokenizerOpts → Setting → Open → Option ℕ → Bool → Forest → List ℕ → Result State Refusal
fragment table opts setting context form scripting f text =
    document_from table opts.discard_bom
    (stand_of (record opts { initial_state = Some (tokenizer_state context scripting) })) (before_fragment setting context form f) text

-- whether a text is read from a state without anything that is not clean, and without an error of the rules
abbrev pub is_quiet_text : List Row → Stand → State → List ℕ → Bool
is_quiet_text table st s text = is_clean_reading step is_quiet asks_cdata table st 0 (hushed s) text
