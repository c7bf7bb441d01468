-- The document of a text, and the text that a document is written as.
use Rattle.std.specs.Prelude.{◌≡◌, ℕ, ◌+◌, ◌≤◌, min, Bool, true, false, List, None, Result, Ok, IsUtf8, encode_utf8_all}
use Rattle.std.specs.Str.{chars}
use Rattle.markup.specs.Forest.{Forest, children_of, data_of, empty_forest, integration_point_of}
use Rattle.markup.specs.Trees.{Trees, default_entry, trees_of, written}
use Rattle.markup.specs.declared.quirks.QuirksMode.TheVariants.{NoQuirks}
use Rattle.html_tokens.specs.Notes.{is_quiet_reading, owed}
use Rattle.html_tokens.specs.NormalText.{normal_text}
use Rattle.html_tokens.specs.Sink.{Refusal}
use Rattle.html_tokens.specs.Table.{Row}
use Rattle.html_tokens.specs.declared.options.TokenizerOpts.{TokenizerOpts}
use Rattle.html_rules.specs.Documents.{Setting, before_document, document, stand_of}
use Rattle.html_rules.specs.ForeignContent.{asks_cdata}
use Rattle.html_rules.specs.State.{Answers, State, hushed}
use Rattle.html_rules.specs.Step.{ended, is_quiet, step}
use Rattle.html_tokens.specs.Owed.{owed_for_text}
use Rattle.html_rules.specs.declared.rules.Rules.{Rules}
use Rattle.html_rules.specs.declared.rules.Rules.TheVariants.{Html5ever}

-- what is not asked for otherwise: a byte order mark is dropped, and reading begins in data
abbrev pub default_opts : TokenizerOpts
default_opts = record { exact_errors = false; discard_bom = true; initial_state = None; last_start_tag_name = None }

-- how a tree in memory answers the rules: it has no shadow trees
abbrev pub forest_answers : Answers
forest_answers = record {
  integration_point = λ f n. integration_point_of (data_of f n);
  allows_shadow_roots = λ f n. true;
  attaches_shadow = λ f host template attributes. false;
}

-- scripts run, and the document is a page of its own; by html5ever's rules or the Standard's
abbrev pub setting_by : Rules → Setting
setting_by rules = record {
  opts = record { scripting_enabled = true; iframe_srcdoc = false; drop_doctype = false; rules = rules };
  quirks_mode = NoQuirks;
  answers = forest_answers;
}

abbrev pub default_setting : Setting
default_setting = setting_by Html5ever

-- the state in which the rules leave a text that is read with this table of references
abbrev pub document_by : Rules → List Row → List ℕ → Result State Refusal
document_by rules table text = document table default_opts (setting_by rules) empty_forest text

abbrev pub document_of : List Row → List ℕ → Result State Refusal
document_of table text = document_by Html5ever table text

-- Bytes are UTF-8, and this is the document that the rules give their text.
pub record IsDocumentBy (rules : Rules) (table : List Row) (bytes : List ℕ) (f : Forest) : Type 0 where
  pub text : IsUtf8 bytes
  pub state : State
  pub read : document_by rules table (chars bytes) ≡ Ok state
  pub tree : f ≡ state.forest

abbrev pub IsDocument : List Row → List ℕ → Forest → Type 0
IsDocument table bytes f = IsDocumentBy Html5ever table bytes f

-- how many faulty items a text has as a document
abbrev pub faults_by : Rules → List Row → List ℕ → ℕ
faults_by rules table text = owed step is_quiet asks_cdata ended table (stand_of default_opts) 0
    (hushed (before_document (setting_by rules) empty_forest)) (normal_text true text)

-- whether no item of a text has a fault and the rules find no error in a token
abbrev pub is_quiet_by : Rules → List Row → List ℕ → Bool
is_quiet_by rules table text = is_quiet_reading step is_quiet asks_cdata ended table (stand_of default_opts) 0
    (hushed (before_document (setting_by rules) empty_forest)) (normal_text true text)

abbrev pub faults_of : List Row → List ℕ → ℕ
faults_of table text = faults_by Html5ever table text

abbrev pub is_quiet_document : List Row → List ℕ → Bool
is_quiet_document table text = is_quiet_by Html5ever table text

-- how many characters of a text are errors on their own: control characters and noncharacters, where these are told
abbrev pub emitted_characters : Bool → List ℕ → ℕ
emitted_characters exact text = (owed_for_text exact (normal_text true text)).faults

-- whether a text has none of these
abbrev pub is_free_of_emitted : Bool → List ℕ → Bool
is_free_of_emitted exact text = (owed_for_text exact (normal_text true text)).is_quiet

-- A number of errors counts each faulty item of a text and each character that is told, and maybe more; of a text without any it is 0.
pub record CountsErrorsBy (rules : Rules) (table : List Row) (exact : Bool) (text : List ℕ) (errors : ℕ) : Type 0 where
  pub enough : min (faults_by rules table text + emitted_characters exact text) 0xffff_ffff_ffff_ffff ≤ errors
  pub none : is_quiet_by rules table text ≡ true → is_free_of_emitted exact text ≡ true → errors ≡ 0

abbrev pub CountsErrors : List Row → Bool → List ℕ → ℕ → Type 0
CountsErrors table exact text errors = CountsErrorsBy Html5ever table exact text errors

-- the trees that stand in a document
abbrev pub document_trees : Forest → Trees
document_trees f = trees_of f (children_of f 0)

-- the bytes that a document is written as
abbrev pub document_bytes : Forest → List ℕ
document_bytes f = encode_utf8_all (written true default_entry (document_trees f))
