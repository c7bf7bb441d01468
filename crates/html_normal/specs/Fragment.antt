-- The fragment of a text in an element.
use Rattle.std.specs.Prelude.{◌≡◌, ℕ, Bool, true, false, List, [], Option, Some, None, Result, Ok, IsUtf8}
use Rattle.std.specs.Str.{chars}
use Rattle.markup.specs.Forest.{Forest, create_element, empty_forest, node_count}
use Rattle.markup.specs.declared.names.QualName.{QualName}
use Rattle.html_rules.specs.Documents.{fragment}
use Rattle.html_rules.specs.Names.{flags_of, namespace_of}
use Rattle.html_rules.specs.State.{Open, State}
use Rattle.html_rules.specs.declared.rules.Rules.{Rules}
use Rattle.html_rules.specs.declared.rules.Rules.TheVariants.{Html5ever, Standard}
use Rattle.html_tokens.specs.Sink.{Refusal}
use Rattle.html_tokens.specs.Table.{Row}
use Rattle.html_tokens.specs.declared.options.TokenizerOpts.{TokenizerOpts}
use Rattle.html_normal.specs.Document.{default_opts, setting_by}

-- a new element of that name, without attributes, in a new forest
abbrev pub context_forest : QualName → Forest
context_forest name = create_element empty_forest name [] (flags_of (namespace_of name.ns) name.local [] false)

abbrev pub context_by : Rules → QualName → Open
context_by rules name = record { number = node_count empty_forest; namespace = namespace_of name.ns; name = name.local; rules = rules }

-- a fragment is text, not bytes: by the Standard its first U+FEFF is no byte order mark (section 13.4), html5ever drops it
abbrev pub drops_mark : Rules → Bool
drops_mark Html5ever = true
drops_mark Standard = false

abbrev pub fragment_opts : Rules → TokenizerOpts
fragment_opts rules = record default_opts { discard_bom = drops_mark rules }

-- the state in which the rules leave a text that stands in such an element, in no form
abbrev pub fragment_by : Rules → List Row → QualName → List ℕ → Result State Refusal
fragment_by rules table name text =
    fragment table (fragment_opts rules) (setting_by rules) (context_by rules name) None true (context_forest name) text

abbrev pub fragment_of : List Row → QualName → List ℕ → Result State Refusal
fragment_of table name text = fragment_by Html5ever table name text

-- Bytes are UTF-8, and this is the fragment that the rules give their text.
pub record IsFragment (table : List Row) (name : QualName) (bytes : List ℕ) (f : Forest) : Type 0 where
  pub text : IsUtf8 bytes
  pub state : State
  pub read : fragment_of table name (chars bytes) ≡ Ok state
  pub tree : f ≡ state.forest

-- All of the input was read, and this is its fragment.
pub record IsFragmentRead (table : List Row) (name : QualName) (whole : List ℕ) (left : Option (List ℕ)) (f : Forest) : Type 0 where
  pub input : IsFragment table name whole f
  pub taken : left ≡ Some []
