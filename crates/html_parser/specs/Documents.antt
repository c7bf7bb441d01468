-- The document of a text, as a parser reads it.
use Rattle.std.specs.Prelude.{◌≡◌, ℕ, Bool, false, List, [], ◌++◌, Option, Some, None, Result, Ok, Err}
use Rattle.html_queue.specs.Queue.{Queue}
use Rattle.markup.specs.Forest.{Forest, add_error, create_element, node_count}
use Rattle.markup.specs.declared.attributes.Attribute.{Attribute}
use Rattle.markup.specs.declared.names.QualName.{QualName}
use Rattle.markup.specs.TreeLaws.{with_errors}
use Rattle.markup.specs.declared.fault.ParseFault.{ParseFault}
use Rattle.markup.specs.declared.tree_sink.TreeSink.{Ghosts as TreeGhosts}
use Rattle.html_rules_laws.specs.Usable.{Usable}
use Rattle.html_rules.specs.Documents.{Setting, before_document, before_fragment, tokenizer_state}
use Rattle.html_rules.specs.ForeignContent.{asks_cdata}
use Rattle.html_rules.specs.Names.{flags_of, namespace_of}
use Rattle.html_rules.specs.State.{Open, State, hushed}
use Rattle.html_rules.specs.Step.{ended, is_quiet, step}
use Rattle.html_rules.specs.declared.rules.Rules.{Rules}
use Rattle.html_tokens.specs.Table.{Row}
use Rattle.html_tokens.specs.declared.options.TokenizerOpts.{TokenizerOpts}
use Rattle.html_tokens.specs.declared.sink.TokenSink.{Ghosts}
use Rattle.html_tokenizer.specs.Calls.{IsReadyIf, refusal_of}
use Rattle.html_tokenizer.specs.declared.tokenizer.Tokenizer.{Tokenizer}
use Rattle.html_tree_builder.specs.States.{built}
use Rattle.html_tree_builder.specs.declared.builder.TreeBuilder.{TreeBuilder}
use Rattle.html_parser.specs.Read.{Beginning, FailsAfter, HasRead, IsTaken, KeepsRead, RisesTo, beginning, owed_by, read_whole, stopped_by}

-- a tree builder, as what takes tokens
abbrev pub builder : {K H O : Type 0} → TreeGhosts K H O → Ghosts (TreeBuilder K H O) H
builder Sink = record {
  State = State;
  view = λ b. hushed (built Sink b.construction (Sink.forest b.sink));
  is_sound = Usable;
  step = step;
  ended = ended;
  asks_cdata = asks_cdata;
  errors = λ b. (Sink.forest b.sink).errors;
  errors_ended = λ s n. n;
  is_quiet = is_quiet;
  has_failed = λ b. b.has_failed;
  references = λ b. [];
  number = Sink.node;
}

-- before a text that is read from a state of the rules on
abbrev pub from_state : List Row → TokenizerOpts → State → Beginning State
from_state table opts s = beginning table opts (hushed s) s.forest.errors

-- before the text of a document
abbrev pub of_document : List Row → TokenizerOpts → Setting → Forest → Beginning State
of_document table opts setting f = from_state table opts (before_document setting f)

-- before the text of a fragment; `scripting` says how the context was scripted
abbrev pub of_fragment : List Row → TokenizerOpts → Setting → Open → Option ℕ → Bool → Forest → Beginning State
of_fragment table opts setting context form scripting f = from_state table
    (record opts { initial_state = Some (tokenizer_state context scripting) }) (before_fragment setting context form f)

-- What a sink of trees gives at its end, whose tree and quirks mode are those that a text leaves, and whose number of errors rose by
-- what the text owes.
pub record IsBuilt {K H O : Type 0} (Sink : TreeGhosts K H O) (begin : Beginning State) (text : List ℕ) (built : O) : Type 0 where
  pub sink : K
  pub gives : Sink.finish_gives sink built
  pub state : State
  pub is : read_whole (builder Sink) begin text ≡ Ok state
  pub same : with_errors 0 (Sink.forest sink) ≡ state.forest
  pub rises : RisesTo (owed_by (builder Sink) begin text) begin.errors (Sink.forest sink).errors

-- What waited was read, and a text, and its end: what was built is what the whole text makes.
abbrev pub Finishes : {K H O : Type 0} → TreeGhosts K H O → Option ParseFault → Tokenizer (TreeBuilder K H O)
    → List ℕ → Result O ParseFault → Type 0
Finishes Sink None k text (Ok output) = (begin : Beginning State) (before : List ℕ)
    → HasRead (builder Sink) begin before k → IsBuilt Sink begin (before ++ text) output
Finishes Sink None k text (Err fault) = FailsAfter (builder Sink) k fault
Finishes Sink (Some fault) k text result = result ≡ Err fault

-- A parser stands before all text: nothing was read, nothing waits, and nothing stands against it or its builder.
pub record Starts {K H O : Type 0} (Sink : TreeGhosts K H O) (begin : Beginning State) (has_failed : Bool)
    (k : Tokenizer (TreeBuilder K H O)) (input : Queue) : Type 0 where
  pub read : HasRead (builder Sink) begin [] k
  pub empty : input.characters ≡ []
  pub begun : stopped_by has_failed (refusal_of k) ≡ None
  pub works : k.sink.has_failed ≡ false
  pub ready : IsReadyIf (builder Sink) (stopped_by has_failed (refusal_of k)) k

-- the same, and no text is refused
pub record Begins {K H O : Type 0} (Sink : TreeGhosts K H O) (begin : Beginning State) (has_failed : Bool)
    (k : Tokenizer (TreeBuilder K H O)) (input : Queue) : Type 0 where
  pub starts : Starts Sink begin has_failed k input
  pub taken : IsTaken (builder Sink) begin

-- a new element of that name, as what a fragment is parsed in
abbrev pub new_context : Rules → QualName → Forest → Open
new_context rules name f = record { number = node_count f; namespace = namespace_of name.ns; name = name.local; rules = rules }

-- before the text of a fragment in a new element
abbrev pub of_new_context : List Row → TokenizerOpts → Setting → QualName → List Attribute → Bool → Forest → Beginning State
of_new_context table opts setting name attributes scripting f =
    of_fragment table opts setting (new_context setting.opts.rules name f) None scripting
    (create_element f name attributes (flags_of (namespace_of name.ns) name.local attributes false))

-- An error was told: it is counted, and all else stands. What was read still was, after one error more, and what could be called still
-- can.
pub record TellsError {K H O : Type 0} (Sink : TreeGhosts K H O) (old new : Tokenizer (TreeBuilder K H O)) : Type 0 where
  pub counts : Sink.forest new.sink.sink ≡ add_error (Sink.forest old.sink.sink)
  pub same : new ≡ record old { sink = record old.sink { sink = new.sink.sink } }
  pub read : KeepsRead (builder Sink) old new
  pub ready : (refused : Option ParseFault) → IsReadyIf (builder Sink) refused old → IsReadyIf (builder Sink) refused new
