-- What parsers come to, by what their calls promise alone.
use Rattle.std.specs.Prelude.{◌≡◌, ℕ, Bool, false, List, Option, Some, None, Result, Ok, IfErr, IfSome}
use Rattle.html_queue.specs.Queue.{Queue}
use Rattle.markup.specs.Forest.{Forest}
use Rattle.markup.specs.TreeLaws.{with_errors}
use Rattle.markup.specs.declared.fault.ParseFault.{ParseFault}
use Rattle.markup.specs.declared.fault.ParseFault.TheVariants.{Memory}
use Rattle.markup.specs.declared.tree_sink.TreeSink.{Ghosts as TreeGhosts}
use Rattle.html_rules.specs.State.{Open, State}
use Rattle.html_tokens.specs.Table.{Row}
use Rattle.html_tokenizer.specs.Calls.{refusal_of}
use Rattle.html_tokenizer.specs.declared.tokenizer.Tokenizer.{Tokenizer}
use Rattle.html_tree_builder.specs.States.{answers_of, setting_of}
use Rattle.html_tree_builder.specs.declared.builder.TreeBuilder.{TreeBuilder}
use Rattle.html_parser.specs.Cuts.{AreTaken, joined}
use Rattle.html_parser.specs.Documents.{Begins, Finishes, Starts, TellsError, builder, of_document, of_fragment}
use Rattle.html_parser.specs.Read.{Beginning, HasRead, IsTaken, TakesText, stopped_by}
use Rattle.html_parser.specs.declared.options.ParseOpts.{ParseOpts}

-- options that differ from others at most in how exactly errors are told, by the tokenizer and by the tree builder
abbrev pub with_exact_errors : Bool → Bool → ParseOpts → ParseOpts
with_exact_errors tokenizer tree_builder opts = record {
  tokenizer = record opts.tokenizer { exact_errors = tokenizer };
  tree_builder = record opts.tree_builder { exact_errors = tree_builder };
}

-- the only fault of a call: what stands against it, and else want of memory
abbrev pub only_fault : Option ParseFault → ParseFault
only_fault None = Memory
only_fault (Some fault) = fault

module _ {K H O : Type 0} (Sink : TreeGhosts K H O) where
  -- where a document is begun so
  abbrev pub document_by : List Row → ParseOpts → Forest → Beginning State
  document_by table opts f = of_document table opts.tokenizer
      (setting_of (answers_of Sink.integration_point Sink.allows_shadow_roots Sink.attaches_shadow) opts.tree_builder) f

  -- where a fragment is begun so
  abbrev pub fragment_by : List Row → ParseOpts → Open → Option ℕ → Bool → Forest → Beginning State
  fragment_by table opts context form scripting f = of_fragment table opts.tokenizer
      (setting_of (answers_of Sink.integration_point Sink.allows_shadow_roots Sink.attaches_shadow)
      opts.tree_builder) context form scripting f

  -- A parser that began so took these pieces, one after the other, and gave this at the end.
  pub record Parses (begin : Beginning State) (pieces : List (List ℕ)) (output : O) : Type 0 where
    pub has_failed : Bool
    pub first : Tokenizer (TreeBuilder K H O)
    pub from : Queue
    pub starts : Starts Sink begin has_failed first from
    pub last : Tokenizer (TreeBuilder K H O)
    pub to : Queue
    pub taken : AreTaken (builder Sink) pieces first from last to
    pub finished : Finishes Sink None last to.characters (Ok output)

  -- Two sinks gave these at their ends, with equal trees and quirks modes.
  pub record AreAlike (output other : O) : Type 0 where
    pub sink : K
    pub gives : Sink.finish_gives sink output
    pub other_sink : K
    pub other_gives : Sink.finish_gives other_sink other
    pub same : with_errors 0 (Sink.forest sink) ≡ with_errors 0 (Sink.forest other_sink)

  -- Of one text, in whatever pieces, parsers that began so build trees that are alike.
  abbrev pub BuildAlike : Beginning State → Beginning State → Type 0
  BuildAlike begin other = (pieces pieces' : List (List ℕ)) (output output' : O) → joined pieces ≡ joined pieces'
      → Parses begin pieces output → Parses other pieces' output' → AreAlike output output'

  -- Documents with one table, options and tree to begin with, and fragments in one context too.
  pub record AreCutAnywhere : Type 0 where
    pub document : (table : List Row) (opts : ParseOpts) (f : Forest) → BuildAlike (document_by table opts f) (document_by table opts f)
    pub fragment : (table : List Row) (opts : ParseOpts) (context : Open) (form : Option ℕ) (scripting : Bool)
        (f : Forest) → BuildAlike (fragment_by table opts context form scripting f) (fragment_by table opts context form scripting f)

  -- The same where errors are told exactly or not.
  pub record AreErrorsAside : Type 0 where
    pub document : (table : List Row) (opts : ParseOpts) (tokenizer tree_builder : Bool) (f : Forest)
        → BuildAlike (document_by table opts f) (document_by table (with_exact_errors tokenizer tree_builder opts) f)
    pub fragment : (table : List Row) (opts : ParseOpts) (tokenizer tree_builder : Bool) (context : Open)
        (form : Option ℕ) (scripting : Bool) (f : Forest)
        → BuildAlike (fragment_by table opts context form scripting f)
        (fragment_by table (with_exact_errors tokenizer tree_builder opts) context form scripting f)

  -- What was read begins texts of which none is refused, and the builder has not failed.
  pub record HasReadTaken (k : Tokenizer (TreeBuilder K H O)) : Type 0 where
    pub begin : Beginning State
    pub before : List ℕ
    pub read : HasRead (builder Sink) begin before k
    pub taken : IsTaken (builder Sink) begin
    pub works : k.sink.has_failed ≡ false

  -- so it is, where nothing stands against a call
  abbrev pub TakesEach : Option ParseFault → Tokenizer (TreeBuilder K H O) → Type 0
  TakesEach None k = HasReadTaken k
  TakesEach (Some fault) k = Unit {0}

  -- In such a state parsers begin, their calls keep it, and from it no text is refused: where nothing stands against a call it fails for
  -- want of memory alone. So `Failed` comes only after a fault, and `Ended` only after the end.
  pub record IsNoTextRefused : Type 0 where
    pub begins : (begin : Beginning State) (has_failed : Bool) (k : Tokenizer (TreeBuilder K H O)) (input : Queue)
        → Begins Sink begin has_failed k input → TakesEach (stopped_by has_failed (refusal_of k)) k
    pub process : (failed fails : Bool) (old new : Tokenizer (TreeBuilder K H O)) (from to : Queue) (text : List ℕ)
        (result : Result (Unit {0}) ParseFault)
        → TakesEach (stopped_by failed (refusal_of old)) old
        → TakesText (builder Sink) (stopped_by failed (refusal_of old)) (stopped_by fails (refusal_of new)) old new from to text result
        → IfSome (stopped_by failed (refusal_of old)) (λ _. fails ≡ failed)
        → TakesEach (stopped_by fails (refusal_of new)) new
        × IfErr result (λ fault. fault ≡ only_fault (stopped_by failed (refusal_of old)))
    pub error : (failed : Bool) (old new : Tokenizer (TreeBuilder K H O))
        → TakesEach (stopped_by failed (refusal_of old)) old → TellsError Sink old new → TakesEach (stopped_by failed (refusal_of new)) new
    pub finish : (failed : Bool) (k : Tokenizer (TreeBuilder K H O)) (text : List ℕ) (result : Result O ParseFault)
        → TakesEach (stopped_by failed (refusal_of k)) k → Finishes Sink (stopped_by failed (refusal_of k)) k text
        result → IfErr result (λ fault. fault ≡ only_fault (stopped_by failed (refusal_of k)))
