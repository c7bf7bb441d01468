-- What the calls of a parser come to.
use Rattle.std.proofs.Common.{ℕ, List, [], ◌++◌, Option, Some, None, Result, Ok, Err, append-nil, refl, ap, subst, sym}
use Rattle.markup.specs.declared.fault.ParseFault.{ParseFault}
use Rattle.markup.specs.declared.tree_sink.TreeSink.{Ghosts as TreeGhosts}
use Rattle.html_tokenizer.specs.declared.tokenizer.Tokenizer.{Tokenizer}
use Rattle.html_tree_builder.specs.declared.builder.TreeBuilder.{TreeBuilder}
use Rattle.html_queue.specs.Queue.{Queue}
use Rattle.html_parser.specs.Documents.{Finishes, IsBuilt, builder}
use Rattle.html_parser.specs.Read.{EndsAll, ReadsOn, RisesTo, TakesText, owed_by}
use Rattle.html_parser.proofs.Feeds.{fails-on}

abbrev fault_of : {A : Type 0} → ParseFault → Result A ParseFault → ParseFault
fault_of other (Ok x) = other
fault_of other (Err fault) = fault

module _ {K H O : Type 0} (Sink : TreeGhosts K H O) where
  -- what was built is what the whole text makes
  pub finished : (stopped : Option ParseFault) (k : Tokenizer (TreeBuilder K H O)) (text : List ℕ)
      (b : TreeBuilder K H O) (out : O) → EndsAll (builder Sink) stopped k text (Ok b)
      → Sink.finish_gives b.sink out → Finishes Sink stopped k text (Ok out)
  finished None k text b out ends gives = λ begin before read. let left = ends begin before read in record {
    sink = b.sink;
    gives = gives;
    state = (builder Sink).view b;
    is = left.is;
    same = refl;
    rises = subst (λ n. RisesTo (owed_by (builder Sink) begin (before ++ text)) begin.errors n) (sym left.counts) left.rises;
  }
  finished (Some fault) k text b out ends gives = absurd (let e = ends in cc)

  -- a fault of the end is one of the parser
  pub unfinished : (stopped : Option ParseFault) (k : Tokenizer (TreeBuilder K H O)) (text : List ℕ)
      (fault : ParseFault) → EndsAll (builder Sink) stopped k text (Err fault) → Finishes Sink stopped k text (Err fault)
  unfinished None k text fault ends = ends
  unfinished (Some other) k text fault ends = ap (λ f. Err f) (ap (fault_of other) ends)

  -- where nothing waits, what ends a text after what was read ends all of it
  ends-both : (old new : Tokenizer (TreeBuilder K H O)) (text : List ℕ) (result : Result O ParseFault)
      → ReadsOn (builder Sink) old new text → Finishes Sink None new [] result → Finishes Sink None old text result
  ends-both old new text (Ok out) reads ends = λ begin before read. subst (λ whole. IsBuilt Sink begin whole out)
      (append-nil (before ++ text)) (ends begin (before ++ text) (reads.reads begin before read))
  ends-both old new text (Err fault) reads ends = fails-on (builder Sink) old new text fault reads ends

  -- a last text is taken, and then the end
  pub one-given : (stopped left : Option ParseFault) (old new : Tokenizer (TreeBuilder K H O)) (from to : Queue)
      (text : List ℕ) (result : Result O ParseFault) → TakesText (builder Sink) stopped left old new from to text
      (Ok tt) → Finishes Sink left new to.characters result → Finishes Sink stopped old (from.characters ++ text) result
  one-given None left old new from to text result takes ends = ends-both old new (from.characters ++ text) result
      takes.0 (rw (takes.1, takes.2) at ends)
  one-given (Some fault) left old new from to text result takes ends = absurd (let e = takes.0 in cc)

  -- a fault of a last text is one of the parser
  pub one-refused : (stopped left : Option ParseFault) (old new : Tokenizer (TreeBuilder K H O)) (from to : Queue)
      (text : List ℕ) (fault : ParseFault) → TakesText (builder Sink) stopped left old new from to text (Err fault)
      → Finishes Sink stopped old (from.characters ++ text) (Err fault)
  one-refused None left old new from to text fault takes = takes.1
  one-refused (Some other) left old new from to text fault takes = ap (λ f. Err f) (ap (fault_of other) takes.0)
