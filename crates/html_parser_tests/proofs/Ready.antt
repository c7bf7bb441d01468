-- When a parser is ready, and when its tokenizer is.
use Rattle.std.proofs.Common.{◌≡◌, Bool, true, false, Option, None, subst, sym}
use Rattle.markup.specs.declared.fault.ParseFault.{ParseFault}
use Rattle.markup.specs.declared.tree_sink.TreeSink.{Ghosts as TreeGhosts}
use Rattle.html_tokenizer.specs.Calls.{IsReadyIf, refusal_of}
use Rattle.html_tokenizer.specs.declared.tokenizer.Tokenizer.{Tokenizer}
use Rattle.html_tree_builder.specs.declared.builder.TreeBuilder.{TreeBuilder}
use Rattle.html_parser.specs.Documents.{TellsError, builder}
use Rattle.html_parser.specs.Read.{stopped_by}

module _ {K H O : Type 0} (Sink : TreeGhosts K H O) where
  -- a parser is ready where its tokenizer is
  pub ready-stopped : (failed : Bool) (refusal : Option ParseFault) (k : Tokenizer (TreeBuilder K H O))
      → IsReadyIf (builder Sink) refusal k → IsReadyIf (builder Sink) (stopped_by failed refusal) k
  ready-stopped true refusal k ready = tt
  ready-stopped false refusal k ready = ready

  -- so is the tokenizer of a parser against which nothing stands
  pub ready-begun : (failed : Bool) (refusal : Option ParseFault) (k : Tokenizer (TreeBuilder K H O))
      → stopped_by failed refusal ≡ None → IsReadyIf (builder Sink) (stopped_by failed refusal) k → IsReadyIf (builder Sink) refusal k
  ready-begun true refusal k begun ready = absurd cc
  ready-begun false refusal k begun ready = ready

  -- an error that is told leaves a parser ready
  pub ready-told : (failed fails : Bool) (old new : Tokenizer (TreeBuilder K H O)) → fails ≡ failed
      → TellsError Sink old new → IsReadyIf (builder Sink) (stopped_by failed (refusal_of old)) old
      → IsReadyIf (builder Sink) (stopped_by fails (refusal_of new)) new
  ready-told failed fails old new e told ready =
      subst (λ b. IsReadyIf (builder Sink) (stopped_by b (refusal_of new)) new) (sym e)
      (subst (λ (k : Tokenizer (TreeBuilder K H O)). IsReadyIf (builder Sink) (stopped_by failed (refusal_of k))
      new) (sym told.same) (told.ready (stopped_by failed (refusal_of old)) ready))
