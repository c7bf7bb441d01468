-- A parser that takes what a reader has.
use Rattle.std.specs.Prelude.{◌≡◌, ℕ, Bool, List, [], Option, None, IsUtf8}
use Rattle.std.specs.Io.KnownBytes.{IsAtEnd, prepend_known}
use Rattle.std.specs.Str.{chars}
use Rattle.markup.specs.declared.tree_sink.TreeSink.{Ghosts as TreeGhosts}
use Rattle.html_parser.specs.Documents.{builder}
use Rattle.html_parser.specs.Read.{Beginning, HasRead, IsRefusedAfter, ReadsOn, stopped_by}
use Rattle.html_queue.specs.Queue.{Queue}
use Rattle.html_rules.specs.State.{State}
use Rattle.html_tokenizer.specs.Calls.{IsReadyIf, refusal_of}
use Rattle.html_tokenizer.specs.declared.tokenizer.Tokenizer.{Tokenizer}
use Rattle.html_tree_builder.specs.declared.builder.TreeBuilder.{TreeBuilder}

module _ {K H O : Type 0} (Sink : TreeGhosts K H O) where
  -- nothing waits, and nothing stands against a call
  pub record IsAtRest (has_failed : Bool) (k : Tokenizer (TreeBuilder K H O)) (input : Queue) : Type 0 where
    pub empty : input.characters ≡ []
    pub free : stopped_by has_failed (refusal_of k) ≡ None
    pub ready : IsReadyIf (builder Sink) (stopped_by has_failed (refusal_of k)) k

  -- all that was left of bytes was a text, and it was read
  pub record HasReadAll (old new : Option (List ℕ)) (k k' : Tokenizer (TreeBuilder K H O)) : Type 0 where
    pub bytes : List ℕ
    pub moved : old ≡ prepend_known bytes new
    pub end : IsAtEnd new
    pub text : IsUtf8 bytes
    pub reads : ReadsOn (builder Sink) k k' (chars bytes)

  -- some text that begins as what was read is refused
  abbrev pub MayRefuse : Tokenizer (TreeBuilder K H O) → Type 0
  MayRefuse k = (begin : Beginning State) (before : List ℕ) → HasRead (builder Sink) begin before k
      → IsRefusedAfter (builder Sink) begin before
