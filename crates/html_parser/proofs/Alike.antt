-- Parsers that begin alike and take one text build trees that are alike.
use Rattle.std.proofs.Common.{◌≡◌, ◌∙◌, ℕ, List, [], ◌∷◌, ◌++◌, None, Ok, append_assoc, append-nil, refl, sym, ap, subst}
use Rattle.html_queue.specs.Queue.{Queue}
use Rattle.markup.specs.declared.tree_sink.TreeSink.{Ghosts as TreeGhosts}
use Rattle.html_rules.specs.State.{State}
use Rattle.html_tokenizer.specs.declared.tokenizer.Tokenizer.{Tokenizer}
use Rattle.html_tree_builder.specs.declared.builder.TreeBuilder.{TreeBuilder}
use Rattle.html_parser.specs.Cuts.{AreTaken, joined}
use Rattle.html_parser.specs.Documents.{Finishes, IsBuilt, builder}
use Rattle.html_parser.specs.Laws.{AreAlike, AreCutAnywhere, AreErrorsAside, BuildAlike, Parses}
use Rattle.html_parser.specs.Read.{Beginning, HasRead, read_whole}
use Rattle.html_parser.proofs.CutAnywhere.{one-state}

module _ {K H O : Type 0} (Sink : TreeGhosts K H O) where
  -- what was built of pieces is what their text makes
  pieces-built : (begin : Beginning State) (before : List ℕ) (k last : Tokenizer (TreeBuilder K H O))
      (from to : Queue) (pieces : List (List ℕ)) (output : O) → HasRead (builder Sink) begin before k
      → AreTaken (builder Sink) pieces k from last to
      → Finishes Sink None last to.characters (Ok output) → IsBuilt Sink begin (before ++ (from.characters ++ joined pieces)) output
  pieces-built begin before k last from to [] output r h finished =
      subst (λ t. IsBuilt Sink begin (before ++ t) output) (sym (append-nil from.characters ∙ ap (λ (q : Queue). q.characters) h.1))
      (finished begin before (subst (λ x. HasRead (builder Sink) begin before x) h.0 r))
  pieces-built begin before k last from to (piece ∷ pieces) output r h finished =
      let mid = h.0 in
      let waits = h.1.0 in
      let taken = h.1.1.0 in
      let later = pieces-built begin (before ++ (from.characters ++ piece)) mid last waits to pieces output
      (taken.0.reads begin before r) h.1.1.1 finished in
      let text : (before ++ (from.characters ++ piece)) ++ (waits.characters ++ joined pieces) ≡ before
      ++ (from.characters ++ (piece ++ joined pieces)) =
      ap (λ t. (before ++ (from.characters ++ piece)) ++ (t ++ joined pieces)) taken.1
      ∙ (append_assoc before (from.characters ++ piece) (joined pieces)
      ∙ ap (λ t. before ++ t) (append_assoc from.characters piece (joined pieces))) in
      subst (λ t. IsBuilt Sink begin t output) text later

  -- from the beginning on
  parsed : (begin : Beginning State) (pieces : List (List ℕ)) (output : O) → Parses Sink begin pieces output
      → IsBuilt Sink begin (joined pieces) output
  parsed begin pieces output p =
      subst (λ t. IsBuilt Sink begin (t ++ joined pieces) output) p.starts.empty
      (pieces-built begin [] p.first p.last p.from p.to pieces output p.starts.read p.taken p.finished)

  alike : (begin begin' : Beginning State) (text : List ℕ) (output other : O)
      → read_whole (builder Sink) begin text ≡ read_whole (builder Sink) begin' text
      → IsBuilt Sink begin text output → IsBuilt Sink begin' text other → AreAlike Sink output other
  alike begin begin' text output other e b b' = record {
    sink = b.sink;
    gives = b.gives;
    other_sink = b'.sink;
    other_gives = b'.gives;
    same = b.same ∙ (ap (λ (s : State). s.forest)
        (one-state (read_whole (builder Sink) begin text) b.state b'.state b.is (e ∙ b'.is)) ∙ sym b'.same);
  }

  -- beginnings from which every text is read alike
  pub builds-alike : (begin begin' : Beginning State)
      → ((text : List ℕ) → read_whole (builder Sink) begin text ≡ read_whole (builder Sink) begin' text) → BuildAlike Sink begin begin'
  builds-alike begin begin' same pieces pieces' output output' text p p' =
      alike begin begin' (joined pieces') output output' (same (joined pieces'))
      (subst (λ t. IsBuilt Sink begin t output) text (parsed begin pieces output p)) (parsed begin' pieces' output' p')

  pub cut-anywhere : AreCutAnywhere Sink
  cut-anywhere = record {
    document = λ table opts f. builds-alike _ _ (λ text. refl);
    fragment = λ table opts context form scripting f. builds-alike _ _ (λ text. refl);
  }

  pub errors-aside : AreErrorsAside Sink
  errors-aside = record {
    document = λ table opts tokenizer tree_builder f. builds-alike _ _ (λ text. refl);
    fragment = λ table opts tokenizer tree_builder context form scripting f. builds-alike _ _ (λ text. refl);
  }
