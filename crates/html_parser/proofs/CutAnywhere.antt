-- What is left at the end of a text does not depend on its pieces.
use Rattle.std.proofs.Common.{◌≡◌, ◌∙◌, ℕ, List, [], ◌∷◌, ◌++◌, None, Result, Ok, append_assoc, append-nil, sym, ap, subst}
use Rattle.html_queue.specs.Queue.{Queue}
use Rattle.html_tokens.specs.declared.sink.TokenSink.{Ghosts}
use Rattle.html_tokenizer.specs.declared.tokenizer.Tokenizer.{Tokenizer}
use Rattle.html_parser.specs.Cuts.{AreTaken, MayBeCut, joined}
use Rattle.html_parser.specs.Read.{Beginning, EndsAll, HasRead, read_whole}

-- one reading leaves one state
pub one-state : {S F : Type 0} (r : Result S F) (s t : S) → r ≡ Ok s → r ≡ Ok t → s ≡ t
one-state r s t e f = let both = sym e ∙ f in cc

module _ {K H : Type 0} (Sink : Ghosts K H) where
  -- pieces that are taken, and the end, leave what the whole text does
  pub pieces-whole : (begin : Beginning Sink.State) (before : List ℕ) (k last : Tokenizer K) (from to : Queue)
      (pieces : List (List ℕ)) (left : K) → HasRead Sink begin before k → AreTaken Sink pieces k from last to
      → EndsAll Sink None last to.characters (Ok left) → read_whole Sink begin
      (before ++ (from.characters ++ joined pieces)) ≡ Ok (Sink.view left)
  pieces-whole begin before k last from to [] left r h e =
      ap (λ t. read_whole Sink begin (before ++ t))
      (append-nil from.characters ∙ ap (λ (q : Queue). q.characters) h.1)
      ∙ (e begin before (subst (λ x. HasRead Sink begin before x) h.0 r)).is
  pieces-whole begin before k last from to (piece ∷ pieces) left r h e =
      let mid = h.0 in
      let waits = h.1.0 in
      let taken = h.1.1.0 in
      let later = pieces-whole begin (before ++ (from.characters ++ piece)) mid last waits to pieces left
      (taken.0.reads begin before r) h.1.1.1 e in
      ap (λ t. read_whole Sink begin (before ++ t)) (sym (append_assoc from.characters piece (joined pieces)))
      ∙ (ap (read_whole Sink begin) (sym (append_assoc before (from.characters ++ piece) (joined pieces)))
      ∙ (ap (λ t. read_whole Sink begin ((before ++ (from.characters ++ piece)) ++ (t ++ joined pieces))) (sym taken.1) ∙ later))

  pub cut-anywhere : MayBeCut Sink
  cut-anywhere begin exact_errors errors k k' last last' from from' to to' pieces pieces' left left' r r' none none' h h' text e e' =
      let whole = ap (λ t. read_whole Sink begin (t ++ joined pieces)) (sym none) ∙ pieces-whole begin
      [] k last from to pieces left r h e in
      let whole' = ap (λ t. read_whole Sink begin (t ++ joined pieces')) (sym none')
      ∙ pieces-whole (record begin { exact_errors = exact_errors; errors = errors }) [] k' last' from' to' pieces' left' r' h' e' in
      one-state (read_whole Sink begin (joined pieces)) (Sink.view left) (Sink.view left') whole (ap (read_whole Sink begin) text ∙ whole')
