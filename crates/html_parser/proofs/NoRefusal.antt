-- No text is refused by a parser.
use Rattle.std.proofs.Common.{◌≡◌, ◌∙◌, ℕ, Bool, true, false, true≢false, List, [], ◌++◌, Option, Some, None, Result, Ok, Err}
use Rattle.std.proofs.Common.{refl, sym, ap, subst}
use Rattle.std.specs.Prelude.{IfErr, IfSome, IsErr, IsOk}
use Rattle.html_queue.specs.Queue.{Queue}
use Rattle.markup.specs.declared.fault.ParseFault.{ParseFault}
use Rattle.markup.specs.declared.fault.ParseFault.TheVariants.{Memory, TokenInText, Ended, Shape, Failed}
use Rattle.markup.specs.declared.tree_sink.TreeSink.{Ghosts as TreeGhosts}
use Rattle.html_rules.specs.State.{State}
use Rattle.html_tokens.specs.Sink.{IsRefusal}
use Rattle.html_tokenizer.specs.Calls.{refusal_of}
use Rattle.html_tokenizer.specs.declared.tokenizer.Tokenizer.{Tokenizer}
use Rattle.html_tree_builder.specs.declared.builder.TreeBuilder.{TreeBuilder}
use Rattle.html_parser.specs.Documents.{Begins, Finishes, TellsError, builder}
use Rattle.html_parser.specs.Laws.{HasReadTaken, IsNoTextRefused, TakesEach, only_fault}
use Rattle.html_parser.specs.Read.{Beginning, FailsAfter, TakesText, after_error, stopped_by}

not-both : {A F : Type 0} (r : Result A F) → IsErr r → IsOk r → ⊥
not-both (Ok x) h k = absurd cc
not-both (Err e) h k = absurd cc

-- what is neither a refusal of a token nor tells an earlier fault is want of memory
memory-is : (fault : ParseFault) → (IsRefusal fault → ⊥) → (fault ≡ Failed → ⊥) → fault ≡ Memory
memory-is Memory h k = refl
memory-is TokenInText h k = absurd (h tt)
memory-is Ended h k = absurd (h tt)
memory-is Shape h k = absurd (h tt)
memory-is Failed h k = absurd (k refl)

-- what has not failed had not
had-not : (failed fails : Bool) → (fails ≡ true → failed ≡ true) → failed ≡ false → fails ≡ false
had-not failed true h works = absurd (true≢false (sym (h refl) ∙ works))
had-not failed false h works = refl

-- of what answers a fault
fault-is : {A : Type 0} (result : Result A ParseFault) (fault : ParseFault) → result ≡ Err fault → IfErr result (λ x. x ≡ fault)
fault-is result fault e = subst (λ r. IfErr r (λ x. x ≡ fault)) (sym e) refl

module _ {K H O : Type 0} (Sink : TreeGhosts K H O) where
  memory-alone : (k : Tokenizer (TreeBuilder K H O)) (fault : ParseFault) → HasReadTaken Sink k
      → FailsAfter (builder Sink) k fault → fault ≡ Memory
  memory-alone k fault h fails = memory-is fault
      (λ r. let refused = fails.refused r h.begin h.before h.read in not-both _ refused.is (h.taken (h.before ++ refused.behind)))
      (λ e. true≢false (sym (fails.failed e) ∙ h.works))

  begins : (begin : Beginning State) (has_failed : Bool) (k : Tokenizer (TreeBuilder K H O)) (input : Queue)
      → Begins Sink begin has_failed k input → TakesEach Sink (stopped_by has_failed (refusal_of k)) k
  begins begin has_failed k input b = rw b.starts.begun (record {
    begin = begin;
    before = [];
    read = b.starts.read;
    taken = b.taken;
    works = b.starts.works;
  })

  finishes : (stopped : Option ParseFault) (k : Tokenizer (TreeBuilder K H O)) (text : List ℕ) (result : Result O ParseFault)
      → TakesEach Sink stopped k → Finishes Sink stopped k text result → IfErr result (λ fault. fault ≡ only_fault stopped)
  finishes None k text (Ok output) h f = tt
  finishes None k text (Err fault) h f = memory-alone k fault h f
  finishes (Some fault) k text result h f = fault-is result fault f

  takes : (stopped left : Option ParseFault) (old new : Tokenizer (TreeBuilder K H O)) (from to : Queue)
      (text : List ℕ) (result : Result (Unit {0}) ParseFault)
      → TakesEach Sink stopped old → TakesText (builder Sink) stopped left old new from to text result
      → IfErr result (λ fault. fault ≡ only_fault stopped)
  takes None left old new from to text (Ok x) h t = tt
  takes None left old new from to text (Err fault) h t = memory-alone old fault h t.1
  takes (Some fault) left old new from to text result h t = fault-is result fault t.0

  keeps : (stopped left : Option ParseFault) (old new : Tokenizer (TreeBuilder K H O)) (from to : Queue)
      (text : List ℕ) (result : Result (Unit {0}) ParseFault)
      → TakesEach Sink stopped old → TakesText (builder Sink) stopped left old new from to text result
      → ((fault : ParseFault) → stopped ≡ Some fault → new ≡ old → left ≡ Some fault) → TakesEach Sink left new
  keeps None left old new from to text (Ok x) h t same = rw t.2 (record {
    begin = h.begin;
    before = h.before ++ (from.characters ++ text);
    read = t.0.reads h.begin h.before h.read;
    taken = h.taken;
    works = had-not old.sink.has_failed new.sink.has_failed t.0.works h.works;
  })
  keeps None left old new from to text (Err fault) h t same = rw t.0 tt
  keeps (Some fault) left old new from to text result h t same = rw (same fault refl t.1) tt

  -- where a call is stopped, so is the next
  still : (failed fails : Bool) (old new : Tokenizer (TreeBuilder K H O))
      → IfSome (stopped_by failed (refusal_of old)) (λ _. fails ≡ failed) → (fault : ParseFault)
      → stopped_by failed (refusal_of old) ≡ Some fault → new ≡ old → stopped_by fails (refusal_of new) ≡ Some fault
  still failed fails old new h fault e same =
      let k : fails ≡ failed = subst (λ o. IfSome o (λ _. fails ≡ failed)) e h in
      ap (λ b. stopped_by b (refusal_of new)) k ∙ (ap (λ (x : Tokenizer (TreeBuilder K H O)). stopped_by failed (refusal_of x)) same ∙ e)

  errs : (stopped : Option ParseFault) (old new : Tokenizer (TreeBuilder K H O)) → TakesEach Sink stopped old
      → TellsError Sink old new → TakesEach Sink stopped new
  errs None old new h t = record {
    begin = after_error h.begin;
    before = h.before;
    read = t.read h.begin h.before h.read;
    taken = h.taken;
    works = ap (λ (x : Tokenizer (TreeBuilder K H O)). x.sink.has_failed) t.same ∙ h.works;
  }
  errs (Some fault) old new h t = tt

  pub no-refusal : IsNoTextRefused Sink
  no-refusal = record {
    begins = begins;
    process = λ failed fails old new from to text result h t same. (
      keeps _ _ old new from to text result h t (still failed fails old new same),
      takes _ _ old new from to text result h t,
    );
    error = λ failed old new h t. subst
        (λ (x : Tokenizer (TreeBuilder K H O)). TakesEach Sink (stopped_by failed (refusal_of x)) new) (sym t.same) (errs _ old new h t);
    finish = λ failed k text result h f. finishes _ k text result h f;
  }
