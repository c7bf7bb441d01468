-- An error that is told changes nothing of what was read.
use Rattle.std.proofs.Common.{◌≡◌, ◌∙◌, ◌++◌, Option, Some, None, refl, ap, subst, sym}
use Rattle.markup.specs.Forest.{Forest, add_error}
use Rattle.markup.specs.declared.fault.ParseFault.{ParseFault}
use Rattle.markup.specs.declared.tree_sink.TreeSink.{Ghosts as TreeGhosts}
use Rattle.html_rules_laws.specs.Usable.{Usable}
use Rattle.html_rules.specs.State.{hushed}
use Rattle.html_tokens.specs.Notes.{noting_error, without_notes}
use Rattle.html_tokens.specs.Reading.{erred_by}
use Rattle.html_tokenizer.specs.Calls.{IsReadyIf}
use Rattle.html_tokenizer.specs.Rest.{coming, fault_after, pending, rest}
use Rattle.html_tokenizer.specs.declared.tokenizer.Tokenizer.{Tokenizer}
use Rattle.html_tokenizer.proofs.Steps.Keeping.{held-other}
use Rattle.html_tree_builder.specs.States.{built}
use Rattle.html_tree_builder.specs.declared.builder.TreeBuilder.{TreeBuilder}
use Rattle.html_parser.specs.Documents.{TellsError, builder}
use Rattle.html_parser.specs.Read.{KeepsRead}
use Rattle.html_parser.proofs.Rising.{rises-behind}
use Rattle.html_tokenizer.specs.Listeners.{listening}

module _ {K H O : Type 0} (Sink : TreeGhosts K H O) where
  -- the state that a builder stands for doesn't see errors
  view-counted : (b : TreeBuilder K H O) (sink : K) → Sink.forest sink ≡ add_error (Sink.forest b.sink)
      → (builder Sink).view (record b { sink = sink }) ≡ (builder Sink).view b
  view-counted b sink e = ap (λ (f : Forest). hushed (built Sink b.construction f)) e

  abbrev with_sink : Tokenizer (TreeBuilder K H O) → K → Tokenizer (TreeBuilder K H O)
  with_sink k sink = record k { sink = record k.sink { sink = sink } }

  read-counted : (k : Tokenizer (TreeBuilder K H O)) (sink : K) → Sink.forest sink ≡ add_error
      (Sink.forest k.sink.sink) → KeepsRead (builder Sink) k (with_sink k sink)
  read-counted k sink e begin before r = let b = builder Sink in record {
    notes = r.notes;
    same = λ t.
        ap (λ v. without_notes (rest (listening b) (with_sink k sink) (v, r.notes) t)) (view-counted k.sink sink e)
        ∙ ap without_notes (held-other (listening b) k.state k (record k.sink { sink = sink }) k.stream
        k.stream.breaks (erred_by noting_error (fault_after k.char_ref) (b.view k.sink, r.notes))
        (pending k.char_ref ++ coming k t) refl)
        ∙ r.same t;
    noted = λ t.
        ap (λ v. rest (listening b) (with_sink k sink) (v, r.notes) t) (view-counted k.sink sink e)
        ∙ held-other (listening b) k.state k (record k.sink { sink = sink }) k.stream k.stream.breaks
        (erred_by noting_error (fault_after k.char_ref) (b.view k.sink, r.notes)) (pending k.char_ref ++ coming k t) refl
        ∙ r.noted t;
    came = r.came;
    comes = r.comes;
    exact = r.exact;
    rises = rises-behind begin.errors (Sink.forest k.sink.sink).errors (Sink.forest sink).errors (ap (λ (f : Forest). f.errors) e) r.rises;
  }

  ready-counted : (k : Tokenizer (TreeBuilder K H O)) (sink : K) → Sink.forest sink ≡ add_error
      (Sink.forest k.sink.sink) → (refused : Option ParseFault) → IsReadyIf (builder Sink) refused k
      → IsReadyIf (builder Sink) refused (with_sink k sink)
  ready-counted k sink e None ready = record { sound = subst Usable (sym (view-counted k.sink sink e)) ready.sound; fits = ready.fits }
  ready-counted k sink e (Some fault) ready = tt

  -- what a call leaves that tells an error
  pub tells-error : (k : Tokenizer (TreeBuilder K H O)) (sink : K) → Sink.forest sink ≡ add_error
      (Sink.forest k.sink.sink) → TellsError Sink k (with_sink k sink)
  tells-error k sink e = record { counts = e; same = refl; read = read-counted k sink e; ready = ready-counted k sink e }
