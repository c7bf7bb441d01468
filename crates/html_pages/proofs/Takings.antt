-- What parsers make of texts that they take in pieces.
use Rattle.std.proofs.Common.{◌≡◌, ◌∙◌, ◌++◌, ℕ, List, [], Option, Result, Ok}
use Rattle.std.proofs.Common.{Err, None, IsUtf8, append_assoc, append-nil, ap, refl, subst, sym}
use Rattle.std.specs.Prelude.{IfErr, OnOk}
use Rattle.std.specs.Str.{chars}
use Rattle.std.proofs.lemmas.Str.{IsUtf8-append, chars-append, chars-nil}
use Rattle.markup.specs.declared.fault.ParseFault.{ParseFault}
use Rattle.markup.specs.declared.fault.ParseFault.TheVariants as parse
use Rattle.markup.specs.declared.tree_sink.TreeSink.{Ghosts as TreeGhosts}
use Rattle.html_normal.specs.Faults.{fault_of}
use Rattle.html_normal.specs.declared.fault.NormalFault.TheVariants.{Memory}
use Rattle.html_normal.proofs.Meanings.{finish-fault}
use Rattle.html_parser.specs.Documents.{Begins, Finishes, IsBuilt, builder}
use Rattle.html_parser.specs.Read.{Beginning, FailsAfter, ReadsOn, TakesText, stopped_by}
use Rattle.html_parser.specs.declared.parser.Parser.{Parser}
use Rattle.html_parser.proofs.Feeds.{fails-on, reads-both, reads-no_more, reads-same}
use Rattle.html_rules.specs.State.{State}
use Rattle.html_tokenizer.specs.Calls.{IsReadyIf, refusal_of}
use Rattle.html_pages.specs.Pieces.{IsOpen}
use Rattle.html_pages.proofs.Parsed.{memory-alone}

module _ {K H O : Type 0} (Sink : TreeGhosts K H O) where
  abbrev stopped : Parser K H O → Option ParseFault
  stopped p = stopped_by p.has_failed (refusal_of p.tokenizer)

  -- ONE PIECE

  pub piece-read : (old new : Parser K H O) (text : List ℕ) (result : Result (Unit {0}) ParseFault) → IsOpen Sink old
      → TakesText (builder Sink) (stopped old) (stopped new) old.tokenizer new.tokenizer old.input_buffer new.input_buffer text result
      → OnOk result (ReadsOn (builder Sink) old.tokenizer new.tokenizer text)
  piece-read old new text (Ok x) free takes =
      let t = rw free.begun at takes in
      subst (λ (cs : List ℕ). ReadsOn (builder Sink) old.tokenizer new.tokenizer (cs ++ text)) free.empty t.0
  piece-read old new text (Err fault) free takes = tt

  pub piece-free : (old new : Parser K H O) (text : List ℕ) (result : Result (Unit {0}) ParseFault) → IsOpen Sink old
      → TakesText (builder Sink) (stopped old) (stopped new) old.tokenizer new.tokenizer old.input_buffer new.input_buffer text result
      → IsReadyIf (builder Sink) (stopped new) new.tokenizer → OnOk result (IsOpen Sink new)
  piece-free old new text (Ok x) free takes ready =
      let t = rw free.begun at takes in
      record { begun = t.2; ready = rw t.2 at ready; empty = t.1 }
  piece-free old new text (Err fault) free takes ready = tt

  pub piece-failed : (old new : Parser K H O) (text : List ℕ) (result : Result (Unit {0}) ParseFault) → IsOpen Sink old
      → TakesText (builder Sink) (stopped old) (stopped new) old.tokenizer new.tokenizer old.input_buffer new.input_buffer text result
      → IfErr result (FailsAfter (builder Sink) old.tokenizer)
  piece-failed old new text (Ok x) free takes = tt
  piece-failed old new text (Err fault) free takes = let t = rw free.begun at takes in t.1

  -- out of memory says nothing more
  pub memory-fails : (p : Parser K H O) → FailsAfter (builder Sink) p.tokenizer parse.Memory
  memory-fails p = record { refused = λ refusal begin before read. absurd refusal; failed = λ is. absurd cc }

  -- SOME PIECES

  -- of a text in pieces some were read
  pub record Goes (old now : Parser K H O) (text rest : List ℕ) : Type 0 where
    pub front : List ℕ
    pub utf8 : IsUtf8 front
    pub whole : front ++ rest ≡ text
    pub reads : ReadsOn (builder Sink) old.tokenizer now.tokenizer (chars front)
    pub free : IsOpen Sink now

  pub goes-first : (p : Parser K H O) (text : List ℕ) → IsUtf8 [] → IsOpen Sink p → Goes p p text text
  goes-first p text empty free = record {
    front = [];
    utf8 = empty;
    whole = refl;
    reads = reads-same (builder Sink) p.tokenizer p.tokenizer [] (chars []) (sym chars-nil) (reads-no_more (builder Sink) p.tokenizer);
    free = free;
  }

  pub goes-on : (old now new : Parser K H O) (text piece from rest : List ℕ) → Goes old now text from → from ≡ piece ++ rest
      → IsUtf8 piece → ReadsOn (builder Sink) now.tokenizer new.tokenizer (chars piece) → IsOpen Sink new → Goes old new text rest
  goes-on old now new text piece from rest g split utf8 reads free = record {
    front = g.front ++ piece;
    utf8 = IsUtf8-append g.front piece g.utf8 utf8;
    whole = append_assoc g.front piece rest ∙ (ap (λ (bs : List ℕ). g.front ++ bs) (sym split) ∙ g.whole);
    reads = reads-same (builder Sink) old.tokenizer new.tokenizer (chars g.front ++ chars piece) (chars (g.front ++ piece))
        (sym (chars-append g.front piece g.utf8))
        (reads-both (builder Sink) old.tokenizer now.tokenizer new.tokenizer (chars g.front) (chars piece) g.reads reads);
    free = free;
  }

  pub goes-whole : (old now : Parser K H O) (text rest : List ℕ) → Goes old now text rest → rest ≡ []
      → ReadsOn (builder Sink) old.tokenizer now.tokenizer (chars text)
  goes-whole old now text rest g none =
      let all : g.front ≡ text = sym (append-nil g.front) ∙ (ap (λ (bs : List ℕ). g.front ++ bs) (sym none) ∙ g.whole) in
      reads-same (builder Sink) old.tokenizer now.tokenizer (chars g.front) (chars text) (ap chars all) g.reads

  pub goes-failed : (old now : Parser K H O) (text rest : List ℕ) (fault : ParseFault) → Goes old now text rest
      → FailsAfter (builder Sink) now.tokenizer fault → FailsAfter (builder Sink) old.tokenizer fault
  goes-failed old now text rest fault g fails = fails-on (builder Sink) old.tokenizer now.tokenizer (chars g.front) fault g.reads fails

  -- ALL

  module _ (begin : Beginning State) (old : Parser K H O) (begins : Begins Sink begin old.has_failed old.tokenizer old.input_buffer) where
    pub all-built : (new : Parser K H O) (text : List ℕ) (out : O) → ReadsOn (builder Sink) old.tokenizer new.tokenizer text
        → IsOpen Sink new → Finishes Sink (stopped new) new.tokenizer new.input_buffer.characters (Ok out) → IsBuilt Sink begin text out
    all-built new text out reads free gives =
        let given = rw free.begun at gives in
        let built = given begin text (reads.reads begin [] begins.starts.read) in
        subst (λ (cs : List ℕ). IsBuilt Sink begin cs out) (ap (λ (cs : List ℕ). text ++ cs) free.empty ∙ append-nil text) built

    pub only-memory : (fault : ParseFault) → FailsAfter (builder Sink) old.tokenizer fault → fault_of fault ≡ Memory
    only-memory fault fails =
        memory-alone fault (finish-fault (builder Sink) fault None None begin [] old.tokenizer begins.starts.read begins.taken fails)

  pub finish-failed : (old new : Parser K H O) (text : List ℕ) (fault : ParseFault)
      → ReadsOn (builder Sink) old.tokenizer new.tokenizer text → IsOpen Sink new
      → Finishes {O = O} Sink (stopped new) new.tokenizer new.input_buffer.characters (Err fault)
      → FailsAfter (builder Sink) old.tokenizer fault
  finish-failed old new text fault reads free gives =
      let given = rw free.begun at gives in
      fails-on (builder Sink) old.tokenizer new.tokenizer text fault reads given

  pub is-free : (begin : Beginning State) (p : Parser K H O) → Begins Sink begin p.has_failed p.tokenizer p.input_buffer → IsOpen Sink p
  is-free begin p begins =
      let ready = begins.starts.ready in
      record { begun = begins.starts.begun; ready = rw begins.starts.begun at ready; empty = begins.starts.empty }
