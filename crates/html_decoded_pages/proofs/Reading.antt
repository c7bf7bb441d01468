-- What a tokenizer that has gone so far leaves at the end.
use Rattle.std.proofs.Common.{◌≡◌, ◌∙◌, ℕ, List, [], ◌++◌, Some, None, Result, Ok, Err, append_assoc, append-nil, refl, sym}
use Rattle.std.proofs.Common.{ap, subst}
use Rattle.std.specs.Prelude.{IfErr, IfOk, IsOk, OnOk}
use Rattle.std.specs.Str.{IsUtf8, chars}
use Rattle.std.proofs.lemmas.Str.{chars-append, chars-nil}
use Rattle.markup.specs.declared.fault.ParseFault.{ParseFault}
use Rattle.markup.specs.declared.fault.ParseFault.TheVariants.{Memory}
use Rattle.html_queue.specs.Queue.{Queue}
use Rattle.html_tokens.specs.Notes.{Notes, pauses_of, without_notes}
use Rattle.html_tokens.specs.Sink.{Reply}
use Rattle.html_tokens.specs.declared.sink.TokenSink.{Ghosts}
use Rattle.html_tokenizer.specs.Calls.{EndGives, refusal_of, to_come}
use Rattle.html_tokenizer.specs.declared.tokenizer.Tokenizer.{Tokenizer}
use Rattle.html_parser.specs.Read.{Beginning, FailsAfter, HasRead, IsLeft, ReadsOn, note_whole, read_whole}
use Rattle.html_parser.proofs.Feeds.{end-answered, fails-on, reads-both, reads-no_more, reads-same}
use Rattle.html_encodings.specs.declared.names.Encoding.{Encoding}
use Rattle.html_decoded_pages.specs.Changing.{changed_to, first_named, named_by, settled}
use Rattle.html_decoded_pages.specs.Pauses.{Ends, Goes, GoesOn, HasPaused, IsBefore, IsFree, Meets, settled_by}
use Rattle.html_decoded_pages.proofs.Fronts.{Begins, data-front}
use Rattle.html_decoded_pages.proofs.Named.{named-before}

abbrev nothing : Queue
nothing = record { characters = []; taken = 0 }

still-ok : {S F : Type 0} (r : Result (S × Notes ℕ) (F × ℕ)) → IsOk (without_notes r) → IsOk r
still-ok (Ok p) h = refl
still-ok (Err e) h = absurd cc

-- what is named by the first of the pauses is named by all
named-front : {S F : Type 0} (pauses : List Reply) (r : Result (S × Notes ℕ) (F × ℕ)) (encoding : Encoding)
    → first_named pauses ≡ Some encoding → IsOk r → IfOk r (λ p. Begins pauses p.1.pauses) → named_by (pauses_of r) ≡ Some encoding
named-front pauses (Ok p) encoding is ok front = ap first_named front.is ∙ named-before pauses front.more encoding is
named-front pauses (Err e) encoding is ok front = absurd cc

module _ {K H : Type 0} (Sink : Ghosts K H) where
  -- the end was read
  pub ends-well : (k new : Tokenizer K) → IsFree Sink k → EndGives Sink (refusal_of k) k new (Ok tt) → Ends Sink k new.sink
  ends-well k new free gives =
      let ended = rw free.begun at gives in
      let all = end-answered Sink None k k new nothing nothing (Ok tt) (reads-no_more Sink k, refl, free.begun) gives in
      record {
        left = λ begin text read. subst (λ t. IsLeft Sink begin t new.sink) (append-nil text) (all begin text read);
        pauses = λ begin text pauses p.
            ap pauses_of (ap (note_whole Sink begin) (sym (append-nil text)) ∙ (sym (p.noted []) ∙ ended.same p.notes))
            ∙ ap (λ ps. Ok ps) p.are;
      }

  pub ends-badly : (k new : Tokenizer K) (fault : ParseFault) → IsFree Sink k → EndGives Sink (refusal_of k) k new (Err fault)
      → FailsAfter Sink k fault
  ends-badly k new fault free gives =
      end-answered Sink None k k new nothing nothing (Err fault) (reads-no_more Sink k, refl, free.begun) gives

  -- some of an input was read
  pub record Reaches (old now : Tokenizer K) (from input : Queue) : Type 0 where
    pub front : List ℕ
    pub whole : front ++ input.characters ≡ from.characters
    pub reads : ReadsOn Sink old now front
    pub free : IsFree Sink now

  pub reaches-first : (k : Tokenizer K) (input : Queue) → IsFree Sink k → Reaches k k input input
  reaches-first k input free = record { front = []; whole = refl; reads = reads-no_more Sink k; free = free }

  pub reaches-on : (old now new : Tokenizer K) (from input to : Queue) (added : List Reply) → Reaches old now from input
      → Goes Sink now new input.characters to.characters added → Reaches old new from to
  reaches-on old now new from input to added r g = record {
    front = r.front ++ g.front;
    whole = append_assoc r.front g.front to.characters ∙ (ap (λ t. r.front ++ t) g.whole ∙ r.whole);
    reads = reads-both Sink old now new r.front g.front r.reads g.reads;
    free = g.free;
  }

  -- all of it was
  pub reaches-end : (old new : Tokenizer K) (from to : Queue) → Reaches old new from to → to.characters ≡ []
      → GoesOn Sink old new from.characters
  reaches-end old new from to r none = record {
    reads = reads-same Sink old new r.front from.characters
        (sym (append-nil r.front) ∙ (ap (λ t. r.front ++ t) (sym none) ∙ r.whole)) r.reads;
    free = r.free;
  }

  pub reaches-fault : (old now : Tokenizer K) (from input : Queue) (fault : ParseFault) → Reaches old now from input
      → FailsAfter Sink now fault → FailsAfter Sink old fault
  reaches-fault old now from input fault r fails = fails-on Sink old now r.front fault r.reads fails

  -- what has gone so far fails where what is left does
  pub goes-fault : (old new : Tokenizer K) (from to : List ℕ) (added : List Reply) (fault : ParseFault) → Goes Sink old new from to added
      → FailsAfter Sink new fault → FailsAfter Sink old fault
  goes-fault old new from to added fault g fails = fails-on Sink old new g.front fault g.reads fails

  module _ (begin : Beginning Sink.State) (k : Tokenizer K) (before : IsBefore Sink begin k) where
    note-ok : (text : List ℕ) → IsOk (note_whole Sink begin text)
    note-ok text =
        let alike : without_notes (note_whole Sink begin text) ≡ read_whole Sink begin text =
        ap without_notes (sym (before.read.noted text)) ∙ before.read.same text in
        still-ok (note_whole Sink begin text) (subst (λ r. IsOk r) (sym alike) (before.taken text))

    -- with which pauses an input was read that is all of the text
    paused-alone : (new : Tokenizer K) (from to : List ℕ) (added : List Reply) → Goes Sink k new from to added
        → HasPaused Sink begin from added new to
    paused-alone new from to added g = subst (λ cs. HasPaused Sink begin from added new cs) (append-nil to)
        (g.pauses begin from [] [] (subst (λ cs. HasPaused Sink begin from [] k cs) (sym (append-nil from)) (before.paused from)))

    -- what was named is what the whole text names first
    named-met : (new : Tokenizer K) (from to : List ℕ) (encoding : Encoding) → Meets Sink k new from to (Some encoding)
        → named_by (pauses_of (note_whole Sink begin from)) ≡ Some encoding
    named-met new from to encoding m =
        let p = paused-alone new from to m.added m.goes in
        let whole : to_come Sink new p.notes (to ++ []) ≡ note_whole Sink begin from =
        p.noted [] ∙ ap (note_whole Sink begin) (append-nil from) in
        named-front p.notes.pauses (note_whole Sink begin from) encoding (ap first_named p.are ∙ m.first)
        (note-ok from)
        (subst (λ r. IfOk r (λ q. Begins p.notes.pauses q.1.pauses)) whole (data-front Sink new p.notes (to ++ []) m.stands.0))

    pub settles-on : (new : Tokenizer K) (from to : List ℕ) (named encoding : Encoding) → Meets Sink k new from to (Some named)
        → settled_by Sink begin from encoding ≡ changed_to encoding named
    unfolding settled_by
    settles-on new from to named encoding m = ap (settled encoding) (named-met new from to named m)

    read-all : (new : Tokenizer K) (text : List ℕ) → ReadsOn Sink k new text → HasRead Sink begin text new
    read-all new text reads = reads.reads begin [] before.read

    pub left-at-end : (new : Tokenizer K) (text : List ℕ) (left : K) → ReadsOn Sink k new text → Ends Sink new left
        → IsLeft Sink begin text left
    left-at-end new text left reads ends = ends.left begin text (read-all new text reads)

    -- where nothing is named, all was read in the encoding
    pub stays-in : (new : Tokenizer K) (from to : List ℕ) (left : K) (encoding : Encoding) → Meets Sink k new from to None
        → Ends Sink new left
        → IsLeft Sink begin from left × (settled_by Sink begin from encoding ≡ encoding)
    unfolding settled_by
    stays-in new from to left encoding m ends =
        let all = sym (append-nil m.goes.front) ∙ (ap (λ t. m.goes.front ++ t) (sym m.stands) ∙ m.goes.whole) in
        let p = paused-alone new from to m.added m.goes in
        let p' = subst (λ t. HasPaused Sink begin from m.added new t) m.stands p in (
          left-at-end new from left (reads-same Sink k new m.goes.front from all m.goes.reads) ends,
          ap (λ r. settled encoding (named_by r)) (ends.pauses begin from m.added p') ∙ ap (settled encoding) m.first,
        )

    -- where the encoding is named that it was read in, it was too
    pub stays-named : (mid new : Tokenizer K) (from to : List ℕ) (left : K) (named encoding : Encoding)
        → Meets Sink k mid from to (Some named) → GoesOn Sink mid new to → Ends Sink new left
        → changed_to encoding named ≡ encoding
        → IsLeft Sink begin from left × (settled_by Sink begin from encoding ≡ encoding)
    stays-named mid new from to left named encoding m on ends same = (
      left-at-end new from left
          (reads-same Sink k new (m.goes.front ++ to) from m.goes.whole
          (reads-both Sink k mid new m.goes.front to m.goes.reads on.reads)) ends,
      settles-on mid from to named encoding m ∙ same,
    )

-- all of a text was read, and then another
pub goes-both : {K H : Type 0} (Sink : Ghosts K H) (old mid new : Tokenizer K) (text more : List ℕ) → GoesOn Sink old mid text
    → GoesOn Sink mid new more → GoesOn Sink old new (text ++ more)
goes-both Sink old mid new text more a b = record { reads = reads-both Sink old mid new text more a.reads b.reads; free = b.free }

module _ {K H : Type 0} (Sink : Ghosts K H) where
  -- of a text that comes in pieces some were read
  pub record HasReached (old now : Tokenizer K) (from rest : List ℕ) : Type 0 where
    pub front : List ℕ
    pub whole : front ++ rest ≡ from
    pub reads : ReadsOn Sink old now front
    pub free : IsFree Sink now

  pub reached-none : (k : Tokenizer K) (text : List ℕ) → IsFree Sink k → HasReached k k text text
  reached-none k text free = record { front = []; whole = refl; reads = reads-no_more Sink k; free = free }

  pub reached-more : (old now new : Tokenizer K) (from mid part rest : List ℕ) → HasReached old now from mid → mid ≡ part ++ rest
      → GoesOn Sink now new part → HasReached old new from rest
  reached-more old now new from mid part rest r split on = record {
    front = r.front ++ part;
    whole = append_assoc r.front part rest ∙ (ap (λ cs. r.front ++ cs) (sym split) ∙ r.whole);
    reads = reads-both Sink old now new r.front part r.reads on.reads;
    free = on.free;
  }

  pub reached-all : (old now : Tokenizer K) (from mid : List ℕ) → HasReached old now from mid → mid ≡ [] → GoesOn Sink old now from
  reached-all old now from mid r none = record {
    reads = reads-same Sink old now r.front from (sym (append-nil r.front) ∙ (ap (λ cs. r.front ++ cs) (sym none) ∙ r.whole)) r.reads;
    free = r.free;
  }

  pub reached-fault : (old now : Tokenizer K) (from mid : List ℕ) (fault : ParseFault) → HasReached old now from mid
      → FailsAfter Sink now fault → FailsAfter Sink old fault
  reached-fault old now from mid fault r fails = fails-on Sink old now r.front fault r.reads fails

  -- out of memory says nothing more
  pub memory-fails : (k : Tokenizer K) → FailsAfter Sink k Memory
  memory-fails k = record { refused = λ refusal begin before read. absurd refusal; failed = λ is. absurd cc }

  pub on-fault : (k : Tokenizer K) (fault : ParseFault) → fault ≡ Memory → FailsAfter Sink k fault
  on-fault k fault is = subst (λ f. FailsAfter Sink k f) (sym is) (memory-fails k)

-- the characters of a piece and of what follows it
pub chars-split : (mid piece rest : List ℕ) → mid ≡ piece ++ rest → IsUtf8 piece → chars mid ≡ chars piece ++ chars rest
chars-split mid piece rest split utf8 = ap chars split ∙ chars-append piece rest utf8

pub chars-none : (mid : List ℕ) → mid ≡ [] → chars mid ≡ []
chars-none mid none = ap chars none ∙ chars-nil

module _ {K H : Type 0} (Sink : Ghosts K H) (old mid new : Tokenizer K) (text : List ℕ) (on : GoesOn Sink old mid text) where
  -- what comes of the rest
  pub rest-read : (more : List ℕ) (result : Result (Unit {0}) ParseFault) → OnOk result (GoesOn Sink mid new more)
      → OnOk result (GoesOn Sink old new (text ++ more))
  rest-read more (Ok x) is = goes-both Sink old mid new text more on is
  rest-read more (Err fault) is = tt

  pub rest-failed : (result : Result (Unit {0}) ParseFault) → IfErr result (FailsAfter Sink mid) → IfErr result (FailsAfter Sink old)
  rest-failed (Ok x) is = tt
  rest-failed (Err fault) is = fails-on Sink old mid text fault on.reads is
