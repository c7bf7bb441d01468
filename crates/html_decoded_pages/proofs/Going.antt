-- How far a tokenizer has gone, and with which pauses.
use Rattle.std.proofs.Common.{◌≡◌, ◌∙◌, ℕ, ◌<◌, List, [], ◌∷◌, ◌++◌, length, Some, None, Ok, Err}
use Rattle.std.proofs.Common.{append_assoc, append-nil, length-append, arith, refl, sym, ap, subst, encode_utf8_all}
use Rattle.markup.specs.declared.fault.ParseFault.{ParseFault}
use Rattle.markup.specs.declared.tokenizer_result.TokenizerResult.{TokenizerResult}
use Rattle.markup.specs.declared.tokenizer_result.TokenizerResult.TheVariants.{Done, Script, EncodingIndicator}
use Rattle.html_queue.specs.Queue.{Queue}
use Rattle.html_tokens.specs.Notes.{no_notes}
use Rattle.html_tokens.specs.Sink.{Reply}
use Rattle.html_tokens.specs.Table.{Row}
use Rattle.html_tokens.specs.declared.options.TokenizerOpts.{TokenizerOpts}
use Rattle.html_tokens.specs.declared.replies.TokenSinkResult.TheVariants as reply
use Rattle.html_tokens.specs.declared.sink.TokenSink.{Ghosts}
use Rattle.html_tokenizer.specs.Calls.{Fed, FeedGives, IsNew, IsReadyIf, paused_with, refusal_of, to_come}
use Rattle.html_tokenizer.specs.Steps.{more}
use Rattle.html_tokenizer.specs.declared.tokenizer.Tokenizer.{Tokenizer}
use Rattle.html_parser.specs.Read.{Beginning, FailsAfter, beginning}
use Rattle.html_parser.proofs.Feeds.{Fronts, fails-on, feeding-failed, feeding-fed, hinted-shorter, reads-both, reads-no_more}
use Rattle.html_encodings.specs.Labels.{label_encoding}
use Rattle.html_encodings.specs.declared.names.Encoding.{Encoding}
use Rattle.html_decoded_pages.specs.Changing.{first_named, or_first}
use Rattle.html_decoded_pages.specs.Pauses.{Goes, HasPaused, IsFree, Meets}
use Rattle.html_decoded_pages.proofs.Named.{named-after}

module _ {K H : Type 0} (Sink : Ghosts K H) where
  -- the pause with which a call hands back control, if it does
  abbrev pub added_by : TokenizerResult H → List Reply
  added_by Done = []
  added_by (Script handle) = reply.Script (Sink.number handle) ∷ []
  added_by (EncodingIndicator label) = reply.EncodingIndicator label ∷ []

  pause-added : (pauses : List Reply) (result : TokenizerResult H) → paused_with Sink.number pauses result ≡ pauses ++ added_by result
  pause-added pauses Done = sym (append-nil pauses)
  pause-added pauses (Script handle) = refl
  pause-added pauses (EncodingIndicator label) = refl

  -- a call that reads on adds its pause
  paused-fed : (now new : Tokenizer K) (input to : Queue) (result : TokenizerResult H) (begin : Beginning Sink.State)
      (text behind : List ℕ) (earlier : List Reply) → Fed Sink now new input to result
      → HasPaused Sink begin text earlier now (input.characters ++ behind)
      → HasPaused Sink begin text (earlier ++ added_by result) new (to.characters ++ behind)
  paused-fed now new input to result begin text behind earlier fed p =
      let split : fed.taken ++ (to.characters ++ behind) ≡ input.characters ++ behind =
      sym (append_assoc fed.taken to.characters behind) ∙ ap (λ cs. cs ++ behind) (sym fed.takes.split) in
      record {
        notes = record (more fed.owed p.notes) { pauses = paused_with Sink.number p.notes.pauses result };
        are = pause-added p.notes.pauses result ∙ ap (λ ps. ps ++ added_by result) p.are;
        noted = λ t. sym (fed.same p.notes ((to.characters ++ behind) ++ t))
            ∙ (ap (to_come Sink now p.notes) (sym (append_assoc fed.taken (to.characters ++ behind) t) ∙ ap (λ cs. cs ++ t) split)
            ∙ p.noted t);
      }

  -- a tokenizer that is new has met no pause
  pub paused-nothing : (k : Tokenizer K) (sink : K) (opts : TokenizerOpts) (table : List Row) (text : List ℕ)
      → IsNew Sink k sink opts table
      → HasPaused Sink (beginning table opts (Sink.view sink) (Sink.errors sink)) text [] k text
  paused-nothing k sink opts table text new = record { notes = no_notes; are = refl; noted = λ t. new.same no_notes (text ++ t) }

  pub is-free : (k : Tokenizer K) → refusal_of k ≡ None → IsReadyIf Sink (refusal_of k) k → IsFree Sink k
  is-free k begun ready = record { begun = begun; ready = rw begun at ready }

  fronts-of : (old now : Tokenizer K) (from input : List ℕ) (earlier : List Reply) → Goes Sink old now from input earlier
      → Fronts Sink old now from input
  fronts-of old now from input earlier g = record { front = g.front; reads = g.reads; whole = g.whole; begun = g.free.begun }

  pub goes-nowhere : (k : Tokenizer K) (input : List ℕ) → IsFree Sink k → Goes Sink k k input input []
  goes-nowhere k input free = record {
    front = [];
    whole = refl;
    reads = reads-no_more Sink k;
    free = free;
    pauses = λ begin text behind earlier p. subst (λ ps. HasPaused Sink begin text ps k (input ++ behind)) (sym (append-nil earlier)) p;
  }

  -- what goes so far, and then through a part of what waits
  pub goes-through : (old now new : Tokenizer K) (from mid part rest to : List ℕ) (earlier added : List Reply)
      → Goes Sink old now from mid earlier → mid ≡ part ++ rest → Goes Sink now new part to added
      → Goes Sink old new from (to ++ rest) (earlier ++ added)
  goes-through old now new from mid part rest to earlier added g split h = record {
    front = g.front ++ h.front;
    whole = append_assoc g.front h.front (to ++ rest)
        ∙ (ap (λ cs. g.front ++ cs) (sym (append_assoc h.front to rest) ∙ (ap (λ cs. cs ++ rest) h.whole ∙ sym split)) ∙ g.whole);
    reads = reads-both Sink old now new g.front h.front g.reads h.reads;
    free = h.free;
    pauses = λ begin text behind before p.
        let there = g.pauses begin text behind before p in
        let parted : mid ++ behind ≡ part ++ (rest ++ behind) = ap (λ cs. cs ++ behind) split ∙ append_assoc part rest behind in
        let gone = h.pauses begin text (rest ++ behind) (before ++ earlier)
        (subst (λ cs. HasPaused Sink begin text (before ++ earlier) now cs) parted there) in
        let named = subst (λ ps. HasPaused Sink begin text ps new (to ++ (rest ++ behind))) (append_assoc before earlier added) gone in
        subst (λ cs. HasPaused Sink begin text (before ++ (earlier ++ added)) new cs) (sym (append_assoc to rest behind)) named;
  }

  goes-on : (old now new : Tokenizer K) (from input to : Queue) (earlier : List Reply) (result : TokenizerResult H)
      → Goes Sink old now from.characters input.characters earlier → FeedGives Sink (refusal_of now) now new input to (Ok result)
      → IsReadyIf Sink (refusal_of new) new → Goes Sink old new from.characters to.characters (earlier ++ added_by result)
  goes-on old now new from input to earlier result g gives ready =
      let f = feeding-fed Sink None old now new from input to result
      (fronts-of old now from.characters input.characters earlier g) gives in
      let fed = rw g.free.begun at gives in
      record {
        front = f.front;
        whole = f.whole;
        reads = f.reads;
        free = is-free new f.begun ready;
        pauses = λ begin text behind before p. subst (λ ps. HasPaused Sink begin text ps new (to.characters ++ behind))
            (append_assoc before earlier (added_by result))
            (paused-fed now new input to result begin text behind (before ++ earlier) fed (g.pauses begin text behind before p));
      }

  -- some of an input was read, and nothing was named
  pub record Seeks (old now : Tokenizer K) (from input : List ℕ) : Type 0 where
    pub earlier : List Reply
    pub goes : Goes Sink old now from input earlier
    pub none : first_named earlier ≡ None

  pub seeks-first : (k : Tokenizer K) (input : List ℕ) → IsFree Sink k → Seeks k k input input
  seeks-first k input free = record { earlier = []; goes = goes-nowhere k input free; none = refl }

  pub seeks-on : (old now new : Tokenizer K) (from input to : Queue) (result : TokenizerResult H)
      → Seeks old now from.characters input.characters
      → FeedGives Sink (refusal_of now) now new input to (Ok result) → IsReadyIf Sink (refusal_of new) new
      → first_named (added_by result) ≡ None → Seeks old new from.characters to.characters
  seeks-on old now new from input to result s gives ready none = record {
    earlier = s.earlier ++ added_by result;
    goes = goes-on old now new from input to s.earlier result s.goes gives ready;
    none = named-after s.earlier (added_by result) s.none ∙ none;
  }

  pub seeks-failed : (old now new : Tokenizer K) (from input to : Queue) (fault : ParseFault)
      → Seeks old now from.characters input.characters
      → FeedGives Sink (refusal_of now) now new input to (Err fault) → FailsAfter Sink old fault
  seeks-failed old now new from input to fault s gives =
      (feeding-failed Sink None old now new from input to fault
      (fronts-of old now from.characters input.characters s.earlier s.goes) gives).1

  -- all was read
  pub meets-none : (old now new : Tokenizer K) (from input to : Queue) → Seeks old now from.characters input.characters
      → FeedGives Sink (refusal_of now) now new input to (Ok Done) → IsReadyIf Sink (refusal_of new) new
      → Meets Sink old new from.characters to.characters None
  meets-none old now new from input to s gives ready =
      let s' = seeks-on old now new from input to Done s gives ready refl in
      let fed = rw s.goes.free.begun at gives in
      record { added = s'.earlier; goes = s'.goes; first = s'.none; stands = fed.left.0 }

  shorter-than : (a b c front : List ℕ) → front ++ b ≡ a → length c < length b → length c < length a
  shorter-than a b c front whole less = let e = simp length-append at (ap length whole) in omega arith

  -- an encoding was named
  pub meets-one : (old now new : Tokenizer K) (from input to : Queue) (label : List ℕ) (encoding : Encoding)
      → Seeks old now from.characters input.characters
      → FeedGives Sink (refusal_of now) now new input to (Ok (EncodingIndicator label)) → IsReadyIf Sink (refusal_of new) new
      → label_encoding (encode_utf8_all label) ≡ Some encoding → Meets Sink old new from.characters to.characters (Some encoding)
  meets-one old now new from input to label encoding s gives ready named =
      let fed = rw s.goes.free.begun at gives in
      record {
        added = s.earlier ++ added_by (EncodingIndicator label);
        goes = goes-on old now new from input to s.earlier (EncodingIndicator label) s.goes gives ready;
        first = named-after s.earlier (added_by (EncodingIndicator label)) s.none ∙ ap (λ o. or_first o None) named;
        stands = (
          fed.left.1,
          shorter-than from.characters input.characters to.characters s.goes.front s.goes.whole
              (hinted-shorter Sink now new input to label gives),
        );
      }

  -- IN PIECES

  -- a piece in which nothing is named
  pub seeks-past : (old now new : Tokenizer K) (from mid part rest to : List ℕ) → Seeks old now from mid → mid ≡ part ++ rest
      → Meets Sink now new part to None → Seeks old new from rest
  seeks-past old now new from mid part rest to s split m = record {
    earlier = s.earlier ++ m.added;
    goes = subst (λ cs. Goes Sink old new from (cs ++ rest) (s.earlier ++ m.added)) m.stands
        (goes-through old now new from mid part rest to s.earlier m.added s.goes split m.goes);
    none = named-after s.earlier m.added s.none ∙ m.first;
  }

  -- one in which an encoding is named
  pub meets-within : (old now new : Tokenizer K) (from mid part rest to : List ℕ) (encoding : Encoding) → Seeks old now from mid
      → mid ≡ part ++ rest → Meets Sink now new part to (Some encoding) → Meets Sink old new from (to ++ rest) (Some encoding)
  meets-within old now new from mid part rest to encoding s split m =
      let before = length-append s.goes.front mid in
      let whole = ap length s.goes.whole in
      let parted = ap length split in
      let all = length-append part rest in
      let left = length-append to rest in
      let less : length to < length part = m.stands.1 in
      record {
        added = s.earlier ++ m.added;
        goes = goes-through old now new from mid part rest to s.earlier m.added s.goes split m.goes;
        first = named-after s.earlier m.added s.none ∙ m.first;
        stands = (m.stands.0, omega arith);
      }

  -- the end of the pieces
  pub meets-end : (old now : Tokenizer K) (from input mid : List ℕ) → Seeks old now from mid → mid ≡ [] → input ≡ []
      → Meets Sink old now from (input ++ mid) None
  meets-end old now from input mid s none empty = subst (λ cs. Meets Sink old now from (cs ++ mid) None) (sym empty)
      (record { added = s.earlier; goes = s.goes; first = s.none; stands = none })

  -- what comes up to a fault
  pub seeks-fault : (old now : Tokenizer K) (from mid : List ℕ) (fault : ParseFault) → Seeks old now from mid
      → FailsAfter Sink now fault → FailsAfter Sink old fault
  seeks-fault old now from mid fault s fails = fails-on Sink old now s.goes.front fault s.goes.reads fails
