-- What is noted of a reading begins with what was noted before.
use Rattle.std.proofs.Common.{◌≡◌, ◌∙◌, ℕ, ◌+◌, ◌-◌, zero, suc, List, [], ◌∷◌, ◌++◌, take, Option, Some, None, Result, Ok, Err, refl}
use Rattle.std.proofs.Common.{sym, ap}
use Rattle.std.proofs.Common.{append_assoc, append-nil, subst}
use Rattle.std.specs.Prelude.{Bool, IfOk}
use Rattle.html_tokens.specs.declared.replies.TokenSinkResult.{TokenSinkResult}
use Rattle.html_tokens.specs.declared.replies.TokenSinkResult.TheVariants as reply
use Rattle.html_tokens.specs.declared.sink.TokenSink.{Ghosts}
use Rattle.html_tokens.specs.declared.states.State.TheVariants as state
use Rattle.html_tokens.specs.declared.token.Token.{Token}
use Rattle.html_tokens.specs.declared.token.Token.TheVariants.{EOFToken}
use Rattle.html_tokens.specs.Item.{Fault, Grave, InData, Slight, Stand, fault_at_end}
use Rattle.html_tokens.specs.Items.{item}
use Rattle.html_tokens.specs.Notes.{Notes, noted, heard, noting, noting_error, noting_cdata, noting_end, wronged, paused}
use Rattle.html_tokens.specs.Reading.{◌>>=◌, said, next_stand, line_breaks, line_number, reading_from}
use Rattle.html_tokens.specs.Table.{Row}
use Rattle.html_tokenizer.specs.Calls.{to_come}
use Rattle.html_tokenizer.specs.Rest.{coming, held_at, rows_of, standing}
use Rattle.html_tokenizer.specs.Steps.{IsAt, reads}
use Rattle.html_tokenizer.specs.declared.tokenizer.Tokenizer.{Tokenizer}

-- a list begins with another
pub record Begins {A : Type 0} (front whole : List A) : Type 0 where
  pub more : List A
  pub is : whole ≡ front ++ more

begins-self : {A : Type 0} (xs : List A) → Begins xs xs
begins-self xs = record { more = []; is = sym (append-nil xs) }

begins-both : {A : Type 0} (xs ys zs : List A) → Begins xs ys → Begins ys zs → Begins xs zs
begins-both xs ys zs a b = record {
  more = a.more ++ b.more;
  is = b.is ∙ (ap (λ front. front ++ b.more) a.is ∙ append_assoc xs a.more b.more);
}

paused-begins : {H : Type 0} (pauses : List (TokenSinkResult H)) (answer : TokenSinkResult H) → Begins pauses (paused pauses answer)
paused-begins pauses reply.Continue = begins-self pauses
paused-begins pauses (reply.Script handle) = record { more = reply.Script handle ∷ []; is = refl }
paused-begins pauses reply.Plaintext = begins-self pauses
paused-begins pauses (reply.RawData kind) = begins-self pauses
paused-begins pauses (reply.EncodingIndicator label) = record { more = reply.EncodingIndicator label ∷ []; is = refl }

module _ {S H F : Type 0} (step : S → Token → ℕ → Result (S × TokenSinkResult H) F) (quiet : S → Token → Bool)
    (cdata : S → Bool) (ends : S → S) (rows : List Row) where
  -- what is given has these pauses in front
  abbrev pub HasFront : List (TokenSinkResult H) → Result (S × Notes H) (F × ℕ) → Type 0
  HasFront pauses r = IfOk r (λ p. Begins pauses p.1.pauses)

  abbrev KeepsFront : ((S × Notes H) × TokenSinkResult H → Result (S × Notes H) (F × ℕ)) → Type 0
  KeepsFront f = (p : S × TokenSinkResult H) (notes : Notes H) → HasFront notes.pauses (f ((p.0, notes), p.1))

  front-before : (xs ys : List (TokenSinkResult H)) (r : Result (S × Notes H) (F × ℕ)) → Begins xs ys → HasFront ys r → HasFront xs r
  front-before xs ys (Ok p) a b = begins-both xs ys p.1.pauses a b
  front-before xs ys (Err e) a b = tt

  noted-front : (notes : Notes H) (r : Result (S × TokenSinkResult H) F)
      (f : (S × Notes H) × TokenSinkResult H → Result (S × Notes H) (F × ℕ)) → KeepsFront f → HasFront notes.pauses (noted notes r >>= f)
  noted-front notes (Ok p) f h =
      let after : Notes H = record notes { pauses = paused notes.pauses p.1 } in
      front-before notes.pauses after.pauses (f ((p.0, after), p.1)) (paused-begins notes.pauses p.1) (h p after)
  noted-front notes (Err e) f h = tt

  said-front : (fault : Option Fault) (token : Option Token) (b : ℕ) (s : S) (notes : Notes H)
      (f : (S × Notes H) × TokenSinkResult H → Result (S × Notes H) (F × ℕ)) → KeepsFront f
      → HasFront notes.pauses (said (noting step quiet) noting_error fault token b (s, notes) >>= f)
  said-front None None b s notes f h = h (s, reply.Continue) notes
  said-front (Some Grave) None b s notes f h = h (s, reply.Continue) (wronged Grave notes)
  said-front (Some Slight) None b s notes f h = h (s, reply.Continue) (wronged Slight notes)
  said-front None (Some t) b s notes f h = noted-front (heard (quiet s t) notes) (step s t (line_number b)) f h
  said-front (Some Grave) (Some t) b s notes f h = noted-front (heard (quiet s t) (wronged Grave notes)) (step s t (line_number b)) f h
  said-front (Some Slight) (Some t) b s notes f h = noted-front (heard (quiet s t) (wronged Slight notes)) (step s t (line_number b)) f h

  pub reading-front : (n : ℕ) (st : Stand) (b : ℕ) (s : S) (notes : Notes H) (t : List ℕ) → HasFront notes.pauses
      (reading_from (noting step quiet) noting_error (noting_cdata cdata) (noting_end ends) rows n st b (s, notes) t)
  unfolding reading_from
  reading-front n st b s notes [] = said-front (fault_at_end st.place) (Some EOFToken) b s notes
      (λ p. Ok (noting_end ends p.0)) (λ p notes. begins-self notes.pauses)
  reading-front zero st b s notes (c ∷ t) =
      let i = item rows (cdata s) st c t in
      let read = b + line_breaks (take i.len (c ∷ t)) in
      said-front i.fault i.token read s notes
      (λ p. reading_from (noting step quiet) noting_error (noting_cdata cdata) (noting_end ends) rows (i.len - 1)
      (next_stand i.next p.1) read p.0 t)
      (λ p notes. reading-front (i.len - 1) (next_stand i.next p.1) read p.0 notes t)
  reading-front (suc n) st b s notes (c ∷ t) = reading-front n st b s notes t

module _ {K H : Type 0} (Sink : Ghosts K H) where
  -- what is still to come where nothing is held in data
  reads-data : (k : Tokenizer K) (notes : Notes ℕ) (t : List ℕ) → IsAt k state.Data
      → to_come Sink k notes t ≡ reads Sink (rows_of k) (standing k InData) k.stream.breaks (Sink.view k.sink, notes) (coming k t)
  unfolding held_at
  reads-data k notes t is = rw (is.state, is.fresh) refl

  -- it has the pauses so far in front
  pub data-front : (k : Tokenizer K) (notes : Notes ℕ) (t : List ℕ) → IsAt k state.Data
      → IfOk (to_come Sink k notes t) (λ p. Begins notes.pauses p.1.pauses)
  data-front k notes t is =
      subst (λ r. IfOk r (λ p. Begins notes.pauses p.1.pauses)) (sym (reads-data k notes t is))
      (reading-front Sink.step Sink.is_quiet Sink.asks_cdata Sink.ended (rows_of k) 0 (standing k InData)
      k.stream.breaks (Sink.view k.sink) notes (coming k t))
