-- Attributes that stand whole at the front of a text: what is taken is what the states would have taken, character by character.
use Rattle.std.proofs.Common.{◌≡◌, ◌∙◌, ℕ, ◌<◌, ◌≤◌, false, List, [], ◌∷◌, ◌++◌, length, take, refl, sym, ap, subst, arith}
use Rattle.std.proofs.Common.{length-append}
use Rattle.std.specs.Str.{IsCharBoundary, IsUtf8, chars}
use Rattle.std.proofs.lemmas.Str.{chars-IsAscii, IsUtf8-from_ascii}
use Rattle.html_queue.specs.Queue.{Queue, Takes}
use Rattle.html_tokens.specs.declared.sink.TokenSink.{Ghosts}
use Rattle.html_tokens.specs.declared.states.AttrValueKind.{AttrValueKind}
use Rattle.html_tokens.specs.declared.states.State.TheVariants as state
use Rattle.html_tokenizer.specs.Fronts.{IsInTag, IsNameAt, IsValueIn, IsWholeValue, Lacks, TakesFront, attributed, ended}
use Rattle.html_tokenizer.specs.Fronts.{naming, with_value}
use Rattle.html_tokenizer.specs.Rest.{held_at}
use Rattle.html_tokenizer_parts.specs.Input.{ComesAs, coming_in}
use Rattle.html_tokenizer_parts.specs.declared.stream.Stream.{Stream}
use Rattle.html_tokenizer_parts.proofs.InputRuns.{front-comes}
use Rattle.html_tokenizer.specs.Stops.{value_stops}
use Rattle.html_tokenizer.specs.declared.tokenizer.Tokenizer.{Tokenizer}
use Rattle.html_tokenizer.proofs.Fronts.Attributes.{ended-fresh, equals-front, name-front, quoted-whole}
use Rattle.html_tokenizer.proofs.Fronts.Runs.{run-cut}
use Rattle.html_tokenizer.proofs.Fronts.Tags.{fronts-then, unbroken-more, unbroken-none}
use Rattle.html_tokenizer.proofs.Fronts.Texts.{ascii-one}

-- a value between its quotes
pub value-within : (kind : AttrValueKind) (quote : ℕ) (value after rest inner text : List ℕ) → text ≡ quote ∷ inner
    → inner ≡ value ++ after → after ≡ quote ∷ rest → IsUtf8 value → Lacks (value_stops kind) (chars value)
    → IsValueIn kind quote value rest text
value-within kind quote value after rest inner text opens splits closes utf8 lacking = record {
  whole = opens ∙ ap (λ u. quote ∷ u) (splits ∙ ap (λ u. value ++ u) closes);
  utf8 = utf8;
  lacking = lacking;
}

-- less is left than there was
pub value-no_longer : (value rest text : List ℕ) → IsWholeValue value rest text → length rest ≤ length text
value-no_longer value rest text is =
    omega (arith, ap length is.equals, ap length is.within.whole, length-append value (is.quote ∷ rest))

pub front-no_longer : (front rest text : List ℕ) → text ≡ front ++ rest → length rest ≤ length text
front-no_longer front rest text is = omega (arith, ap length is, length-append front rest)

pub name-shorter : (name after rest text : List ℕ) → IsNameAt name after text → length rest ≤ length after → length rest < length text
name-shorter name after rest text is h = omega (arith, ap length is.whole, length-append name after)

-- ">" at the front of the input
one-close : chars (62 ∷ []) ≡ 62 ∷ []
one-close = chars-IsAscii (62 ∷ []) (ascii-one 62 (omega arith))

pub close-cut : (text spelled rest : List ℕ) → IsUtf8 text → text ≡ spelled → text ≡ 62 ∷ rest → IsCharBoundary spelled 1
close-cut text spelled rest utf8 e is =
    run-cut text spelled (62 ∷ []) rest utf8 e is (IsUtf8-from_ascii (62 ∷ []) (ascii-one 62 (omega arith)))

-- it comes where it is taken
pub close-comes : (stream : Stream) (from to : Queue) (text spelled rest : List ℕ) → stream.discard_bom ≡ false
    → stream.ignore_lf ≡ false → text ≡ spelled → text ≡ 62 ∷ rest → Takes (chars (take 1 spelled)) from to
    → ComesAs stream stream from to 62
close-comes stream from to text spelled rest unmarked heeds e is takes =
    let taken : chars (take 1 spelled) ≡ 62 ∷ [] = ap (λ u. chars (take 1 u)) (sym e ∙ is) ∙ one-close in
    record {
      taken = 62 ∷ [];
      takes = subst (λ u. Takes u from to) taken takes;
      front = λ t. front-comes stream (62 ∷ []) t unmarked (omega arith) (unbroken-more 62 [] refl refl unbroken-none)
          ∙ ap (λ b. 62 ∷ coming_in (record stream { ignore_lf = b }) t) (sym heeds);
      changed = refl;
      filled = omega arith;
      last = refl;
    }

module _ {K H : Type 0} (Sink : Ghosts K H) where
  -- after a value in quotes nothing depends on what was read of its attribute
  forgotten : (old k : Tokenizer K) (name value text rest : List ℕ)
      → TakesFront Sink old (record k { attribute_name = name; attribute_value = value; state = state.AfterAttributeValueQuoted }) text rest
      → TakesFront Sink old (record k { state = state.AfterAttributeValueQuoted }) text rest
  unfolding held_at
  forgotten old k name value text rest h = record {
    front = h.front;
    whole = h.whole;
    utf8 = h.utf8;
    unbroken = h.unbroken;
    took = record {
      paused = tt;
      owed = h.took.owed;
      same = λ notes t. h.took.same notes t;
      rises = h.took.rises;
      stream = h.took.stream;
      sound = h.took.sound;
      fits = h.took.fits;
      stays = h.took.stays;
    };
  }

  -- a whole attribute is taken
  pub whole-taken : (old new : Tokenizer K) (name value after rest text : List ℕ) → IsInTag old
      → Sink.is_sound (Sink.view old.sink) → IsNameAt name after text → IsWholeValue value rest after
      → new ≡ attributed (ended old) (chars name) (chars value) → TakesFront Sink old new text rest
  whole-taken old new name value after rest text from ok named whole e =
      let base : Tokenizer K = ended old in
      let mid : Tokenizer K = naming base (chars name) in
      let first : TakesFront Sink old mid text after = name-front Sink old mid name after text from ok named refl in
      let opened : Tokenizer K = record mid { state = state.BeforeAttributeValue } in
      let fin : Tokenizer K = with_value (record opened { attribute_value = chars value }) (chars value) in
      let fresh = ended-fresh Sink old from in
      let second : TakesFront Sink mid (record fin { state = state.AfterAttributeValueQuoted }) after rest =
      equals-front Sink mid (record fin { state = state.AfterAttributeValueQuoted }) whole.inner rest after
      (record { state = refl; fresh = fresh }) first.took.sound whole.equals
      (rw whole.within.whole (quoted-whole Sink opened fin whole.kind whole.quote value (whole.quote ∷ rest) rest
      (value ++ whole.quote ∷ rest) (chars value) (record { state = refl; fresh = fresh }) first.took.sound whole.quotes
      refl whole.within.utf8 whole.within.lacking refl refl refl)) in
      rw e (forgotten old (attributed base (chars name) (chars value)) [] [] text rest
      (fronts-then Sink old mid (record fin { state = state.AfterAttributeValueQuoted }) text after rest first second))
