-- Attributes that are taken from the front of a text at once: what is taken is what the states would have taken, character by character.
use Rattle.std.proofs.Common.{◌≡◌, ◌≢◌, ℕ, ◌<◌, true, false, nat_eq, List, [], ◌∷◌, ◌++◌, Some, None, Result, Ok, Err}
use Rattle.std.proofs.Common.{refl, sym, ap, subst, arith}
use Rattle.std.specs.Result.{IsErrAnd}
use Rattle.std.proofs.lemmas.Result.{err_from_is_err_and}
use Rattle.std.specs.Prelude.{map}
use Rattle.std.specs.Char.{to_ascii_lowercase}
use Rattle.std.specs.Str.{IsUtf8, chars}
use Rattle.std.proofs.lemmas.List.Elements.{All-head, All-tail}
use Rattle.std.proofs.lemmas.Str.{chars-IsAscii, IsUtf8-from_ascii}
use Rattle.markup.specs.declared.fault.ParseFault.{ParseFault}
use Rattle.html_queue.specs.Set.{has}
use Rattle.html_tokens.specs.declared.replies.ProcessResult.{ProcessResult}
use Rattle.html_tokens.specs.declared.replies.ProcessResult.TheVariants as flow
use Rattle.html_tokens.specs.declared.sink.TokenSink.{Ghosts}
use Rattle.html_tokens.specs.declared.states.AttrValueKind.{AttrValueKind}
use Rattle.html_tokens.specs.declared.states.AttrValueKind.TheVariants as value
use Rattle.html_tokens.specs.declared.states.State.{State}
use Rattle.html_tokens.specs.declared.states.State.TheVariants as state
use Rattle.html_tokens.specs.Characters.{ends_word}
use Rattle.html_tokenizer.specs.Calls.{TookRun, answered}
use Rattle.html_tokenizer_parts.specs.CharRefs.{fits_in}
use Rattle.html_tokenizer.specs.declared.tokenizer.Tokenizer.{Tokenizer}
use Rattle.html_tokenizer.specs.Fronts.{IsFilled, IsInTag, IsNameAt, Lacks, ReadsAhead, TakesFront, after_name, after_value}
use Rattle.html_tokenizer.specs.Fronts.{attribute_stops, ended, ended_in, in_name, in_value, naming, plain_stops, with_value}
use Rattle.html_tokenizer_parts.specs.Input.{IsUnbroken}
use Rattle.html_tokenizer.specs.Quotes.{quote_of}
use Rattle.html_tokenizer.specs.Rest.{rows_of}
use Rattle.html_tokenizer.specs.Steps.{EndsTag, IsAt, Keeps, Took}
use Rattle.html_tokenizer.specs.Stops.{value_stops}
use Rattle.html_tokenizer.proofs.Attributes.Names.{after-equals, after-other, after-space, before-close, before-name}
use Rattle.html_tokenizer.proofs.Attributes.Names.{before-space, name-end, name-more}
use Rattle.html_tokenizer.proofs.Attributes.Values.{quoted-close, unquoted-end, unquoted-more, value_before-apostrophe}
use Rattle.html_tokenizer.proofs.Attributes.Values.{value_before-other, value_before-quote, value_after}
use Rattle.html_tokenizer.proofs.Fronts.Tags.{fronts-none, fronts-then, lacks-breaks, lowered-more, lowered-one, plain-space}
use Rattle.html_tokenizer.proofs.Fronts.Tags.{took-one, unbroken-more, unbroken-none}
use Rattle.html_tokenizer.proofs.Fronts.Texts.{ascii-one, chars-cons, utf8-cons}
use Rattle.html_tokenizer.proofs.Steps.Keeping.{fits-at}
use Rattle.html_tokenizer_parts.proofs.Sets.{differs, not-member}
use Rattle.html_tokenizer.proofs.Tags.States.{tag_name-close, tag_name-space}
use Rattle.html_tokenizer.proofs.Text.Runs.{name-goes_on, run-held, set-unbroken, shown-same, took-then, value-run}

-- CHARACTERS

some-same : (a b : ℕ) → Some a ≡ Some b → b ≡ a
some-same a b e = cc

quoted-kind : (kind : AttrValueKind) (quote : ℕ) → quote_of kind ≡ Some quote → kind ≢ value.Unquoted
quoted-kind value.Unquoted quote is = absurd cc
quoted-kind value.SingleQuoted quote is = λ e. absurd cc
quoted-kind value.DoubleQuoted quote is = λ e. absurd cc

-- a quote is of ASCII, and no line end
quote-plain : (kind : AttrValueKind) (quote : ℕ) → quote_of kind ≡ Some quote → (quote < 128)
    × (nat_eq quote 10 ≡ false) × (nat_eq quote 13 ≡ false)
quote-plain value.Unquoted quote is = absurd cc
quote-plain value.SingleQuoted quote is = rw (some-same 39 quote is) (omega arith, refl, refl)
quote-plain value.DoubleQuoted quote is = rw (some-same 34 quote is) (omega arith, refl, refl)

value-unbroken : (kind : AttrValueKind) (text : List ℕ) → Lacks (value_stops kind) text → IsUnbroken text
value-unbroken value.Unquoted text lacks = lacks-breaks (value_stops value.Unquoted).bits refl refl text lacks
value-unbroken value.SingleQuoted text lacks = lacks-breaks (value_stops value.SingleQuoted).bits refl refl text lacks
value-unbroken value.DoubleQuoted text lacks = lacks-breaks (value_stops value.DoubleQuoted).bits refl refl text lacks

-- a character that is not in the set ends no value without quotes
plain-goes_on : (c : ℕ) → has plain_stops.bits c ≡ false → ends_word c ≡ false
plain-goes_on c lacks =
    let bits = plain_stops.bits in
    rw (
      not-member bits c 9 refl lacks,
      not-member bits c 10 refl lacks,
      not-member bits c 12 refl lacks,
      not-member bits c 32 refl lacks,
      not-member bits c 62 refl lacks,
    ) refl

close-equals : ◌≢◌ {A = ℕ} 62 61
close-equals e = omega (arith, e)

-- what is so of the machine without an attribute that it reads
ended-as : {K : Type 0} (old : Tokenizer K) (st : State) (P : Tokenizer K → Type 0) → old.state ≡ st → P (ended_in st old) → P (ended old)
ended-as old st P e h = subst (λ st. P (ended_in st old)) (sym e) h

module _ {K H : Type 0} (Sink : Ghosts K H) where
  -- FRONTS

  -- a run was taken from a text's front
  run-front : (old new : Tokenizer K) (bytes rest text : List ℕ) → text ≡ bytes ++ rest → IsUtf8 bytes
      → IsUnbroken (chars bytes) → TookRun Sink old new (chars bytes) → TakesFront Sink old new text rest
  run-front old new bytes rest text whole utf8 unbroken took = record {
    front = bytes;
    whole = whole;
    utf8 = utf8;
    unbroken = unbroken;
    took = took;
  }

  -- one character of ASCII was
  one-front : (old new : Tokenizer K) (b : ℕ) (rest text : List ℕ) → (b < 128) × (nat_eq b 10 ≡ false)
      × (nat_eq b 13 ≡ false) → text ≡ b ∷ rest → Took Sink old new b flow.Continue → TakesFront Sink old new text rest
  one-front old new b rest text plain whole took =
      let spelled : chars (b ∷ []) ≡ b ∷ [] = chars-IsAscii (b ∷ []) (ascii-one b plain.0) in
      run-front old new (b ∷ []) rest text whole (IsUtf8-from_ascii (b ∷ []) (ascii-one b plain.0))
      (subst IsUnbroken (sym spelled) (unbroken-more b [] plain.1 plain.2 unbroken-none))
      (rw spelled (took-one Sink old new b plain.1 took))

  -- PLACES

  abbrev before : Tokenizer K → Tokenizer K
  before k = record k { state = state.BeforeAttributeName }

  -- no reference is held where an attribute ended
  pub ended-fresh : (k : Tokenizer K) → IsInTag k → (ended k).char_ref ≡ None
  ended-fresh k (after_name from) = ended-as k state.TagName (λ k. k.char_ref ≡ None) from.state from.fresh
  ended-fresh k (after_value from) = ended-as k state.AfterAttributeValueQuoted (λ k. k.char_ref ≡ None) from.state from.fresh
  ended-fresh k (in_name from) = ended-as k state.AttributeName (λ k. k.char_ref ≡ None) from.state from.fresh
  ended-fresh k (in_value from) = ended-as k (state.AttributeValue value.Unquoted) (λ k. k.char_ref ≡ None) from.state from.fresh

  in-tag-fits : (k : Tokenizer K) → IsInTag k → fits_in (rows_of k) k.char_ref k.state ≡ true
  in-tag-fits k (after_name from) = fits-at k state.TagName from
  in-tag-fits k (after_value from) = fits-at k state.AfterAttributeValueQuoted from
  in-tag-fits k (in_name from) = fits-at k state.AttributeName from
  in-tag-fits k (in_value from) = fits-at k (state.AttributeValue value.Unquoted) from

  -- nothing was taken yet
  pub attributes-begin : (k : Tokenizer K) (text : List ℕ) → IsInTag k → Sink.is_sound (Sink.view k.sink) → TakesFront Sink k k text text
  attributes-begin k text from ok = fronts-none Sink k text ok (in-tag-fits k from)

  pub none-taken : (k : Tokenizer K) (text : List ℕ) (st : State) → IsAt k st → Sink.is_sound (Sink.view k.sink)
      → TakesFront Sink k k text text
  none-taken k text st from ok = fronts-none Sink k text ok (fits-at k st from)

  -- THE END OF A TAG

  -- how a tag ends does not depend on the state
  ends-anywhere : (old new : Tokenizer K) (st : State) (result : Result (ProcessResult H) ParseFault)
      → EndsTag Sink old new result → EndsTag Sink (record old { state = st }) new result
  ends-anywhere old new st (Ok result) h = record {
    same = h.same;
    rises = h.rises;
    stream = h.stream;
    sound = h.sound;
    fits = h.fits;
    stays = h.stays;
    paused = h.paused;
  }
  ends-anywhere old new st (Err fault) h = h

  -- ">" where no attribute is read
  before-closes : (old new : Tokenizer K) (result : Result (ProcessResult H) ParseFault) → old.char_ref ≡ None
      → Sink.is_sound (Sink.view old.sink) → EndsTag Sink old new result → Keeps Sink (before old) new 62 result
  before-closes old new result fresh ok h = before-close Sink (before old) new 62 result
      (record { state = refl; fresh = fresh }) ok refl (ends-anywhere old new state.BeforeAttributeName result h)

  pub tag-closes : (old new : Tokenizer K) (result : Result (ProcessResult H) ParseFault) → IsInTag old
      → Sink.is_sound (Sink.view old.sink) → EndsTag Sink (ended old) new result → Keeps Sink old new 62 result
  tag-closes old new result (after_name from) ok h =
      let ends : EndsTag Sink old new result = subst (λ st. EndsTag Sink (ended_in st old) new result) from.state h in
      tag_name-close Sink old new 62 result from ok refl ends
  tag-closes old new result (after_value from) ok h =
      let ends : EndsTag Sink old new result = subst (λ st. EndsTag Sink (ended_in st old) new result) from.state h in
      value_after Sink old new 62 result from (before-closes old new result from.fresh ok ends)
  tag-closes old new result (in_name from) ok h =
      let ends : EndsTag Sink (with_value old []) new result = subst (λ st. EndsTag Sink (ended_in st old) new result) from.state h in
      let after : Tokenizer K = record old { state = state.AfterAttributeName } in
      name-end Sink old new 62 result from refl
      (after-other Sink after (with_value after []) new 62 result (record { state = refl; fresh = from.fresh }) refl
      close-equals refl (before-closes (with_value old []) new result from.fresh ok ends))
  tag-closes old new result (in_value from) ok h =
      let ends : EndsTag Sink (with_value old old.attribute_value) new result =
      subst (λ st. EndsTag Sink (ended_in st old) new result) from.state h in
      unquoted-end Sink old (with_value old old.attribute_value) new 62 result from refl refl
      (before-closes (with_value old old.attribute_value) new result from.fresh ok ends)

  -- the tag could not be ended
  pub tag-unclosed : (old new : Tokenizer K) (fault : ParseFault) (answer : ProcessResult H)
      (result : Result (Unit {0}) ParseFault) → IsInTag old → Sink.is_sound (Sink.view old.sink)
      → EndsTag Sink (ended old) new (Err fault) → IsErrAnd result (λ y. y ≡ fault) → Keeps Sink old new 62 (answered answer result)
  tag-unclosed old new fault answer result at ok h is =
      let p = err_from_is_err_and result is in
      rw (p.1, p.2) (tag-closes old new (Err fault) at ok h)

  -- NAMES

  -- the rest of a name
  name-run : (old : Tokenizer K) (front run : List ℕ) → old.char_ref ≡ None → Sink.is_sound (Sink.view old.sink)
      → Lacks attribute_stops run → TookRun Sink (naming old front) (naming old (front ++ run)) run
  name-run old front run fresh ok lacking =
      run-held Sink (naming old) (has attribute_stops.bits) (set-unbroken attribute_stops.bits refl) (λ front. ok)
      (λ front. fits-at (naming old front) state.AttributeName (record { state = refl; fresh = fresh }))
      (λ front c lacks. name-more Sink (naming old front) c (map to_ascii_lowercase (front ++ c ∷ []))
      (record { state = refl; fresh = fresh }) ok (name-goes_on c lacks)
      (lowered-more front c (not-member attribute_stops.bits c 0 refl lacks)))
      front run lacking

  -- the first character of a name
  name-first : (old : Tokenizer K) (c : ℕ) → old.char_ref ≡ None → Sink.is_sound (Sink.view old.sink)
      → has attribute_stops.bits c ≡ false → Took Sink (before old) (naming old (c ∷ [])) c flow.Continue
  name-first old c fresh ok lacks =
      let bits = attribute_stops.bits in
      before-name Sink (before old) c (map to_ascii_lowercase (c ∷ [])) (record { state = refl; fresh = fresh }) ok
      (plain-space bits c refl refl refl refl lacks) (differs bits c 47 refl lacks)
      (differs bits c 62 refl lacks) (lowered-one c (not-member bits c 0 refl lacks))

  -- the first character, and the rest
  name-from : (old base : Tokenizer K) (c : ℕ) (cs : List ℕ) → base.char_ref ≡ None
      → Sink.is_sound (Sink.view base.sink) → Lacks attribute_stops (c ∷ cs) → Took Sink old (naming base (c ∷ []))
      c flow.Continue → TookRun Sink old (naming base (c ∷ cs)) (c ∷ cs)
  name-from old base c cs fresh ok lacking first =
      let bits = attribute_stops.bits in
      took-then Sink old (naming base (c ∷ [])) (naming base (c ∷ cs)) c cs
      (not-member bits c 10 refl (All-head (λ c. has bits c ≡ false) c cs lacking)) first
      (name-run base (c ∷ []) cs fresh ok (All-tail (λ c. has bits c ≡ false) c cs lacking))

  -- a space, and a name
  name-behind : (old base : Tokenizer K) (c : ℕ) (cs : List ℕ) → base.char_ref ≡ None
      → Sink.is_sound (Sink.view base.sink) → Lacks attribute_stops (c ∷ cs)
      → Took Sink old (before base) 32 flow.Continue → TookRun Sink old (naming base (c ∷ cs)) (32 ∷ c ∷ cs)
  name-behind old base c cs fresh ok lacking space =
      let lacks : has attribute_stops.bits c ≡ false = All-head (λ c. has attribute_stops.bits c ≡ false) c cs lacking in
      took-then Sink old (before base) (naming base (c ∷ cs)) 32 (c ∷ cs) refl space
      (name-from (before base) base c cs fresh ok lacking (name-first base c fresh ok lacks))

  -- a space where an attribute's name may follow
  before-took : (old : Tokenizer K) → old.char_ref ≡ None → Sink.is_sound (Sink.view old.sink)
      → Took Sink (before old) (before old) 32 flow.Continue
  before-took old fresh ok = before-space Sink (before old) 32 (record { state = refl; fresh = fresh }) ok refl

  name-took : (old : Tokenizer K) (c : ℕ) (cs : List ℕ) → IsInTag old → Sink.is_sound (Sink.view old.sink)
      → Lacks attribute_stops (c ∷ cs) → TookRun Sink old (naming (ended old) (c ∷ cs)) (32 ∷ c ∷ cs)
  name-took old c cs (after_name from) ok lacking =
      ended-as old state.TagName (λ k. TookRun Sink old (naming k (c ∷ cs)) (32 ∷ c ∷ cs)) from.state
      (name-behind old old c cs from.fresh ok lacking (tag_name-space Sink old 32 from ok refl))
  name-took old c cs (after_value from) ok lacking =
      ended-as old state.AfterAttributeValueQuoted (λ k. TookRun Sink old (naming k (c ∷ cs)) (32 ∷ c ∷ cs)) from.state
      (name-behind old old c cs from.fresh ok lacking (value_after Sink old (before old) 32 (Ok flow.Continue) from
      (before-took old from.fresh ok)))
  name-took old c cs (in_name from) ok lacking =
      let bits = attribute_stops.bits in
      let lacks : has bits c ≡ false = All-head (λ c. has bits c ≡ false) c cs lacking in
      let after : Tokenizer K = record old { state = state.AfterAttributeName } in
      let fin : Tokenizer K = with_value old [] in
      let at : IsAt after state.AfterAttributeName = record { state = refl; fresh = from.fresh } in
      let space : Took Sink old after 32 flow.Continue = name-end Sink old after 32 (Ok flow.Continue) from refl
      (after-space Sink after 32 at ok refl) in
      let first : Took Sink after (naming fin (c ∷ [])) c flow.Continue =
      after-other Sink after (with_value after []) (naming fin (c ∷ [])) c (Ok flow.Continue) at
      (plain-space bits c refl refl refl refl lacks) (differs bits c 61 refl lacks) refl (name-first fin c from.fresh ok lacks) in
      ended-as old state.AttributeName (λ k. TookRun Sink old (naming k (c ∷ cs)) (32 ∷ c ∷ cs)) from.state
      (took-then Sink old after (naming fin (c ∷ cs)) 32 (c ∷ cs) refl space (name-from after fin c cs from.fresh ok lacking first))
  name-took old c cs (in_value from) ok lacking =
      let fin : Tokenizer K = with_value old old.attribute_value in
      ended-as old (state.AttributeValue value.Unquoted) (λ k. TookRun Sink old (naming k (c ∷ cs)) (32 ∷ c ∷ cs)) from.state
      (name-behind old fin c cs from.fresh ok lacking
      (unquoted-end Sink old fin (before fin) 32 (Ok flow.Continue) from refl refl (before-took fin from.fresh ok)))

  pub name-front : (old new : Tokenizer K) (name rest text : List ℕ) → IsInTag old → Sink.is_sound (Sink.view old.sink)
      → IsNameAt name rest text → new ≡ naming (ended old) (chars name) → TakesFront Sink old new text rest
  name-front old new name rest text from ok is e =
      let spelled : chars (32 ∷ name) ≡ 32 ∷ chars name = chars-cons 32 name (omega arith) in
      let filled = is.filled.split in
      let took : TookRun Sink old (naming (ended old) (chars name)) (32 ∷ chars name) =
      rw filled (name-took old is.filled.first is.filled.more from ok (rw filled at is.lacking)) in
      run-front old new (32 ∷ name) rest text is.whole (utf8-cons 32 name (omega arith) is.utf8)
      (subst IsUnbroken (sym spelled)
      (unbroken-more 32 (chars name) refl refl (lacks-breaks attribute_stops.bits refl refl (chars name) is.lacking)))
      (rw (e, spelled) took)

  -- VALUES

  -- "=" after a name
  pub equals-front : (old new : Tokenizer K) (inner rest text : List ℕ) → IsAt old state.AttributeName
      → Sink.is_sound (Sink.view old.sink) → text ≡ 61 ∷ inner
      → TakesFront Sink (record old { state = state.BeforeAttributeValue }) new inner rest → TakesFront Sink old new text rest
  equals-front old new inner rest text from ok whole h =
      let mid : Tokenizer K = record old { state = state.BeforeAttributeValue } in
      let after : Tokenizer K = record old { state = state.AfterAttributeName } in
      let took : Took Sink old mid 61 flow.Continue = name-end Sink old mid 61 (Ok flow.Continue) from refl
      (after-equals Sink after 61 (record { state = refl; fresh = from.fresh }) ok refl) in
      fronts-then Sink old mid new text inner rest (one-front old mid 61 inner text (omega arith, refl, refl) whole took) h

  -- the machine in a value
  abbrev valuing : Tokenizer K → AttrValueKind → List ℕ → Tokenizer K
  valuing k kind text = record k { attribute_value = text; state = state.AttributeValue kind }

  -- a value in quotes begins
  quote-took : (old : Tokenizer K) (kind : AttrValueKind) (quote : ℕ) → IsAt old state.BeforeAttributeValue
      → Sink.is_sound (Sink.view old.sink) → quote_of kind ≡ Some quote → Took Sink old (valuing old kind []) quote flow.Continue
  quote-took old value.Unquoted quote from ok is = absurd cc
  quote-took old value.SingleQuoted quote from ok is = value_before-apostrophe Sink old quote [] from ok (some-same 39 quote is) refl
  quote-took old value.DoubleQuoted quote from ok is = value_before-quote Sink old quote [] from ok (some-same 34 quote is) refl

  -- a value after its first quote
  pub quoted-front : (old : Tokenizer K) (kind : AttrValueKind) (quote : ℕ) (value after text made : List ℕ)
      → IsAt old state.BeforeAttributeValue → Sink.is_sound (Sink.view old.sink) → quote_of kind ≡ Some quote
      → text ≡ value ++ after → IsUtf8 value → Lacks (value_stops kind) (chars value) → made ≡ chars value
      → TakesFront Sink old (valuing old kind made) (quote ∷ text) after
  quoted-front old kind quote value after text made from ok is whole utf8 lacking e =
      let begun : Tokenizer K = valuing old kind [] in
      let full : Tokenizer K = valuing old kind (chars value) in
      let run : TookRun Sink begun full (chars value) = value-run Sink begun kind (chars value)
      (quoted-kind kind quote is) (record { state = refl; fresh = from.fresh }) ok (value_stops kind) refl lacking in
      rw e (fronts-then Sink old begun full (quote ∷ text) text after
      (one-front old begun quote text (quote ∷ text) (quote-plain kind quote is) refl
      (quote-took old kind quote from ok is))
      (run-front begun full value after text whole utf8 (value-unbroken kind (chars value) lacking) run))

  -- characters that stand for themselves were put after a value in quotes
  pub value-front : (old : Tokenizer K) (kind : AttrValueKind) (taken rest text made : List ℕ) → kind ≢ value.Unquoted
      → IsAt old (state.AttributeValue kind) → Sink.is_sound (Sink.view old.sink) → text ≡ taken ++ rest → IsUtf8 taken
      → Lacks (value_stops kind) (chars taken) → made ≡ old.attribute_value ++ chars taken
      → TakesFront Sink old (record old { attribute_value = made }) text rest
  value-front old kind taken rest text made quoted from ok whole utf8 lacking e =
      rw e (run-front old (record old { attribute_value = old.attribute_value ++ chars taken }) taken rest text whole utf8
      (value-unbroken kind (chars taken) lacking)
      (value-run Sink old kind (chars taken) quoted from ok (value_stops kind) refl lacking))

  -- the quote that ends a value
  pub quote-front : (old fin : Tokenizer K) (kind : AttrValueKind) (quote : ℕ) (rest text : List ℕ)
      → IsAt old (state.AttributeValue kind) → Sink.is_sound (Sink.view old.sink) → quote_of kind ≡ Some quote
      → text ≡ quote ∷ rest → fin ≡ with_value old old.attribute_value
      → TakesFront Sink old (record fin { state = state.AfterAttributeValueQuoted }) text rest
  quote-front old fin kind quote rest text from ok is closes f =
      let end : Tokenizer K = record (with_value old old.attribute_value) { state = state.AfterAttributeValueQuoted } in
      rw f (one-front old end quote rest text (quote-plain kind quote is) closes
      (quoted-close Sink old (with_value old old.attribute_value) kind quote quote from ok is refl refl))

  -- the same up to its end
  pub quoted-whole : (old fin : Tokenizer K) (kind : AttrValueKind) (quote : ℕ)
      (value after rest text made : List ℕ) → IsAt old state.BeforeAttributeValue
      → Sink.is_sound (Sink.view old.sink) → quote_of kind ≡ Some quote
      → text ≡ value ++ after → IsUtf8 value → Lacks (value_stops kind) (chars value) → made ≡ chars value
      → after ≡ quote ∷ rest → fin ≡ with_value (record old { attribute_value = made }) made
      → TakesFront Sink old (record fin { state = state.AfterAttributeValueQuoted }) (quote ∷ text) rest
  quoted-whole old fin kind quote value after rest text made from ok is whole utf8 lacking e closes f =
      let full : Tokenizer K = valuing old kind made in
      let end : Tokenizer K = record (with_value full made) { state = state.AfterAttributeValueQuoted } in
      rw f (fronts-then Sink old full end (quote ∷ text) after rest
      (quoted-front old kind quote value after text made from ok is whole utf8 lacking e)
      (quote-front full (with_value full made) kind quote rest after (record { state = refl; fresh = from.fresh }) ok is closes refl))

  -- a value without quotes, of which each character stands for itself
  plain-took : (old : Tokenizer K) (c : ℕ) (cs : List ℕ) → IsAt old state.BeforeAttributeValue
      → Sink.is_sound (Sink.view old.sink) → Lacks plain_stops (c ∷ cs) → TookRun Sink old (valuing old value.Unquoted (c ∷ cs)) (c ∷ cs)
  plain-took old c cs from ok lacking =
      let bits = plain_stops.bits in
      let lacks : has bits c ≡ false = All-head (λ c. has bits c ≡ false) c cs lacking in
      let each : (front : List ℕ) (c : ℕ) → has bits c ≡ false → Took Sink (valuing old value.Unquoted front)
      (valuing old value.Unquoted (front ++ c ∷ [])) c flow.Continue =
      λ front c lacks. unquoted-more Sink (valuing old value.Unquoted front) c (front ++ c ∷ [])
      (record { state = refl; fresh = from.fresh }) ok (plain-goes_on c lacks) (differs bits c 38 refl lacks)
      (ap (λ d. front ++ d ∷ []) (sym (shown-same c (not-member bits c 0 refl lacks)))) in
      let first : Took Sink old (valuing old value.Unquoted (c ∷ [])) c flow.Continue =
      value_before-other Sink old (valuing old value.Unquoted (c ∷ [])) c [] (Ok flow.Continue) from
      (plain-space bits c refl refl refl refl lacks) (differs bits c 62 refl lacks)
      (differs bits c 34 refl lacks) (differs bits c 39 refl lacks) refl (each [] c lacks) in
      took-then Sink old (valuing old value.Unquoted (c ∷ [])) (valuing old value.Unquoted (c ∷ cs)) c cs
      (not-member bits c 10 refl lacks) first
      (run-held Sink (valuing old value.Unquoted) (has bits) (set-unbroken bits refl) (λ front. ok)
      (λ front. fits-at (valuing old value.Unquoted front) (state.AttributeValue value.Unquoted)
      (record { state = refl; fresh = from.fresh })) each (c ∷ []) cs (All-tail (λ c. has bits c ≡ false) c cs lacking))

  pub plain-front : (old : Tokenizer K) (text taken rest made : List ℕ) → IsAt old state.BeforeAttributeValue
      → Sink.is_sound (Sink.view old.sink) → text ≡ taken ++ rest → IsUtf8 taken → IsFilled (chars taken)
      → Lacks plain_stops (chars taken) → made ≡ chars taken
      → TakesFront Sink old (valuing old value.Unquoted made) text rest
  plain-front old text taken rest made from ok whole utf8 filled lacking e =
      let took : TookRun Sink old (valuing old value.Unquoted (chars taken)) (chars taken) =
      rw filled.split (plain-took old filled.first filled.more from ok (rw filled.split at lacking)) in
      rw e (run-front old (valuing old value.Unquoted (chars taken)) taken rest text whole utf8
      (lacks-breaks plain_stops.bits refl refl (chars taken) lacking) took)

  -- ATTRIBUTES

  -- one more was taken
  attributes-more : (old mid named new : Tokenizer K) (name after rest from text : List ℕ) → IsInTag mid
      → TakesFront Sink old mid text from → IsNameAt name after from → named ≡ naming (ended mid) (chars name)
      → TakesFront Sink named new after rest → TakesFront Sink old new text rest
  attributes-more old mid named new name after rest from text at front is e more =
      fronts-then Sink old mid new text from rest front
      (fronts-then Sink mid named new from after rest (name-front mid named name after from at front.took.sound is e) more)

  -- the one at the front was taken
  pub attribute-taken : (old named new : Tokenizer K) (name after rest text : List ℕ) → IsInTag old
      → Sink.is_sound (Sink.view old.sink) → IsNameAt name after text → named ≡ naming (ended old) (chars name)
      → TakesFront Sink named new after rest → TakesFront Sink old new text rest
  attribute-taken old named new name after rest text at sound is e front = attributes-more old old named new name
      after rest text text at (attributes-begin old text at sound) is e front

-- in a tag where errors of single characters are not told, what comes may be taken at once
pub in-tag-ahead : {K : Type 0} (k : Tokenizer K) → IsInTag k → k.stream.exact_errors ≡ false
    → k.stream.discard_bom ≡ false → ReadsAhead k k.state
in-tag-ahead k (after_name from) plain unmarked = record {
  at = record { state = refl; fresh = from.fresh };
  plain = plain;
  unmarked = unmarked;
}
in-tag-ahead k (after_value from) plain unmarked = record {
  at = record { state = refl; fresh = from.fresh };
  plain = plain;
  unmarked = unmarked;
}
in-tag-ahead k (in_name from) plain unmarked = record {
  at = record { state = refl; fresh = from.fresh };
  plain = plain;
  unmarked = unmarked;
}
in-tag-ahead k (in_value from) plain unmarked = record {
  at = record { state = refl; fresh = from.fresh };
  plain = plain;
  unmarked = unmarked;
}
