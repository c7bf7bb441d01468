-- No token of a text is refused.
use Rattle.std.proofs.Common.{◌≡◌, ◌∙◌, ℕ, zero, suc, ◌-◌, ◌+◌, Bool, true, false, List, [], ◌∷◌, Option, Some, None, Result}
use Rattle.std.proofs.Common.{Ok, Err, refl, sym, ap, subst, true≢false, inl, inr, ◌⊎◌}
use Rattle.std.specs.Prelude.{take, IfOk, IsOk}
use Rattle.std.proofs.lemmas.Bool.{and_parts}
use Rattle.markup.specs.Forest.{Forest}
use Rattle.markup.specs.declared.quirks.QuirksMode.{QuirksMode}
use Rattle.html_tokens.specs.Fault.{Fault}
use Rattle.html_tokens.specs.Item.{Item, Stand, fault_at_end}
use Rattle.html_tokens.specs.Items.{item}
use Rattle.html_tokens.specs.NormalText.{normal_text}
use Rattle.html_tokens.specs.Reading.{erred_by, line_breaks, line_number, next_stand, reading_from, said}
use Rattle.html_tokens.specs.Sink.{Reply, Refusal, ◌>>=◌}
use Rattle.html_tokens.specs.Table.{Row}
use Rattle.html_tokens.specs.declared.replies.TokenSinkResult.TheVariants.{Continue, Script, Plaintext, RawData, EncodingIndicator}
use Rattle.html_tokens.specs.declared.tags.Tag.{Tag}
use Rattle.html_tokens.specs.declared.tags.TagKind.{TagKind}
use Rattle.html_tokens.specs.declared.tags.TagKind.TheVariants.{StartTag, EndTag}
use Rattle.html_tokens.specs.declared.token.Doctype.{Doctype}
use Rattle.html_tokens.specs.declared.token.Token.{Token}
use Rattle.html_tokens.specs.declared.token.Token.TheVariants.{DoctypeToken, TagToken, CommentToken, CharacterTokens}
use Rattle.html_tokens.specs.declared.token.Token.TheVariants.{NullCharacterToken, EOFToken, ParseError as ErrorToken}
use Rattle.html_rules.specs.Actions.{restore_mode, or_mode, set_ignore_lf, set_mode, set_quirks_mode}
use Rattle.html_rules.specs.Choice.{choose}
use Rattle.html_rules.specs.Conditions.{context_is, is_nonempty}
use Rattle.html_rules.specs.Doctypes.{doctype_error, quirks_of}
use Rattle.html_rules.specs.Documents.{Setting, before_document, before_fragment, modes_of_context, stand_of, tokenizer_state, form_of_context}
use Rattle.html_rules.specs.ForeignContent.{asks_cdata, is_end_tag, is_foreign, is_start_tag}
use Rattle.html_rules.specs.Modes.Foreign.{in_foreign_content}
use Rattle.html_rules.specs.Places.{append_doctype_to_document, append_text, create_root}
use Rattle.html_rules.specs.Reset.{reset_insertion_mode}
use Rattle.html_rules.specs.Rules.{Finished, Settled, Turn, first_fit, most_modes, rows, settle, settled_by, turn, turn_by_row}
use Rattle.html_rules.specs.Rules.{using_rules_for, within, four_for_each}
use Rattle.html_rules.specs.Sets.{is_among, names_of}
use Rattle.html_rules.specs.Shape.{is_fit}
use Rattle.html_rules.specs.Stack.{parse_error, pop_but_root}
use Rattle.html_rules.specs.State.{Open, State, hushed, is_in}
use Rattle.html_rules.specs.Step.{answered, followed_by, after_line_feed, doctype_taken, ended, first_doctype_taken, if_kept, doctype_settled, ends_table_text}
use Rattle.html_rules.specs.Step.{is_barred, is_idle, step, taken, taken_by, text_taken, untouched}
use Rattle.html_rules.specs.Table.{Row as TableRow, EndTags, AnyEndTag, Then, Pop, RestoreMode, Done, RunScript, row}
use Rattle.html_rules.specs.declared.insertion_mode.InsertionMode.{InsertionMode}
use Rattle.html_rules.specs.declared.insertion_mode.InsertionMode.TheVariants as mode
use Rattle.html_rules.specs.declared.tag_set.TagSet.TheVariants as set
use Rattle.html_rules_laws.specs.EachText.{IsEachTextTaken}
use Rattle.html_rules_laws.specs.Joint.{AreJoint, Met, document, fragment, behind as item_after, is_last_opened, is_raw_place}
use Rattle.html_rules_laws.specs.Nesting.{Ground, IsNested, fits_nested, fits_under, ground_of, is_loose, part_of}
use Rattle.html_rules_laws.specs.Settled.{are_template_modes}
use Rattle.html_rules_laws.specs.Sound.{Sound}
use Rattle.html_rules_laws.specs.Upright.{MayCome, Steady}
use Rattle.html_rules_laws.proofs.Frames.Aside.{IsRest, rest-after, rest-same}
use Rattle.html_rules_laws.proofs.Replies.{settle-well, taken-well, text-continues}
use Rattle.html_rules_laws.proofs.Termination.Settled.{settle-rest}
use Rattle.html_rules_laws.proofs.Soundness.Sink.{context-template_modes}
use Rattle.html_rules_laws.proofs.StepLaws.{idle-step, refusal_with, step-is}
use Rattle.html_rules_laws.proofs.TreePreserved.Tokens.{IsKept, begins, come-kept, hushed-come, hushed-upright, other-come}
use Rattle.html_rules_laws.proofs.TreePreserved.Tokens.{settle-kept, states-steady, unlined}
use Rattle.html_rules_laws.proofs.ModesPreserved.Begins.{nested-states}
use Rattle.html_rules_laws.proofs.ModesPreserved.Fits.{nested-fits}
use Rattle.html_rules_laws.proofs.ModesPreserved.Tokens.{hushed-nested, reached-states, settle-nested, unlined-nested}
use Rattle.html_rules_laws.proofs.ModesPreserved.Turns.{other-html}
use Rattle.html_rules_laws.proofs.Progress.EndTags.{Fits, LeavesName, item-fits, item-leaves}
use Rattle.html_rules_laws.proofs.Progress.Named.{IsMade, settle-named}
use Rattle.html_rules_laws.proofs.Progress.Outside.{IsOutside, IsRaw, Outside, check-out, error-out, is_text, moved-out}
use Rattle.html_rules_laws.proofs.Progress.Outside.{reset-out, settle-out}
use Rattle.html_rules_laws.proofs.Bools.{no}

-- the end stays as far as it was

text-going : (text : List ℕ) (before : Settled) (s : State) → IsRest s before.state → IsRest s (text_taken text before).state
text-going [] before s h = h
text-going (c ∷ cs) before s h = let t : Token = CharacterTokens (c ∷ []) in
    text-going cs (followed_by before (settle t before.state)) s
    (rest-after s before.state (settle t before.state).state h (settle-rest t before.state))

either-ended : (b : Bool) (s x y : State) → x.has_ended ≡ s.has_ended → y.has_ended ≡ s.has_ended
    → (choose b (λ _. x) (λ _. y)).has_ended ≡ s.has_ended
either-ended true s x y h k = h
either-ended false s x y h k = k

first-ended : (d : Doctype) (s : State) → (first_doctype_taken d s).has_ended ≡ s.has_ended
unfolding set_mode set_quirks_mode append_doctype_to_document parse_error
first-ended d s =
    let told : State = choose (doctype_error d) (λ _. parse_error s) (λ _. s) in
    let one = either-ended (doctype_error d) s (parse_error s) s refl refl in
    either-ended s.opts.drop_doctype s told (append_doctype_to_document d told) one one

doctype-ended : (m : InsertionMode) (d : Doctype) (s : State) → (doctype_taken m d s).has_ended ≡ s.has_ended
unfolding parse_error
doctype-ended mode.Initial d s = first-ended d s
doctype-ended m d s = refl

doctype_settled-ended : (e : Bool) (d : Doctype) (s : State) → (doctype_settled e d s).state.has_ended ≡ s.has_ended
doctype_settled-ended true d s = (settle-rest (DoctypeToken d) s).ended
doctype_settled-ended false d s = doctype-ended s.mode d s

taken_by-ended : (t : Token) (b : Bool) (s : State) → (taken_by b t s).state.has_ended ≡ s.has_ended
taken_by-ended (CharacterTokens text) b s = (text-going (after_line_feed b text) (untouched s) s (rest-same s)).ended
taken_by-ended (DoctypeToken d) b s = doctype_settled-ended (ends_table_text s.opts.rules s.mode) d s
taken_by-ended (TagToken tag) b s = (settle-rest (TagToken tag) s).ended
taken_by-ended (CommentToken text) b s = (settle-rest (CommentToken text) s).ended
taken_by-ended NullCharacterToken b s = (settle-rest NullCharacterToken s).ended
taken_by-ended EOFToken b s = (settle-rest EOFToken s).ended
taken_by-ended (ErrorToken message) b s = (settle-rest (ErrorToken message) s).ended

taken-ended : (t : Token) (s : State) → (taken t s).state.has_ended ≡ s.has_ended
unfolding taken set_ignore_lf
taken-ended t s = taken_by-ended t s.ignore_lf (set_ignore_lf false s)

-- outside of the text of elements

no_raw : (r : Reply) → IsRaw r → r ≡ Continue → ⊥
no_raw (RawData kind) h e = absurd (cc)
no_raw Continue h e = h
no_raw Plaintext h e = h
no_raw (Script n) h e = h
no_raw (EncodingIndicator label) h e = h

text-out : (text : List ℕ) (before : Settled) → Outside before.state → Outside (text_taken text before).state
text-out [] before o = o
text-out (c ∷ cs) before o =
    let t : Token = CharacterTokens (c ∷ []) in
    text-out cs (followed_by before (settle t before.state))
    (elim (settle-out t before.state o)
    [ inl out ↦ out | inr raw ↦ absurd (no_raw (settle t before.state).reply raw.1 (settle-well t before.state)) ])

either-out : (b : Bool) (x y : State) → Outside x → Outside y → Outside (choose b (λ _. x) (λ _. y))
either-out true x y h k = h
either-out false x y h k = k

put-out : (d : Doctype) (s : State) → Outside s → Outside (append_doctype_to_document d s)
unfolding append_doctype_to_document
put-out d s o = record { mode = o.mode; original = o.original; modes = o.modes }

quirks-out : (q : QuirksMode) (s : State) → Outside s → Outside (set_quirks_mode q s)
unfolding set_quirks_mode
quirks-out q s o = record { mode = o.mode; original = o.original; modes = o.modes }

first-out : (d : Doctype) (s : State) → Outside s → Outside (first_doctype_taken d s)
first-out d s o =
    let told : State = choose (doctype_error d) (λ _. parse_error s) (λ _. s) in
    let one = either-out (doctype_error d) (parse_error s) s (error-out s o) o in
    let two = either-out s.opts.drop_doctype told (append_doctype_to_document d told) one (put-out d told one) in
    moved-out mode.BeforeHtml refl _ (quirks-out (quirks_of s.opts.rules s.opts.iframe_srcdoc d) (if_kept s.opts.drop_doctype d told) two)

doctype-out : (m : InsertionMode) (d : Doctype) (s : State) → Outside s → Outside (doctype_taken m d s)
doctype-out mode.Initial d s o = first-out d s o
doctype-out m d s o = error-out s o

doctype_settled-out : (e : Bool) (d : Doctype) (s : State) → Outside s → IsOutside (doctype_settled e d s)
doctype_settled-out true d s o = settle-out (DoctypeToken d) s o
doctype_settled-out false d s o = inl (doctype-out s.mode d s o)

taken_by-out : (t : Token) (b : Bool) (s : State) → Outside s → IsOutside (taken_by b t s)
taken_by-out (CharacterTokens text) b s o = inl (text-out (after_line_feed b text) (untouched s) o)
taken_by-out (DoctypeToken d) b s o = doctype_settled-out (ends_table_text s.opts.rules s.mode) d s o
taken_by-out (TagToken tag) b s o = settle-out (TagToken tag) s o
taken_by-out (CommentToken text) b s o = settle-out (CommentToken text) s o
taken_by-out NullCharacterToken b s o = settle-out NullCharacterToken s o
taken_by-out EOFToken b s o = settle-out EOFToken s o
taken_by-out (ErrorToken message) b s o = settle-out (ErrorToken message) s o

taken-out : (t : Token) (s : State) → Outside s → IsOutside (taken t s)
unfolding taken set_ignore_lf
taken-out t s o = taken_by-out t s.ignore_lf (set_ignore_lf false s) (record { mode = o.mode; original = o.original; modes = o.modes })

out-barred : (m : InsertionMode) → is_text m ≡ false → (t : Token) → is_barred m t ≡ false
out-barred mode.Text h t = absurd (true≢false h)
out-barred m h t = refl

-- where the text of an element is read

first-of-text : (using : InsertionMode → Token → State → Turn) (text : List ℕ) (s : State)
    → turn_by_row using (first_fit (rows mode.Text) (CharacterTokens text) s) (CharacterTokens text)
    s ≡ record { state = append_text text s; ends = Finished false }
unfolding rows
first-of-text using text s = refl

-- the mode and the open elements stay
abbrev Stays : State → State → Type 0
Stays s r = (r.mode ≡ s.mode) × (r.open_elems ≡ s.open_elems)

appended-stays : (text : List ℕ) (s : State) → Stays s (append_text text s)
unfolding append_text
appended-stays text s = (refl, refl)

-- what holds of the turn by the rows of the mode holds of the turn
own-turn : (P : Turn → Type 0) (t : Token) (s : State) → s.mode ≡ mode.Text → MayCome t s → IsNested s
    → P (turn_by_row (using_rules_for 3) (first_fit (rows mode.Text) t s) t s) → P (turn t s)
unfolding turn using_rules_for
own-turn P t s at may is h = by (is_foreign s t) refl where
  by : (b : Bool) → is_foreign s t ≡ b
      → P (choose b (λ _. turn_by_row (using_rules_for most_modes) (first_fit in_foreign_content t s) t s)
      (λ _. using_rules_for most_modes s.mode t s))
  by true f = absurd (other-html mode.Text refl t s may at is f)
  by false f = subst (λ m. P (using_rules_for 4 m t s)) (sym at) h

character-settled : (c : ℕ) (s : State) → s.mode ≡ mode.Text → MayCome (CharacterTokens (c ∷ [])) s → IsNested s
    → Stays s (settle (CharacterTokens (c ∷ [])) s).state
unfolding settle within
character-settled c s at may is =
    let t : Token = CharacterTokens (c ∷ []) in
    own-turn (λ made. Stays s (settled_by (within 15 (four_for_each s.open_elems t) t) made.ends t made.state).state) t s at may is
    (subst (λ made. Stays s (settled_by (within 15 (four_for_each s.open_elems t) t) made.ends t made.state).state)
    (sym (first-of-text (using_rules_for 3) (c ∷ []) s)) (appended-stays (c ∷ []) s))

characters-settled : (text : List ℕ) (before : Settled) → IsKept before.state → IsNested before.state
    → before.state.mode ≡ mode.Text → Stays before.state (text_taken text before).state
characters-settled [] before kept is at = (refl, refl)
characters-settled (c ∷ cs) before kept is at =
    let t : Token = CharacterTokens (c ∷ []) in
    let may = other-come t before.state refl kept in
    let one = character-settled c before.state at may is in
    let rest = characters-settled cs (followed_by before (settle t before.state)) (settle-kept t before.state may)
    (settle-nested t before.state may is) (one.0 ∙ at) in
    (rest.0 ∙ one.0, rest.1 ∙ one.1)

-- the end tag

under-mode : (g : Ground) (template : Bool) (o : Option InsertionMode) (m : InsertionMode) (xs : List Open)
    → fits_under g template o xs ≡ true → is_text (or_mode o m) ≡ false
under-mode g template None m xs h = no h
under-mode g template (Some original) m [] h = no h
under-mode g template (Some original) m (x ∷ xs) h =
    by original (and_parts (is_nonempty xs) _ (and_parts (is_loose (part_of x)) _ h).1).1 where
      by : (m : InsertionMode) → fits_nested g template m xs ≡ true → is_text m ≡ false
      by mode.Text h = no h
      by m h = refl

over-out : (s : State) → s.mode ≡ mode.Text → IsNested s → are_template_modes s.template_modes ≡ true
    → Outside (restore_mode (pop_but_root s))
unfolding restore_mode pop_but_root
over-out s at is modes = record {
  mode = under-mode (ground_of s.context_elem)
      (context_is set.Template s.context_elem) s.orig_mode s.mode s.open_elems (rw at at is.fits);
  original = refl;
  modes = modes;
}

abbrev script_row : TableRow
script_row = row (EndTags set.Script) (Then Pop RestoreMode) RunScript

abbrev end_row : TableRow
end_row = row AnyEndTag (Then Pop RestoreMode) Done

end-fit : (P : TableRow → Type 0) (tag : Tag) (s : State) → is_end_tag tag.kind ≡ true → P script_row → P end_row
    → P (first_fit (rows mode.Text) (TagToken tag) s)
unfolding rows
end-fit P tag s e h k = rw e (by (is_among tag.name (names_of set.Script))) where
  by : (b : Bool) → P (choose (choose b (λ _. true) (λ _. false)) (λ _. script_row) (λ _. end_row))
  by true = h
  by false = k

end-settled : (tag : Tag) (s : State) → is_end_tag tag.kind ≡ true → s.mode ≡ mode.Text → MayCome (TagToken tag) s
    → IsNested s → Outside (settle (TagToken tag) s).state
unfolding settle within
end-settled tag s e at may is =
    let t : Token = TagToken tag in
    let after = within 15 (four_for_each s.open_elems t) t in
    let over = over-out s at is may.held.modes in
    own-turn (λ made. Outside (settled_by after made.ends t made.state).state) t s at may is
    (end-fit (λ r. Outside (settled_by after (turn_by_row (using_rules_for 3) r t s).ends t
    (turn_by_row (using_rules_for 3) r t s).state).state) tag s e over (check-out false t (restore_mode (pop_but_root s)) over))

start-end : (kind : TagKind) → is_end_tag kind ≡ true → is_start_tag kind ≡ false
start-end StartTag e = no e
start-end EndTag e = refl

-- a reading and the rules

record InText (st : Stand) (s : State) : Type 0 where
  at : s.mode ≡ mode.Text
  place : is_raw_place st.place ≡ true
  named : is_last_opened st.last_start_tag s.open_elems ≡ true

record Joint (st : Stand) (s : State) : Type 0 where
  steady : Steady s
  is : IsNested s
  going : s.has_ended ≡ false
  -- where the mode is "text", the reading is in raw text, of the current node
  text : Outside s ⊎ InText st s

fit-of : (st : Stand) (s : State) → Joint st s → is_fit s ≡ true
fit-of st s j = nested-fits s j.steady.sound.head j.is

-- a token that is taken
taken-step : (s : State) (t : Token) (line : ℕ) → s.has_ended ≡ false → is_idle t ≡ false → is_fit s ≡ true
    → is_barred s.mode t ≡ false → step s t line ≡ Ok (hushed (taken t (hushed s)).state, (taken t (hushed s)).reply)
unfolding refusal_with
taken-step s t line e i f b = step-is s t line false false true false e i f b
    ∙ ap (λ c. Ok (choose c (λ _. (s, Continue)) (λ _. answered (taken t (hushed s))))) i

-- what comes of it
record IsFollowed (s : State) (t : Token) (line : ℕ) (Q : State → Reply → Type 0) : Type 0 where
  state : State
  reply : Reply
  is : step s t line ≡ Ok (state, reply)
  going : state.has_ended ≡ false
  holds : Q state reply

follow : (st : Stand) (s : State) → Joint st s → (t : Token) (line : ℕ) → is_barred s.mode t ≡ false
    → (Q : State → Reply → Type 0) → (is_idle t ≡ true → Q s Continue) → Q (hushed (taken t (hushed s)).state)
    (taken t (hushed s)).reply → IsFollowed s t line Q
follow st s j t line b Q one other = by (is_idle t) refl where
  by : (i : Bool) → is_idle t ≡ i → IsFollowed s t line Q
  by true i = record { state = s; reply = Continue; is = idle-step s t line j.going i; going = j.going; holds = one i }
  by false i = record {
    state = hushed (taken t (hushed s)).state;
    reply = (taken t (hushed s)).reply;
    is = taken-step s t line j.going i (fit-of st s j) b;
    going = taken-ended t (hushed s) ∙ j.going;
    holds = other;
  }

abbrev Held : Stand → State → Reply → Type 0
Held next r reply = Outside r ⊎ InText (next_stand next reply) r

joined : (next : Stand) (s : State) (t : Token) (line : ℕ) → Steady s → IsNested s
    → (f : IsFollowed s t line (Held next)) → Joint (next_stand next f.reply) f.state
joined next s t line steady is f = record {
  steady = subst (λ made. IfOk made (λ p. Steady p.0)) f.is (states-steady.step s steady t line);
  is = subst (λ made. IfOk made (λ p. IsNested p.0)) f.is (reached-states.kept s steady is t line);
  going = f.going;
  text = f.holds;
}

-- where raw text follows a start tag, it is that of the current node
in-text : (next : Stand) (r : State) (reply : Reply) (t : Token) → r.mode ≡ mode.Text → IsRaw reply
    → LeavesName (Some t) next → IsMade t r.open_elems → InText (next_stand next reply) (hushed r)
in-text next r (RawData kind) (TagToken tag) at raw leaves made = record { at = at; place = refl; named = rw (leaves made.0) made.1 }
in-text next r (RawData kind) t at raw leaves made = absurd made
in-text next r Continue t at raw leaves made = absurd raw
in-text next r Plaintext t at raw leaves made = absurd raw
in-text next r (Script n) t at raw leaves made = absurd raw
in-text next r (EncodingIndicator label) t at raw leaves made = absurd raw

doctype_settled-named : (e : Bool) (d : Doctype) (s : State) → MayCome (DoctypeToken d) s → IsNested s
    → IsRaw (doctype_settled e d s).reply → IsMade (DoctypeToken d) (doctype_settled e d s).state.open_elems
doctype_settled-named true d s may is raw = settle-named (DoctypeToken d) s may is raw
doctype_settled-named false d s may is raw = absurd raw

taken_by-named : (t : Token) (b : Bool) (s : State) → MayCome t s → IsNested s → IsRaw (taken_by b t s).reply
    → IsMade t (taken_by b t s).state.open_elems
taken_by-named (CharacterTokens text) b s may is raw = absurd (no_raw _ raw (text-continues (after_line_feed b text) (untouched s) refl))
taken_by-named (DoctypeToken d) b s may is raw = doctype_settled-named (ends_table_text s.opts.rules s.mode) d s may is raw
taken_by-named (TagToken tag) b s may is raw = settle-named (TagToken tag) s may is raw
taken_by-named (CommentToken text) b s may is raw = settle-named (CommentToken text) s may is raw
taken_by-named NullCharacterToken b s may is raw = settle-named NullCharacterToken s may is raw
taken_by-named EOFToken b s may is raw = settle-named EOFToken s may is raw
taken_by-named (ErrorToken message) b s may is raw = settle-named (ErrorToken message) s may is raw

taken-named : (t : Token) (s : State) → MayCome t (set_ignore_lf false s) → IsNested (set_ignore_lf false s)
    → IsRaw (taken t s).reply → IsMade t (taken t s).state.open_elems
unfolding taken
taken-named t s may is raw = taken_by-named t s.ignore_lf (set_ignore_lf false s) may is raw

hushed-out : (s : State) → Outside s → Outside (hushed s)
hushed-out s o = record { mode = o.mode; original = o.original; modes = o.modes }

-- a token may come to the state without its errors and its line feed
may-come : (st : Stand) (s : State) → Joint st s → (t : Token) → MayCome t (set_ignore_lf false (hushed s))
may-come st s j t = unlined t (hushed s) (hushed-come t s (begins s j.steady j.going (fit-of st s j) t))

still-nested : (st : Stand) (s : State) → Joint st s → IsNested (set_ignore_lf false (hushed s))
still-nested st s j = unlined-nested (hushed s) (hushed-nested s j.steady.upright.standing j.is)

-- a token outside of the text of elements
outside-follow : (st next : Stand) (s : State) → Joint st s → Outside s → (t : Token) (line : ℕ)
    → LeavesName (Some t) next → IsFollowed s t line (Held next)
outside-follow st next s j o t line leaves =
    let made : Settled = taken t (hushed s) in
    follow st s j t line (out-barred s.mode o.mode t) (Held next) (λ i. inl o)
    (elim (taken-out t (hushed s) (hushed-out s o)) [
      | inl out ↦ inl (hushed-out made.state out)
      | inr raw ↦
          inr (in-text next made.state made.reply t raw.0 raw.1 leaves
          (taken-named t (hushed s) (may-come st s j t) (still-nested st s j) raw.1))
    ])

-- a token in it
text-follow : (st next : Stand) (s : State) → Joint st s → InText st s → (t : Token) (line : ℕ)
    → Fits st.last_start_tag (Some t) next → IsFollowed s t line (Held next)
unfolding taken set_ignore_lf
text-follow st next s j text (CharacterTokens cs) line tell =
    let t : Token = CharacterTokens cs in
    let may = may-come st s j t in
    let stays = characters-settled (after_line_feed s.ignore_lf cs) (untouched (set_ignore_lf false (hushed s)))
    (come-kept t (set_ignore_lf false (hushed s)) may) (still-nested st s j) text.at in
    follow st s j t line (rw text.at refl) (Held next) (λ i. inr (record { at = text.at; place = tell.0; named = rw tell.1 text.named }))
    (inr (rw (taken-well t (hushed s)) (record { at = stays.0 ∙ text.at; place = tell.0; named = rw (tell.1, stays.1) text.named })))
text-follow st next s j text (TagToken tag) line tell =
    let t : Token = TagToken tag in
    let out = end-settled tag (set_ignore_lf false (hushed s)) tell.0 text.at (may-come st s j t) (still-nested st s j) in
    follow st s j t line (rw text.at (start-end tag.kind tell.0)) (Held next) (λ i. no i)
    (inl (hushed-out (settle t (set_ignore_lf false (hushed s))).state out))
text-follow st next s j text (CommentToken cs) line tell = absurd tell.0
text-follow st next s j text (DoctypeToken d) line tell = absurd tell.0
text-follow st next s j text NullCharacterToken line tell = absurd tell.0
text-follow st next s j text EOFToken line tell = absurd tell.0
text-follow st next s j text (ErrorToken message) line tell = absurd tell.0

-- a reading

erred-same : (o : Option Fault) (s : State) → erred_by (λ fault s. s) o s ≡ s
erred-same None s = refl
erred-same (Some fault) s = refl

-- what no token is told of
silent-joint : (st next : Stand) (s : State) → Joint st s → (is_raw_place st.place ≡ true → Fits st.last_start_tag None next) → Joint next s
silent-joint st next s j tell = record {
  steady = j.steady;
  is = j.is;
  going = j.going;
  text = elim j.text [
    | inl o ↦ inl o
    | inr text ↦
        inr (record { at = text.at; place = (tell text.place).0; named = rw (tell text.place).1 text.named })
  ];
}

-- what a token that may be told there makes of the state
item-follow : (st next : Stand) (s : State) → Joint st s → (t : Token) (line : ℕ)
    → (is_raw_place st.place ≡ true → Fits st.last_start_tag (Some t) next) → LeavesName (Some t) next → IsFollowed s t line (Held next)
item-follow st next s j t line tell leaves =
    elim j.text [ inl o ↦ outside-follow st next s j o t line leaves | inr text ↦ text-follow st next s j text t line (tell text.place) ]

item-taken : (st next : Stand) (fault : Option Fault) (o : Option Token) (read : ℕ) (s : State) → Joint st s
    → (is_raw_place st.place ≡ true → Fits st.last_start_tag o next) → LeavesName o next
    → (k : State × Reply → Result State Refusal) → ((r : State) (reply : Reply) → Joint (next_stand next reply) r → IsOk (k (r, reply)))
    → IsOk (said step (λ fault s. s) fault o read s >>= k)
item-taken st next fault None read s j tell leaves k go = rw (erred-same fault s) (go s Continue (silent-joint st next s j tell))
item-taken st next fault (Some t) read s j tell leaves k go =
    let f : IsFollowed s t (line_number read) (Held next) = item-follow st next s j t (line_number read) tell leaves in
    rw (erred-same fault s, f.is) (go f.state f.reply (joined next s t (line_number read) j.steady j.is f))

end-barred : (m : InsertionMode) → is_barred m EOFToken ≡ false
end-barred mode.Text = refl
end-barred m = refl

end-taken : (st : Stand) (fault : Option Fault) (read : ℕ) (s : State) → Joint st s
    → IsOk (said step (λ fault s. s) fault (Some EOFToken) read s >>= λ p. Ok (ended p.0))
end-taken st fault read s j =
    let f = follow st s j EOFToken (line_number read) (end-barred s.mode) (λ r reply. Unit {0}) (λ i. tt) tt in
    rw (erred-same fault s, f.is) refl

reading-taken : (table : List Row) (n : ℕ) (st : Stand) (breaks : ℕ) (s : State) (text : List ℕ) → Joint st s
    → IsOk (reading_from step (λ fault s. s) asks_cdata ended table n st breaks s text)
unfolding reading_from
reading-taken table n st breaks s [] j = end-taken st (fault_at_end st.place) breaks s j
reading-taken table zero st breaks s (c ∷ t) j =
    let i : Item = item table (asks_cdata s) st c t in
    item-taken st i.next i.fault i.token (breaks + line_breaks (take i.len (c ∷ t))) s j
    (item-fits table (asks_cdata s) st c t) (item-leaves table (asks_cdata s) st c t) _
    (λ r reply after. reading-taken table (i.len - 1) (next_stand i.next reply) (breaks + line_breaks (take i.len (c ∷ t))) r t after)
reading-taken table (suc n) st breaks s (c ∷ t) j = reading-taken table n st breaks s t j

-- where it begins

hushed-sound : (s : State) → Sound s → Sound (hushed s)
hushed-sound s h = record { listed = h.listed; modes = h.modes; head = h.head; original = h.original; placed = h.placed }

begun : (st : Stand) (s : State) → Steady s → IsNested s → s.has_ended ≡ false → Outside s → Joint st (hushed s)
begun st s steady is going o = record {
  steady = record { sound = hushed-sound s steady.sound; upright = hushed-upright s steady.upright };
  is = hushed-nested s steady.upright.standing is;
  going = going;
  text = inl (hushed-out s o);
}

fragment-out : (setting : Setting) (context : Open) (form : Option ℕ) (f : Forest) → Outside (before_fragment setting context form f)
unfolding create_root
fragment-out setting context form f =
    reset-out (create_root [] (record (before_document setting f) {
      context_elem = Some context;
      form_elem = form_of_context setting.opts.rules context form;
      template_modes = modes_of_context context;
    })) refl (context-template_modes (is_in set.Template context))

fragment-going : (setting : Setting) (context : Open) (form : Option ℕ) (f : Forest)
    → (before_fragment setting context form f).has_ended ≡ false
unfolding create_root reset_insertion_mode
fragment-going setting context form f = refl

pub each-text : IsEachTextTaken
each-text = record {
  document = λ table opts setting f tree top text.
      reading-taken table 0 (stand_of opts) 0 (hushed (before_document setting f)) (normal_text opts.discard_bom text)
      (begun (stand_of opts) (before_document setting f) (states-steady.document setting f tree top)
      (nested-states.document setting f) refl (record { mode = refl; original = refl; modes = refl }));
  fragment = λ table opts setting context form scripting f tree top own named text.
      let begins : Stand = stand_of (record opts { initial_state = Some (tokenizer_state context scripting) }) in
      let s : State = before_fragment setting context form f in
      reading-taken table 0 begins 0 (hushed s) (normal_text opts.discard_bom text)
      (begun begins s (states-steady.fragment setting context form f tree top own)
      (nested-states.fragment setting context form f tree named) (fragment-going setting context form f)
      (fragment-out setting context form f));
}

-- WHERE A READING STANDS

given-or : {A F : Type 0} → A → Result A F → A
given-or other (Ok x) = x
given-or other (Err e) = other

-- an item leads from one joint state to another
item-joint : (st next : Stand) (fault : Option Fault) (o : Option Token) (read : ℕ) (s r : State) (reply : Reply)
    → Joint st s → (is_raw_place st.place ≡ true → Fits st.last_start_tag o next) → LeavesName o next
    → said step (λ fault s. s) fault o read s ≡ Ok (r, reply) → Joint (next_stand next reply) r
unfolding given-or
item-joint st next fault None read s r reply j tell leaves e =
    let same = ap (given-or (r, reply)) e in
    subst (λ (p : State × Reply). Joint (next_stand next p.1) p.0) same (rw (erred-same fault s) (silent-joint st next s j tell))
item-joint st next fault (Some t) read s r reply j tell leaves e =
    let f : IsFollowed s t (line_number read) (Held next) = item-follow st next s j t (line_number read) tell leaves in
    let same = ap (given-or (r, reply)) (sym f.is ∙ (ap (λ (x : State). step x t (line_number read)) (sym (erred-same fault s)) ∙ e)) in
    subst (λ (p : State × Reply). Joint (next_stand next p.1) p.0) same (joined next s t (line_number read) j.steady j.is f)

met-joint : (table : List Row) (st : Stand) (s : State) → Met table st s → Joint st s
met-joint table st s (document opts setting f tree top) =
    begun (stand_of opts) (before_document setting f) (states-steady.document setting f tree top)
    (nested-states.document setting f) refl (record { mode = refl; original = refl; modes = refl })
met-joint table st s (fragment opts setting context form scripting f tree top own named) =
    begun (stand_of (record opts { initial_state = Some (tokenizer_state context scripting) })) (before_fragment setting context form f)
    (states-steady.fragment setting context form f tree top own)
    (nested-states.fragment setting context form f tree named) (fragment-going setting context form f)
    (fragment-out setting context form f)
met-joint table st s (item_after st' s' r c t breaks reply before e) =
    let i : Item = item table (asks_cdata s') st' c t in
    item-joint st' i.next i.fault i.token breaks s' r reply (met-joint table st' s' before)
    (item-fits table (asks_cdata s') st' c t) (item-leaves table (asks_cdata s') st' c t) e

-- outside of the text of elements the mode is another
outside-text : (s : State) → Outside s → s.mode ≡ mode.Text → ⊥
outside-text s o at = true≢false (ap is_text (sym at) ∙ o.mode)

pub joint-states : AreJoint
joint-states table st s met =
    let j = met-joint table st s met in
    record {
      going = j.going;
      fits = fit-of st s j;
      raw = λ at. elim j.text [ inl o ↦ absurd (outside-text s o at) | inr text ↦ text.place ];
      named = λ at. elim j.text [ inl o ↦ absurd (outside-text s o at) | inr text ↦ text.named ];
    }
