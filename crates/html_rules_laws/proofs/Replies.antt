-- Every reply is one that the token may get.
use Rattle.std.proofs.Common.{◌≡◌, ℕ, zero, suc, Bool, true, false, List, [], ◌∷◌, Option, Some, None, refl, sym, true≢false}
use Rattle.std.specs.Prelude.{◌&&◌}
use Rattle.std.proofs.lemmas.Bool.{and_parts}
use Rattle.html_tokens.specs.Sink.{IsReplyTo, IsTagReply, Reply}
use Rattle.html_tokens.specs.TextState.{is_text_state}
use Rattle.html_tokens.specs.declared.token.Doctype.{Doctype}
use Rattle.html_tokens.specs.declared.states.State.TheVariants.{RawData as RawState}
use Rattle.html_tokens.specs.declared.replies.TokenSinkResult.TheVariants as reply
use Rattle.html_tokens.specs.declared.token.Token.{Token}
use Rattle.html_tokens.specs.declared.token.Token.TheVariants.{DoctypeToken, TagToken, CommentToken, CharacterTokens}
use Rattle.html_tokens.specs.declared.token.Token.TheVariants.{NullCharacterToken, EOFToken, ParseError}
use Rattle.html_rules.specs.Actions.{act, set_ignore_lf}
use Rattle.html_rules.specs.Choice.{choose}
use Rattle.html_rules.specs.Conditions.{holds}
use Rattle.html_rules.specs.Encodings.{encoding_hint}
use Rattle.html_rules.specs.ForeignContent.{is_foreign}
use Rattle.html_rules.specs.Modes.Foreign.{in_foreign_content}
use Rattle.html_rules.specs.Rules.{Ending, Finished, Again, Replied, Settled, Turn, concluded, encoding_reply, first_fit, fits}
use Rattle.html_rules.specs.Rules.{four_for_each, most_modes, rows, settle, settled_by, turn, turn_by_row, using_rules_for}
use Rattle.html_rules.specs.Rules.{within}
use Rattle.html_rules.specs.State.{Open, State, current_number}
use Rattle.html_rules.specs.Step.{followed_by, after_line_feed, taken, taken_by, text_taken, untouched, doctype_settled, ends_table_text}
use Rattle.html_rules.specs.Table.{Row, Class, StartTags, EndTags, AnyStartTag, AnyEndTag, Conclusion, Done, Acknowledged}
use Rattle.html_rules.specs.Table.{Reprocess, ReprocessInOriginal, ReprocessInMode, Using, UsingThen, UsingCurrentMode, RawText}
use Rattle.html_rules.specs.Table.{PlainText, RunScript, ReportEncoding}
use Rattle.html_rules.specs.Tokens.{attributes_of, class_fits}
use Rattle.html_rules.specs.declared.insertion_mode.InsertionMode.{InsertionMode}
use Rattle.html_rules_laws.proofs.FirstFit.{by_fit, class_of_fits}
use Rattle.html_rules_laws.proofs.EachMode.{each-mode}

abbrev is_tag_class : Class → Bool
is_tag_class (StartTags names) = true
is_tag_class (EndTags names) = true
is_tag_class AnyStartTag = true
is_tag_class AnyEndTag = true
is_tag_class _ = false

-- a reply is given to tags alone, and raw text is that of a text state
abbrev replies_well : Class → Conclusion → Bool
replies_well c (RawText kind) = is_tag_class c && is_text_state (RawState kind)
replies_well c PlainText = is_tag_class c
replies_well c RunScript = is_tag_class c
replies_well c ReportEncoding = is_tag_class c
replies_well c _ = true

abbrev all_reply_well : List Row → Bool
all_reply_well [] = true
all_reply_well (r ∷ rs) = replies_well r.on r.ends && all_reply_well rs

modes-reply_well : (m : InsertionMode) → all_reply_well (rows m) ≡ true
unfolding rows
modes-reply_well = each-mode (λ m. all_reply_well (rows m)) refl

continues : (t : Token) → IsReplyTo t reply.Continue
continues (TagToken tag) = tt
continues _ = refl

-- a class of tags has tags alone
to_tag : (t : Token) (c : Class) (r : Reply) → is_tag_class c ≡ true → class_fits c t ≡ true → IsTagReply r → IsReplyTo t r
to_tag (TagToken tag) c r a b h = h
to_tag _ (StartTags names) r a b h = absurd (true≢false (sym b))
to_tag _ (EndTags names) r a b h = absurd (true≢false (sym b))
to_tag _ AnyStartTag r a b h = absurd (true≢false (sym b))
to_tag _ AnyEndTag r a b h = absurd (true≢false (sym b))
to_tag _ _ r a b h = absurd (true≢false (sym a))

abbrev EndsWell : Token → Ending → Type 0
EndsWell t (Finished acknowledged) = Unit {0}
EndsWell t Again = Unit {0}
EndsWell t (Replied r) = IsReplyTo t r

encoding-well : (o : Option (List ℕ)) (t : Token) (c : Class) → is_tag_class c ≡ true → class_fits c t ≡ true
    → EndsWell t (encoding_reply o)
encoding-well None t c a b = tt
encoding-well (Some label) t c a b = to_tag t c (reply.EncodingIndicator label) a b tt

concluded-well : (using : InsertionMode → Token → State → Turn) (t : Token)
    → ((m : InsertionMode) (s : State) → EndsWell t (using m t s).ends)
    → (c : Class) (e : Conclusion) → class_fits c t ≡ true → replies_well c e ≡ true → (n : ℕ) (s : State)
    → EndsWell t (concluded using e t n s).ends
concluded-well using t go c Done b h n s = tt
concluded-well using t go c Acknowledged b h n s = tt
concluded-well using t go c (Reprocess m) b h n s = tt
concluded-well using t go c ReprocessInOriginal b h n s = tt
concluded-well using t go c ReprocessInMode b h n s = tt
concluded-well using t go c (Using m) b h n s = go m s
concluded-well using t go c (UsingThen m after) b h n s = go m s
concluded-well using t go c UsingCurrentMode b h n s = go s.mode s
concluded-well using t go c (RawText kind) b h n s = let parts = and_parts (is_tag_class c)
    (is_text_state (RawState kind)) h in to_tag t c (reply.RawData kind) parts.0 b parts.1
concluded-well using t go c PlainText b h n s = to_tag t c reply.Plaintext h b tt
concluded-well using t go c RunScript b h n s = to_tag t c (reply.Script n) h b tt
concluded-well using t go c ReportEncoding b h n s = encoding-well (encoding_hint (attributes_of t)) t c h b

first-well : (using : InsertionMode → Token → State → Turn) (t : Token) → ((m : InsertionMode) (s : State) → EndsWell t (using m t s).ends)
    → (rs : List Row) → all_reply_well rs ≡ true → (s : State) → EndsWell t (turn_by_row using (first_fit rs t s) t s).ends
first-well using t go [] h s = tt
first-well using t go (r ∷ rs) h s =
    let parts = and_parts (replies_well r.on r.ends) (all_reply_well rs) h in
    by_fit (λ r. EndsWell t (turn_by_row using r t s).ends) r (first_fit rs t s) (fits r t s)
    (λ b. concluded-well using t go r.on r.ends (class_of_fits (class_fits r.on t) (λ _. holds r.when t s) b)
    parts.0 (current_number s.open_elems) (act r.does t s))
    (first-well using t go rs parts.1 s)

using-well : (n : ℕ) (t : Token) (m : InsertionMode) (s : State) → EndsWell t (using_rules_for n m t s).ends
unfolding using_rules_for
using-well zero t m s = tt
using-well (suc n) t m s = first-well (using_rules_for n) t (using-well n t) (rows m) (modes-reply_well m) s

either-well : (t : Token) (b : Bool) (x y : Turn) → EndsWell t x.ends → EndsWell t y.ends → EndsWell t (choose b (λ _. x) (λ _. y)).ends
either-well t true x y h k = h
either-well t false x y h k = k

turn-well : (t : Token) (s : State) → EndsWell t (turn t s).ends
unfolding turn
turn-well t s = either-well t (is_foreign s t) _ _
    (first-well (using_rules_for most_modes) t (using-well most_modes t) in_foreign_content refl s) (using-well most_modes t s.mode s)

settled-well : (again : State → Settled) (t : Token) → ((s : State) → IsReplyTo t (again s).reply) → (e : Ending)
    → EndsWell t e → (s : State) → IsReplyTo t (settled_by again e t s).reply
settled-well again t go (Finished acknowledged) h s = continues t
settled-well again t go Again h s = go s
settled-well again t go (Replied r) h s = h

within-well : (n : ℕ) (beyond : State → Settled) (t : Token) → ((s : State) → IsReplyTo t (beyond s).reply)
    → (s : State) → IsReplyTo t (within n beyond t s).reply
unfolding within
within-well zero beyond t go s = go s
within-well (suc n) beyond t go s = settled-well (within n beyond t) t (within-well n beyond t go) (turn t s).ends
    (turn-well t s) (turn t s).state

four-well : (xs : List Open) (t : Token) (s : State) → IsReplyTo t (four_for_each xs t s).reply
unfolding four_for_each
four-well [] t s = continues t
four-well (x ∷ xs) t s = within-well 4 (four_for_each xs t) t (four-well xs t) s

pub settle-well : (t : Token) (s : State) → IsReplyTo t (settle t s).reply
unfolding settle
settle-well t s = within-well 16 (four_for_each s.open_elems t) t (four-well s.open_elems t) s

pub text-continues : (text : List ℕ) (before : Settled) → before.reply ≡ reply.Continue → (text_taken text before).reply ≡ reply.Continue
text-continues [] before h = h
text-continues (c ∷ cs) before h = text-continues cs
    (followed_by before (settle (CharacterTokens (c ∷ [])) before.state)) (settle-well (CharacterTokens (c ∷ [])) before.state)

doctype-well : (e : Bool) (d : Doctype) (s : State) → IsReplyTo (DoctypeToken d) (doctype_settled e d s).reply
doctype-well true d s = settle-well (DoctypeToken d) s
doctype-well false d s = refl

taken_by-well : (b : Bool) (t : Token) (s : State) → IsReplyTo t (taken_by b t s).reply
taken_by-well b (CharacterTokens text) s = text-continues (after_line_feed b text) (untouched s) refl
taken_by-well b (DoctypeToken d) s = doctype-well (ends_table_text s.opts.rules s.mode) d s
taken_by-well b (TagToken tag) s = settle-well (TagToken tag) s
taken_by-well b (CommentToken text) s = settle-well (CommentToken text) s
taken_by-well b NullCharacterToken s = settle-well NullCharacterToken s
taken_by-well b EOFToken s = settle-well EOFToken s
taken_by-well b (ParseError message) s = settle-well (ParseError message) s

pub taken-well : (t : Token) (s : State) → IsReplyTo t (taken t s).reply
unfolding taken
taken-well t s = taken_by-well s.ignore_lf t (set_ignore_lf false s)
