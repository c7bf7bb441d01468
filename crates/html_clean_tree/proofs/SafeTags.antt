-- A tag of a safe name is answered by that data goes on.
use Rattle.std.proofs.Common.{◌≡◌, ◌∙◌, ℕ, zero, suc, Bool, true, false, List, [], ◌∷◌, Option, Some, None, ap, refl, sym, true≢false}
use Rattle.std.specs.Prelude.{◌&&◌, ◌||◌, not, IfOk}
use Rattle.std.specs.List.{list_all}
use Rattle.std.specs.Str.{bytes_eq}
use Rattle.std.proofs.lemmas.Slice.Eq.{bytes_eq-Decides}
use Rattle.html_rules.specs.ForeignContent.{is_end_tag, is_start_tag}
use Rattle.html_rules.specs.Sets as sets
use Rattle.html_rules.specs.Sets.{names_of}
use Rattle.html_clean.specs.Names.{is_safe_name}
use Rattle.std.proofs.lemmas.Bool.{and_parts}
use Rattle.html_tokens.specs.Sink.{Refusal}
use Rattle.html_tokens.specs.declared.tags.Tag.{Tag}
use Rattle.html_tokens.specs.declared.replies.TokenSinkResult.TheVariants as reply
use Rattle.html_tokens.specs.declared.token.Token.{Token}
use Rattle.html_tokens.specs.declared.token.Token.TheVariants.{TagToken}
use Rattle.html_rules.specs.Actions.{act, set_ignore_lf}
use Rattle.html_rules.specs.Choice.{choose}
use Rattle.html_rules.specs.Conditions.{holds}
use Rattle.html_rules.specs.ForeignContent.{is_foreign}
use Rattle.html_rules.specs.Modes.Foreign.{in_foreign_content}
use Rattle.html_rules.specs.Rules.{Ending, Finished, Again, Replied, Settled, Turn, concluded, first_fit, fits, four_for_each}
use Rattle.html_rules.specs.Rules.{most_modes, rows, settle, settled_by, turn, turn_by_row, using_rules_for, within}
use Rattle.html_rules.specs.State.{Open, State, current_number, hushed}
use Rattle.html_rules.specs.Step.{refusal_of, step, step_by, taken}
use Rattle.html_rules.specs.Table.{Row, Class, StartTags, EndTags, Conclusion, Done, Acknowledged, Reprocess}
use Rattle.html_rules.specs.Table.{ReprocessInOriginal, ReprocessInMode, Using, UsingThen, UsingCurrentMode, RawText, PlainText}
use Rattle.html_rules.specs.Table.{RunScript, ReportEncoding}
use Rattle.html_rules.specs.Tokens.{class_fits}
use Rattle.html_rules.specs.declared.insertion_mode.InsertionMode.{InsertionMode}
use Rattle.html_rules_laws.proofs.FirstFit.{by_fit, class_of_fits}
use Rattle.html_rules_laws.proofs.EachMode.{each-mode}

abbrev pub is_unsafe : List ℕ → Bool
is_unsafe name = not (is_safe_name name)

-- a class of tags none of whose names is safe
abbrev is_unsafe_class : Class → Bool
is_unsafe_class (StartTags names) = list_all (λ name. is_unsafe name) (names_of names)
is_unsafe_class (EndTags names) = list_all (λ name. is_unsafe name) (names_of names)
is_unsafe_class _ = false

-- a reply is given to such tags alone
abbrev replies_well : Class → Conclusion → Bool
replies_well c (RawText kind) = is_unsafe_class c
replies_well c PlainText = is_unsafe_class c
replies_well c RunScript = is_unsafe_class c
replies_well c ReportEncoding = is_unsafe_class c
replies_well c _ = true

abbrev all_reply_well : List Row → Bool
all_reply_well [] = true
all_reply_well (r ∷ rs) = replies_well r.on r.ends && all_reply_well rs

modes-reply_well : (m : InsertionMode) → all_reply_well (rows m) ≡ true
unfolding rows names_of is_safe_name
modes-reply_well = each-mode (λ m. all_reply_well (rows m)) refl

foreign-reply_well : all_reply_well in_foreign_content ≡ true
unfolding names_of is_safe_name
foreign-reply_well = refl

-- a tag whose name is none of the unsafe ones
abbrev IsSafeTag : Token → Type 0
IsSafeTag (TagToken tag) = is_unsafe tag.name ≡ false
IsSafeTag t = ⊥

-- one of names of which each is unsafe is unsafe
among-by : (name x : List ℕ) (names : List (List ℕ)) → (is_unsafe x ≡ true)
    × (list_all (λ name. is_unsafe name) names ≡ true) → (b : Bool) → bytes_eq name x ≡ b → (b || sets.is_among name names) ≡ true
    → (list_all (λ name. is_unsafe name) names ≡ true → sets.is_among name names ≡ true → is_unsafe name ≡ true) → is_unsafe name ≡ true
among-by name x names p true e k later = ap (λ name. is_unsafe name) ((bytes_eq-Decides name x).0 e) ∙ p.0
among-by name x names p false e k later = later p.1 k

among-all : (name : List ℕ) (names : List (List ℕ)) → list_all (λ name. is_unsafe name) names ≡ true
    → sets.is_among name names ≡ true → is_unsafe name ≡ true
among-all name [] h k = absurd cc
among-all name (x ∷ names) h k = among-by name x names
    (and_parts (is_unsafe x) (list_all (λ name. is_unsafe name) names) h) (bytes_eq name x) refl k (among-all name names)

fits-unsafe : (b : Bool) (name : List ℕ) (names : List (List ℕ)) → list_all (λ name. is_unsafe name) names ≡ true
    → (b && sets.is_among name names) ≡ true → is_unsafe name ≡ false → ⊥
fits-unsafe b name names h k safe = absurd (true≢false (sym (among-all name names h (and_parts b (sets.is_among name names) k).1) ∙ safe))

-- no such class has a safe tag
unsafe-none : (t : Token) (c : Class) → IsSafeTag t → is_unsafe_class c ≡ true → class_fits c t ≡ true → ⊥
unsafe-none (TagToken tag) (StartTags names) safe a b = fits-unsafe (is_start_tag tag.kind) tag.name (names_of names) a b safe
unsafe-none (TagToken tag) (EndTags names) safe a b = fits-unsafe (is_end_tag tag.kind) tag.name (names_of names) a b safe
unsafe-none (TagToken tag) _ safe a b = absurd (true≢false (sym a))
unsafe-none _ c safe a b = absurd safe

abbrev EndsWell : Ending → Type 0
EndsWell (Finished acknowledged) = Unit {0}
EndsWell Again = Unit {0}
EndsWell (Replied r) = r ≡ reply.Continue

module _ (t : Token) (safe : IsSafeTag t) where
  concluded-well : (using : InsertionMode → Token → State → Turn) → ((m : InsertionMode) (s : State) → EndsWell (using m t s).ends)
      → (c : Class) (e : Conclusion) → class_fits c t ≡ true → replies_well c e ≡ true → (n : ℕ) (s : State)
      → EndsWell (concluded using e t n s).ends
  concluded-well using go c Done b h n s = tt
  concluded-well using go c Acknowledged b h n s = tt
  concluded-well using go c (Reprocess m) b h n s = tt
  concluded-well using go c ReprocessInOriginal b h n s = tt
  concluded-well using go c ReprocessInMode b h n s = tt
  concluded-well using go c (Using m) b h n s = go m s
  concluded-well using go c (UsingThen m after) b h n s = go m s
  concluded-well using go c UsingCurrentMode b h n s = go s.mode s
  concluded-well using go c (RawText kind) b h n s = absurd (unsafe-none t c safe h b)
  concluded-well using go c PlainText b h n s = absurd (unsafe-none t c safe h b)
  concluded-well using go c RunScript b h n s = absurd (unsafe-none t c safe h b)
  concluded-well using go c ReportEncoding b h n s = absurd (unsafe-none t c safe h b)

  first-well : (using : InsertionMode → Token → State → Turn) → ((m : InsertionMode) (s : State) → EndsWell (using m t s).ends)
      → (rs : List Row) → all_reply_well rs ≡ true → (s : State) → EndsWell (turn_by_row using (first_fit rs t s) t s).ends
  first-well using go [] h s = tt
  first-well using go (r ∷ rs) h s =
      let parts = and_parts (replies_well r.on r.ends) (all_reply_well rs) h in
      by_fit (λ r. EndsWell (turn_by_row using r t s).ends) r (first_fit rs t s) (fits r t s)
      (λ b. concluded-well using go r.on r.ends (class_of_fits (class_fits r.on t) (λ _. holds r.when t s) b)
      parts.0 (current_number s.open_elems) (act r.does t s))
      (first-well using go rs parts.1 s)

  using-well : (n : ℕ) (m : InsertionMode) (s : State) → EndsWell (using_rules_for n m t s).ends
  unfolding using_rules_for
  using-well zero m s = tt
  using-well (suc n) m s = first-well (using_rules_for n) (using-well n) (rows m) (modes-reply_well m) s

  either-well : (b : Bool) (x y : Turn) → EndsWell x.ends → EndsWell y.ends → EndsWell (choose b (λ _. x) (λ _. y)).ends
  either-well true x y h k = h
  either-well false x y h k = k

  turn-well : (s : State) → EndsWell (turn t s).ends
  unfolding turn
  turn-well s = either-well (is_foreign s t) _ _
      (first-well (using_rules_for most_modes) (using-well most_modes) in_foreign_content foreign-reply_well s)
      (using-well most_modes s.mode s)

  settled-well : (again : State → Settled) → ((s : State) → (again s).reply ≡ reply.Continue) → (e : Ending)
      → EndsWell e → (s : State) → (settled_by again e t s).reply ≡ reply.Continue
  settled-well again go (Finished acknowledged) h s = refl
  settled-well again go Again h s = go s
  settled-well again go (Replied r) h s = h

  within-well : (n : ℕ) (beyond : State → Settled) → ((s : State) → (beyond s).reply ≡ reply.Continue) → (s : State)
      → (within n beyond t s).reply ≡ reply.Continue
  unfolding within
  within-well zero beyond go s = go s
  within-well (suc n) beyond go s = settled-well (within n beyond t) (within-well n beyond go) (turn t s).ends
      (turn-well s) (turn t s).state

  four-well : (xs : List Open) (s : State) → (four_for_each xs t s).reply ≡ reply.Continue
  unfolding four_for_each
  four-well [] s = refl
  four-well (x ∷ xs) s = within-well 4 (four_for_each xs t) (four-well xs) s

  pub settle-well : (s : State) → (settle t s).reply ≡ reply.Continue
  unfolding settle
  settle-well s = within-well 16 (four_for_each s.open_elems t) (four-well s.open_elems) s

-- what the step answers
answered-well : (o : Option Refusal) (tag : Tag) (s : State) → is_unsafe tag.name ≡ false
    → IfOk (step_by o (TagToken tag) s) (λ p. p.1 ≡ reply.Continue)
unfolding taken
answered-well (Some refusal) tag s safe = tt
answered-well None tag s safe = settle-well (TagToken tag) safe (set_ignore_lf false (hushed s))

pub tag-continues : (tag : Tag) (s : State) (line : ℕ) → is_unsafe tag.name ≡ false
    → IfOk (step s (TagToken tag) line) (λ p. p.1 ≡ reply.Continue)
unfolding step
tag-continues tag s line safe = answered-well (refusal_of (TagToken tag) s) tag s safe
