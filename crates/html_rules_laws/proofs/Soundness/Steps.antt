-- Every token keeps a state sound, and the end does.
use Rattle.std.proofs.Common.{◌≡◌, ◌∙◌, ℕ, zero, suc, Bool, true, false, List, [], ◌∷◌, length, Option, Some, None, refl, sym}
use Rattle.std.proofs.Common.{ap, subst, true≢false}
use Rattle.std.specs.Prelude.{◌||◌, ◌&&◌, not, IfSome}
use Rattle.std.proofs.lemmas.Bool.{and_parts}
use Rattle.html_tokens.specs.declared.tags.Tag.{Tag}
use Rattle.html_tokens.specs.declared.tags.TagKind.{TagKind}
use Rattle.html_tokens.specs.declared.tags.TagKind.TheVariants.{StartTag, EndTag}
use Rattle.html_tokens.specs.declared.token.Token.{Token}
use Rattle.html_tokens.specs.declared.token.Token.TheVariants.{DoctypeToken, TagToken, CommentToken, CharacterTokens}
use Rattle.html_tokens.specs.declared.token.Token.TheVariants.{NullCharacterToken, EOFToken, ParseError as ErrorToken}
use Rattle.html_rules.specs.Actions.{act}
use Rattle.html_rules.specs.Choice.{choose}
use Rattle.html_rules.specs.Conditions.{is_nonempty}
use Rattle.html_rules.specs.ForeignContent.{foreign_start, is_end_tag, is_foreign, is_foreign_at, is_html_element, is_start_tag}
use Rattle.html_rules.specs.Modes.Foreign.{in_foreign_content}
use Rattle.html_rules.specs.Names.{Namespace, Html, MathMl, Svg, Other, is_html}
use Rattle.html_rules.specs.Rules.{Ending, Finished, Again, Replied, Settled, Turn, check_acknowledged, concluded, first_fit}
use Rattle.html_rules.specs.Rules.{four_for_each, is_self_closing, most_modes, settle, settled_by, turn, turn_by_row}
use Rattle.html_rules.specs.Rules.{using_rules_for, within}
use Rattle.html_rules.specs.Sets.{is_among, mathml_names_of, names_in, svg_names_of}
use Rattle.html_rules.specs.Shape.{is_at_root}
use Rattle.html_rules.specs.Stack.{has_open, parse_error}
use Rattle.html_rules.specs.State.{Open, State, adjusted_by, adjusted_current_node, current_number, is_in}
use Rattle.html_rules.specs.Step.{followed_by, text_taken}
use Rattle.html_rules.specs.Table.{Action, InsertForeign, Conclusion, Done, Acknowledged, UsingCurrentMode}
use Rattle.html_rules.specs.declared.insertion_mode.InsertionMode.{InsertionMode}
use Rattle.html_rules.specs.declared.insertion_mode.InsertionMode.TheVariants as mode
use Rattle.html_rules.specs.declared.tag_set.TagSet.TheVariants as set
use Rattle.html_rules_laws.specs.Held.{HasRoot, Held, wanted}
use Rattle.html_rules_laws.specs.Placing.{is_in_head, stand_well}
use Rattle.html_rules_laws.specs.Sound.{are_placed_under, asks_root, is_later, is_over_head_element, is_own}
use Rattle.html_rules_laws.proofs.Frames.Aside.{aside_kept}
use Rattle.html_rules_laws.proofs.Termination.Kinds.{Kind, Starts, StartsBut, EndsBut, Texts, Nulls, TheEnd, Others, is_of}
use Rattle.html_rules_laws.proofs.Soundness.Acts.{act-aside, act-tame, tame_in}
use Rattle.html_rules_laws.proofs.Soundness.Moves.{HoldsTame, is_loose, loose-tame, lost-tame}
use Rattle.html_rules_laws.proofs.Soundness.Scan.{scan, scan-holds}
use Rattle.html_rules_laws.proofs.Soundness.Tokens.{Holder, each_kind, foreign_row, foreign_sound, head_names}
use Rattle.html_rules_laws.proofs.Soundness.Tokens.{is_insert_foreign, mode_sound, modes_sound, named_apart, root_names}
use Rattle.html_rules_laws.proofs.Soundness.Tokens.{template_names, uses-held, uses_sound}
use Rattle.html_rules_laws.proofs.Frames.Tame.{foreign-tame}
use Rattle.html_rules_laws.proofs.Bools.{both, no, or_by}
use Rattle.html_rules_laws.proofs.Frames.KeptBySteps.{foreign-keeps}

-- an element that is foreign is not HTML's

foreign-at : (s : State) (o : Option Open) (t : Token) → is_foreign_at s o t ≡ true → IfSome o (λ x. is_html x.namespace ≡ false)
foreign-at s None t h = no h
foreign-at s (Some x) t h = not_true _ (and_parts (not (is_html_element x)) _ h).0 where
  not_true : (b : Bool) → not b ≡ true → b ≡ false
  not_true true h = sym h
  not_true false h = refl

pub foreign-there : (s : State) (t : Token) → is_foreign s t ≡ true → IfSome (adjusted_current_node s) (λ x. is_html x.namespace ≡ false)
unfolding is_foreign
foreign-there s EOFToken h = no h
foreign-there s t h = foreign-at s (adjusted_current_node s) t h

pub foreign-some : (s : State) (t : Token) → is_foreign s t ≡ true → adjusted_current_node s ≡ None → ⊥
unfolding is_foreign
foreign-some s EOFToken h e = true≢false (sym h)
foreign-some s t h e = true≢false (sym (rw e at h))

-- where the current node is HTML's by the mode

pub html-root : (x : Open) → is_in set.Html x ≡ true → is_html x.namespace ≡ true
unfolding mathml_names_of svg_names_of
html-root x h = by x.namespace x.name h where
  by : (namespace : Namespace) (name : List ℕ) → is_among name (names_in namespace set.Html) ≡ true → is_html namespace ≡ true
  by Html name h = refl
  by MathMl name h = no h
  by Svg name h = no h
  by (Other uri) name h = no h

html-head : (x : Open) → is_in set.Head x ≡ true → is_html x.namespace ≡ true
unfolding mathml_names_of svg_names_of
html-head x h = by x.namespace x.name h where
  by : (namespace : Namespace) (name : List ℕ) → is_among name (names_in namespace set.Head) ≡ true → is_html namespace ≡ true
  by Html name h = refl
  by MathMl name h = no h
  by Svg name h = no h
  by (Other uri) name h = no h

-- of two elements at least the current node is the adjusted one
two-adjusted : (context : Option Open) (x : Open) (xs : List Open) → has_open set.Html xs ≡ true
    → is_html x.namespace ≡ true → IfSome (adjusted_by context (x ∷ xs)) (λ x. is_html x.namespace ≡ true)
two-adjusted None x xs h k = k
two-adjusted (Some c) x [] h k = no h
two-adjusted (Some c) x (y ∷ ys) h k = k

root-adjusted : (context : Option Open) (xs : List Open) → asks_root context ≡ true → is_at_root xs ≡ true
    → stand_well xs ≡ true → IfSome (adjusted_by context xs) (λ x. is_html x.namespace ≡ true)
root-adjusted context [] a h w = no h
root-adjusted None (x ∷ xs) a h w = html-root x h
root-adjusted (Some c) (x ∷ []) a h w = html-root c a
root-adjusted (Some c) (x ∷ y ∷ ys) a h w = html-root x h

head-adjusted : (context : Option Open) (xs : List Open) → is_in_head xs ≡ true → IfSome (adjusted_by context xs)
    (λ x. is_html x.namespace ≡ true)
head-adjusted context [] h = no h
head-adjusted context (x ∷ xs) h = let parts = and_parts (is_in set.Head x) (has_open set.Html xs) h in
    two-adjusted context x xs parts.1 (html-head x parts.0)

in-head-html : (xs : List Open) → is_in_head xs ≡ true → has_open set.Html xs ≡ true
in-head-html [] h = no h
in-head-html (x ∷ xs) h = let own = (and_parts (is_in set.Head x) (has_open set.Html xs) h).1 in by (is_in set.Html x) own where
  by : (b : Bool) → has_open set.Html xs ≡ true → (b || has_open set.Html xs) ≡ true
  by true h = refl
  by false h = h

noscript-adjusted : (context : Option Open) (xs : List Open) → is_over_head_element xs ≡ true
    → IfSome (adjusted_by context xs) (λ x. is_html x.namespace ≡ true)
noscript-adjusted context [] h = no h
noscript-adjusted context (x ∷ xs) h =
    let parts = and_parts (is_own x) _ h in
    two-adjusted context x xs (in-head-html xs (and_parts (is_in_head xs) _ parts.1).0) (and_parts (is_html_element x) _ parts.0).0

text-adjusted : (context : Option Open) (o : Option InsertionMode) (xs : List Open) → are_placed_under o xs ≡ true
    → has_open set.Html xs ≡ true → IfSome (adjusted_by context xs) (λ x. is_html x.namespace ≡ true)
text-adjusted context None xs h r = no h
text-adjusted context (Some m) [] h r = no h
text-adjusted context (Some m) (x ∷ xs) h r =
    let own = (and_parts (is_own x) _ h).0 in
    let parts = and_parts (is_html_element x) _ own in
    let root : is_in set.Html x ≡ false = not_true _ (and_parts (not (is_in set.Html x)) _ parts.1).0 in
    two-adjusted context x xs (rw root at r) parts.0
  where
    not_true : (b : Bool) → not b ≡ true → b ≡ false
    not_true true h = sym h
    not_true false h = refl

pub both-ways : (o : Option Open) → IfSome o (λ x. is_html x.namespace ≡ true)
    → IfSome o (λ x. is_html x.namespace ≡ false) → (o ≡ None → ⊥) → ⊥
both-ways None h k some = some refl
both-ways (Some x) h k some = true≢false (sym h ∙ k)

empty-adjusted : (context : Option Open) (xs : List Open) → not (is_nonempty xs) ≡ true → adjusted_by context xs ≡ None
empty-adjusted context [] h = refl
empty-adjusted context (x ∷ xs) h = no h

-- in these modes the rules of foreign content hold for nothing
pub not-foreign : (m : InsertionMode) → is_loose m ≡ false → (s : State) → s.mode ≡ m → Held s → (t : Token)
    → is_foreign s t ≡ true → wanted s ≡ length s.template_modes → HasRoot s → ⊥
not-foreign mode.Initial l s e h t f k root = foreign-some s t f (empty-adjusted s.context_elem s.open_elems (rw e at (h.placed k root)))
not-foreign mode.BeforeHtml l s e h t f k root = foreign-some s t f (empty-adjusted s.context_elem s.open_elems (rw e at (h.placed k root)))
not-foreign mode.BeforeHead l s e h t f k root =
    let was : (is_at_root s.open_elems && stand_well s.open_elems) ≡ true = rw e at (h.placed k root) in
    let parts = and_parts (is_at_root s.open_elems) (stand_well s.open_elems) was in
    both-ways (adjusted_current_node s) (root-adjusted s.context_elem s.open_elems (rw e at h.head) parts.0 parts.1)
    (foreign-there s t f) (foreign-some s t f)
not-foreign mode.InHead l s e h t f k root =
    let was : (is_in_head s.open_elems && stand_well s.open_elems) ≡ true = rw e at (h.placed k root) in
    both-ways (adjusted_current_node s)
    (head-adjusted s.context_elem s.open_elems (and_parts (is_in_head s.open_elems) _ was).0) (foreign-there s t f) (foreign-some s t f)
not-foreign mode.InHeadNoscript l s e h t f k root =
    both-ways (adjusted_current_node s) (noscript-adjusted s.context_elem s.open_elems (rw e at (h.placed k root)))
    (foreign-there s t f) (foreign-some s t f)
not-foreign mode.Text l s e h t f k root =
    both-ways (adjusted_current_node s)
    (text-adjusted s.context_elem s.orig_mode s.open_elems (rw e at (h.placed k root)) (root (ap is_later e)))
    (foreign-there s t f) (foreign-some s t f)
not-foreign m l s e h t f k root = true≢false l

foreign-tames : (s : State) (t : Token) → Held s → is_foreign s t ≡ true → HoldsTame s
foreign-tames s t h f = by (is_loose s.mode) refl where
  by : (b : Bool) → is_loose s.mode ≡ b → HoldsTame s
  by true l = loose-tame s l h
  by false l = lost-tame s (not-foreign s.mode l s refl h t f) h

-- the rows of foreign content

insert-foreign : (a : Action) → is_insert_foreign a ≡ true → (t : Token) (s : State) → is_foreign s t ≡ true
    → Held s → HoldsTame s → Held (act a t s)
unfolding foreign_start
insert-foreign InsertForeign h (TagToken tag) s f is tames = tames (foreign_start tag s)
    (foreign-tame (adjusted_current_node s) tag (foreign-there s (TagToken tag) f) s is.listed)
    (foreign-keeps aside_kept (adjusted_current_node s) tag s)
insert-foreign InsertForeign h t s f is tames = is
insert-foreign a h t s f is tames = no h

foreign-held : (uses : Kind → InsertionMode → Bool) (using : InsertionMode → Token → State → Turn)
    (m : InsertionMode) (t : Token) → Holder uses using m t → (kind : Kind) (a : Action) (e : Conclusion)
    → foreign_row uses m kind a e ≡ true → is_of kind t ≡ true → (s : State) → is_foreign s t ≡ true → Held s → HoldsTame s → s.mode ≡ m
    → (script : ℕ) → Held (concluded using e t script (act a t s)).state
foreign-held uses using m t go kind a Done h k s f is tames e script = tames (act a t s)
    (act-tame kind a h t k s is.listed) (act-aside kind a h t s)
foreign-held uses using m t go kind a Acknowledged h k s f is tames e script =
    or_by (tame_in kind a) _ h (λ p. tames (act a t s) (act-tame kind a p t k s is.listed) (act-aside kind a p t s))
    (λ i. insert-foreign a i t s f is tames)
foreign-held uses using m t go kind a UsingCurrentMode h k s f is tames e script =
    let parts = and_parts (tame_in kind a) (uses kind m) h in
    let aside = act-aside kind a parts.0 t s in
    let same : (act a t s).mode ≡ m = aside.mode ∙ e in
    go kind (act a t s).mode (subst (λ m. uses kind m ≡ true) (sym same) parts.1) k (act a t s)
    (tames (act a t s) (act-tame kind a parts.0 t k s is.listed) aside) same
foreign-held uses using m t go kind a e h k s f is tames at script = no h

-- one turn

kind-held : (kind : Kind) (t : Token) → is_of kind t ≡ true → (s : State) → mode_sound s.mode kind ≡ true → Held s → Held (turn t s).state
unfolding turn mode_sound
kind-held kind t k s h is = by (is_foreign s t) refl where
  parts : (uses_sound 4 s.mode kind s.mode ≡ true) × (scan (foreign_sound (uses_sound 4 s.mode) s.mode) kind in_foreign_content ≡ true)
  parts = and_parts (uses_sound 4 s.mode kind s.mode) _ h

  by : (b : Bool) → is_foreign s t ≡ b
      → Held (choose b (λ _. turn_by_row (using_rules_for most_modes) (first_fit in_foreign_content t s) t s)
      (λ _. using_rules_for most_modes s.mode t s)).state
  by true f =
      scan-holds (foreign_sound (uses_sound 4 s.mode) s.mode) (λ r. Held (turn_by_row (using_rules_for 4) r t s).state) t s
      (λ inner r g of fits o. foreign-held (uses_sound 4 s.mode) (using_rules_for 4) s.mode t (uses-held 4 s.mode t)
      inner r.does r.ends g of s f is (foreign-tames s t is f) refl (current_number s.open_elems))
      is in_foreign_content kind parts.1 k
  by false f = uses-held 4 s.mode t kind s.mode parts.0 k s is refl

none_of : (a b c : Bool) → (a || false) ≡ false → (b || false) ≡ false → (c || false) ≡ false → not (a || (b || (c || false))) ≡ true
none_of true b c h k l = absurd (true≢false h)
none_of false true c h k l = absurd (true≢false k)
none_of false false true h k l = absurd (true≢false l)
none_of false false false h k l = refl

module _ (p : Kind → Bool) (all : each_kind p ≡ true) where
  start-kind : (tag : Tag) → is_start_tag tag.kind ≡ true → (kind : Kind) × ((p kind ≡ true) × (is_of kind (TagToken tag) ≡ true))
  start-kind tag s =
      let one = and_parts (p (Starts root_names)) _ all in
      let two = and_parts (p (Starts head_names)) _ one.1 in
      let three = and_parts (p (Starts template_names)) _ two.1 in
      let four = and_parts (p (StartsBut named_apart)) _ three.1 in
      by one.0 two.0 three.0 four.0 (is_among tag.name root_names) (is_among tag.name head_names)
      (is_among tag.name template_names) refl refl refl
    where
      by : p (Starts root_names) ≡ true → p (Starts head_names) ≡ true → p (Starts template_names) ≡ true
          → p (StartsBut named_apart) ≡ true → (a b c : Bool) → is_among tag.name root_names ≡ a
          → is_among tag.name head_names ≡ b → is_among tag.name template_names ≡ c
          → (kind : Kind) × ((p kind ≡ true) × (is_of kind (TagToken tag) ≡ true))
      by h1 h2 h3 h4 true b c ea eb ec = (Starts root_names, (h1, both _ _ s ea))
      by h1 h2 h3 h4 false true c ea eb ec = (Starts head_names, (h2, both _ _ s eb))
      by h1 h2 h3 h4 false false true ea eb ec = (Starts template_names, (h3, both _ _ s ec))
      by h1 h2 h3 h4 false false false ea eb ec = (StartsBut named_apart, (h4, both _ _ s (none_of _ _ _ ea eb ec)))

  last-kinds : (p (EndsBut []) ≡ true) × ((p Texts && (p Nulls && (p TheEnd && p Others))) ≡ true)
  last-kinds =
      let one = and_parts (p (Starts root_names)) _ all in
      let two = and_parts (p (Starts head_names)) _ one.1 in
      let three = and_parts (p (Starts template_names)) _ two.1 in
      let four = and_parts (p (StartsBut named_apart)) _ three.1 in
      and_parts (p (EndsBut [])) _ four.1

  tag-kind : (tag : Tag) (kind : TagKind) → tag.kind ≡ kind → (kind : Kind) × ((p kind ≡ true) × (is_of kind (TagToken tag) ≡ true))
  tag-kind tag StartTag e = start-kind tag (ap is_start_tag e)
  tag-kind tag EndTag e = (EndsBut [], (last-kinds.0, both _ _ (ap is_end_tag e) refl))

  kind-of : (t : Token) → (kind : Kind) × ((p kind ≡ true) × (is_of kind t ≡ true))
  kind-of (TagToken tag) = tag-kind tag tag.kind refl
  kind-of (CharacterTokens text) = (Texts, ((and_parts (p Texts) _ last-kinds.1).0, refl))
  kind-of NullCharacterToken = (Nulls, ((and_parts (p Nulls) _ (and_parts (p Texts) _ last-kinds.1).1).0, refl))
  kind-of EOFToken = (TheEnd, ((and_parts (p TheEnd) _ (and_parts (p Nulls) _ (and_parts (p Texts) _ last-kinds.1).1).1).0, refl))
  kind-of (CommentToken text) =
      (Others, ((and_parts (p TheEnd) _ (and_parts (p Nulls) _ (and_parts (p Texts) _ last-kinds.1).1).1).1, refl))
  kind-of (DoctypeToken d) = (Others, ((and_parts (p TheEnd) _ (and_parts (p Nulls) _ (and_parts (p Texts) _ last-kinds.1).1).1).1, refl))
  kind-of (ErrorToken message) =
      (Others, ((and_parts (p TheEnd) _ (and_parts (p Nulls) _ (and_parts (p Texts) _ last-kinds.1).1).1).1, refl))

pub turn-held : (t : Token) (s : State) → Held s → Held (turn t s).state
turn-held t s is = let k = kind-of (mode_sound s.mode) (modes_sound s.mode) t in kind-held k.0 t k.1.1 s k.1.0 is

-- a token

pub erred : (s : State) → Held s → Held (parse_error s)
unfolding parse_error
erred s h = record { listed = h.listed; modes = h.modes; head = h.head; original = h.original; most = h.most; placed = h.placed }

check-held : (acknowledged : Bool) (t : Token) (s : State) → Held s → Held (check_acknowledged acknowledged t s)
check-held true t s h = h
check-held false t s h = by (is_self_closing t) where
  by : (b : Bool) → Held (choose b (λ _. parse_error s) (λ _. s))
  by true = erred s h
  by false = h

settled-held : (again : State → Settled) → ((s : State) → Held s → Held (again s).state) → (e : Ending) (t : Token)
    (s : State) → Held s → Held (settled_by again e t s).state
settled-held again go (Finished acknowledged) t s h = check-held acknowledged t s h
settled-held again go Again t s h = go s h
settled-held again go (Replied r) t s h = h

within-held : (n : ℕ) (beyond : State → Settled) (t : Token) → ((s : State) → Held s → Held (beyond s).state)
    → (s : State) → Held s → Held (within n beyond t s).state
unfolding within
within-held zero beyond t go s h = go s h
within-held (suc n) beyond t go s h = settled-held (within n beyond t) (within-held n beyond t go) (turn t s).ends t
    (turn t s).state (turn-held t s h)

four-held : (xs : List Open) (t : Token) (s : State) → Held s → Held (four_for_each xs t s).state
unfolding four_for_each
four-held [] t s h = h
four-held (x ∷ xs) t s h = within-held 4 (four_for_each xs t) t (four-held xs t) s h

pub settle-held : (t : Token) (s : State) → Held s → Held (settle t s).state
unfolding settle
settle-held t s h = within-held 16 (four_for_each s.open_elems t) t (four-held s.open_elems t) s h

pub text-held : (text : List ℕ) (before : Settled) → Held before.state → Held (text_taken text before).state
text-held [] before h = h
text-held (c ∷ cs) before h = text-held cs (followed_by before (settle (CharacterTokens (c ∷ [])) before.state))
    (settle-held (CharacterTokens (c ∷ [])) before.state h)
