-- White space that waits in a table.
use Rattle.std.proofs.Common.{◌≡◌, ◌∙◌, ℕ, suc, ◌≤◌, Bool, true, false, List, [], ◌∷◌, ◌++◌, Option, Some, None, refl, sym, ap}
use Rattle.std.proofs.Common.{arith, subst}
use Rattle.std.proofs.Common.{append-nil, append_assoc, true≢false}
use Rattle.std.proofs.lemmas.Bool.{and_parts}
use Rattle.std.specs.Prelude.{◌&&◌}
use Rattle.markup.specs.Forest.{node_count, put_text}
use Rattle.html_tokens.specs.declared.token.Token.{Token}
use Rattle.html_tokens.specs.declared.token.Token.TheVariants.{TagToken, CharacterTokens, CommentToken, DoctypeToken, EOFToken}
use Rattle.html_tokens.specs.declared.token.Token.TheVariants.{NullCharacterToken, ParseError}
use Rattle.html_rules.specs.Actions.{insert_pending_text, keep_text, restore_mode, save_mode, set_ignore_lf, set_mode}
use Rattle.html_rules.specs.Conditions.{is_nonempty}
use Rattle.html_rules.specs.ForeignContent.{is_foreign, is_foreign_at, is_html_element}
use Rattle.html_rules.specs.Names.{Html, MathMl, Namespace, Other, Svg}
use Rattle.html_rules.specs.Places.{append_text}
use Rattle.html_rules.specs.Rules.{Again, Finished, Settled, Turn, four_for_each, is_self_closing, one_more_turn, rows, settle}
use Rattle.html_rules.specs.Rules.{settled_by, turn, turn_of}
use Rattle.html_rules.specs.Rules.{using_rules_for, within}
use Rattle.html_rules.specs.Sets.{mathml_names_of, names_of, svg_names_of}
use Rattle.html_rules.specs.State.{Open, State, adjusted_by, current_is, is_in}
use Rattle.html_rules.specs.Step.{after_line_feed, followed_by, taken, text_taken, untouched}
use Rattle.html_rules.specs.Tokens.{is_white}
use Rattle.html_rules.specs.declared.insertion_mode.InsertionMode.{InsertionMode}
use Rattle.html_rules.specs.declared.insertion_mode.InsertionMode.TheVariants as mode
use Rattle.html_rules.specs.declared.rules.Rules.{Rules}
use Rattle.html_rules.specs.declared.tag_set.TagSet.TheVariants as set
use Rattle.html_faithful.specs.Faces.{Face}
use Rattle.html_faithful.specs.Harmless as put
use Rattle.html_faithful.specs.Keeping.{IsAt}
use Rattle.html_faithful.specs.Spots.{Spot}
use Rattle.html_faithful.specs.Texts.{place_in}
use Rattle.html_faithful.specs.Turns.{IsDoneAt}
use Rattle.html_faithful.specs.Waiting.{IsBetween, IsInitial, IsTextWaiting, Pause, Still, Untyped, Waiting, Waits, comes_after, flushed}
use Rattle.html_faithful.specs.Waiting.{untyped}
use Rattle.html_faithful.specs.Walk.{begins_with_line_feed, is_table_mode, waits_at}
use Rattle.html_faithful.proofs.Faces.{current-blind, same}
use Rattle.html_faithful.proofs.Keeping.{at-stands, settled-so}
use Rattle.html_faithful.proofs.Listing.{adopts, settled}
use Rattle.html_faithful.proofs.Numbers.{below-more, grown}
use Rattle.html_faithful.proofs.Texts.{foster-none, no-line_feed, place-here, ready}
use Rattle.html_faithful.proofs.Turns.{first-turn, followed-within, turn-at_mode}

-- IN A TABLE CONTENT IS NOT FOREIGN

in-html : (rules : Rules) (n : ℕ) (namespace : Namespace) (name : List ℕ)
    → is_in set.FosterTarget (record { number = n; namespace = namespace; name = name; rules = rules }) ≡ true
    → is_html_element (record { number = n; namespace = namespace; name = name; rules = rules }) ≡ true
unfolding names_of mathml_names_of svg_names_of
in-html rules n Html name h = refl
in-html rules n MathMl name h = absurd (true≢false (sym h))
in-html rules n Svg name h = absurd (true≢false (sym h))
in-html rules n (Other uri) name h = absurd (true≢false (sym h))

pub at-html : (s : State) (x : Open) (t : Token) → is_html_element x ≡ true → is_foreign_at s (Some x) t ≡ false
at-html s x t h = rw h refl

own-content : (s : State) (t : Token) (o : Option Open) (xs : List Open) → o ≡ None → current_is (is_in set.FosterTarget) xs ≡ true
    → is_foreign_at s (adjusted_by o xs) t ≡ false
own-content s t o [] e h = absurd (true≢false (sym h))
own-content s t o (x ∷ xs) e h =
    ap (λ o. is_foreign_at s (adjusted_by o (x ∷ xs)) t) e ∙ at-html s x t (in-html x.rules x.number x.namespace x.name h)

not-foreign : (s : State) → s.context_elem ≡ None → current_is (is_in set.FosterTarget) s.open_elems ≡ true → (t : Token)
    → is_foreign s t ≡ false
unfolding is_foreign
not-foreign s e h EOFToken = refl
not-foreign s e h (TagToken tag) = own-content s (TagToken tag) s.context_elem s.open_elems e h
not-foreign s e h (CharacterTokens text) = own-content s (CharacterTokens text) s.context_elem s.open_elems e h
not-foreign s e h (CommentToken text) = own-content s (CommentToken text) s.context_elem s.open_elems e h
not-foreign s e h (DoctypeToken d) = own-content s (DoctypeToken d) s.context_elem s.open_elems e h
not-foreign s e h NullCharacterToken = own-content s NullCharacterToken s.context_elem s.open_elems e h
not-foreign s e h (ParseError message) = own-content s (ParseError message) s.context_elem s.open_elems e h

-- THE TOKEN AFTER IT

-- tags and comments
abbrev is_prompt : Token → Bool
is_prompt (TagToken tag) = true
is_prompt (CommentToken text) = true
is_prompt t = false

prompt-waiting : (t : Token) → comes_after Waiting t ≡ true → is_prompt t ≡ true
prompt-waiting (TagToken tag) h = refl
prompt-waiting (CommentToken text) h = refl
prompt-waiting t h = absurd (true≢false (sym h))

flushed-white : (s : State) → is_white s.pending_table_text ≡ true → restore_mode (insert_pending_text s) ≡ flushed s
unfolding insert_pending_text
flushed-white s h = rw h refl

first-flushes : (t : Token) (s : State) → is_prompt t ≡ true
    → using_rules_for 4 mode.InTableText t s ≡ turn_of (restore_mode (insert_pending_text s)) Again
unfolding using_rules_for rows
first-flushes (TagToken tag) s h = refl
first-flushes (CommentToken text) s h = refl
first-flushes t s h = absurd (true≢false (sym h))

module _ (s : State) (w : Waits s) (t : Token) (first : is_prompt t ≡ true) where
  flush-turn : turn t s ≡ turn_of (flushed s) Again
  flush-turn =
      turn-at_mode t s (not-foreign s w.no_context w.in_table t)
      ∙ (ap (λ m. using_rules_for 4 m t s) w.mode ∙ (first-flushes t s first ∙ ap (λ s. turn_of s Again) (flushed-white s w.white)))

  flush-settled : settle t s ≡ one_more_turn (within 15 (four_for_each s.open_elems t) t (flushed s))
  unfolding settle
  flush-settled =
      let beyond = four_for_each s.open_elems t in
      first-turn 15 beyond t s ∙ ap (λ (made : Turn). settled_by (within 15 beyond t) made.ends t made.state) flush-turn

-- a doctype is missed before a tag
misses-doctype : (t : Token) (s : State) → comes_after Untyped t ≡ true → s.opts.iframe_srcdoc ≡ false
    → using_rules_for 4 mode.Initial t s ≡ turn_of (untyped s) Again
unfolding using_rules_for rows
misses-doctype (TagToken tag) s h e = rw e refl
misses-doctype t s h e = absurd (true≢false (sym h))

-- where nothing is open content is not foreign
nothing-open : (s : State) (t : Token) (o : Option Open) → adjusted_by o [] ≡ None → is_foreign_at s (adjusted_by o []) t ≡ false
nothing-open s t o e = ap (λ x. is_foreign_at s x t) e

none-adjusted : (o : Option Open) → adjusted_by o [] ≡ None
none-adjusted None = refl
none-adjusted (Some x) = refl

first-own : (s : State) → s.open_elems ≡ [] → (t : Token) → comes_after Untyped t ≡ true → is_foreign s t ≡ false
unfolding is_foreign
first-own s e (TagToken tag) h =
    ap (λ xs. is_foreign_at s (adjusted_by s.context_elem xs) (TagToken tag)) e
    ∙ nothing-open s (TagToken tag) s.context_elem (none-adjusted s.context_elem)
first-own s e t h = absurd (true≢false (sym h))

module _ (s : State) (i : IsInitial s) (t : Token) (first : comes_after Untyped t ≡ true) where
  missed-turn : turn t s ≡ turn_of (untyped s) Again
  missed-turn =
      turn-at_mode t s (first-own s i.none_open t first)
      ∙ (ap (λ m. using_rules_for 4 m t s) i.mode ∙ misses-doctype t s first i.no_srcdoc)

  missed-settled : settle t s ≡ one_more_turn (within 15 (four_for_each s.open_elems t) t (untyped s))
  unfolding settle
  missed-settled =
      let beyond = four_for_each s.open_elems t in
      first-turn 15 beyond t s ∙ ap (λ (made : Turn). settled_by (within 15 beyond t) made.ends t made.state) missed-turn

-- what is made of a token is done in one turn less
done-later : (r : State) (p : Spot) → IsAt r p → (t : Token) → is_self_closing t ≡ false → (beyond : State → Settled)
    → IsDoneAt t p r (one_more_turn (within 15 beyond t r))
done-later r p here t open_tag beyond =
    followed-within t p r (at-stands r p here) (settled here.lists) (adopts r here.lists here.numbered.0) open_tag 14 beyond (omega arith)

pub done-between : (pause : Pause) (s r : State) → IsBetween pause s r → (p : Spot) → IsAt r p → (t : Token) → comes_after pause t ≡ true
    → is_self_closing t ≡ false → IsDoneAt t p r (settle t s)
done-between Still s r e p here t first open_tag = subst (λ x. IsDoneAt t p r (settle t x)) e (settled-so r p here t open_tag)
done-between Waiting s r w p here t first open_tag =
    let beyond = four_for_each s.open_elems t in
    subst (λ left. IsDoneAt t p r left)
    (ap (λ x. one_more_turn (within 15 beyond t x)) w.1 ∙ sym (flush-settled s w.0 t (prompt-waiting t first)))
    (done-later r p here t open_tag beyond)
done-between Untyped s r w p here t first open_tag =
    let beyond = four_for_each s.open_elems t in
    subst (λ left. IsDoneAt t p r left)
    (ap (λ x. one_more_turn (within 15 beyond t x)) w.1 ∙ sym (missed-settled s w.0 t first)) (done-later r p here t open_tag beyond)

-- THE TEXT

-- the first character
abbrev begun : List ℕ → State → State
begun text s = keep_text text (set_mode mode.InTableText (save_mode s))

abbrev Keeps : State → Settled → Type 0
Keeps s left = (left.state ≡ s) × (left.is_settled ≡ true)

keeps-on : (c : ℕ) (s : State) → using_rules_for 4 mode.InTableText (CharacterTokens (c ∷ [])) s ≡ turn_of (keep_text (c
    ∷ []) s) (Finished false)
unfolding using_rules_for rows
keeps-on c s = refl

keep-turn : (c : ℕ) (s : State) → s.mode ≡ mode.InTableText → s.context_elem ≡ None
    → current_is (is_in set.FosterTarget) s.open_elems ≡ true
    → turn (CharacterTokens (c ∷ [])) s ≡ turn_of (keep_text (c ∷ []) s) (Finished false)
keep-turn c s m e h =
    let t = CharacterTokens (c ∷ []) in
    turn-at_mode t s (not-foreign s e h t) ∙ (ap (λ m. using_rules_for 4 m t s) m ∙ keeps-on c s)

keep-within : (n : ℕ) (beyond : State → Settled) (c : ℕ) (s : State) → s.mode ≡ mode.InTableText → s.context_elem ≡ None
    → current_is (is_in set.FosterTarget) s.open_elems ≡ true
    → Keeps (keep_text (c ∷ []) s) (within (suc n) beyond (CharacterTokens (c ∷ [])) s)
keep-within n beyond c s m e h =
    let t = CharacterTokens (c ∷ []) in
    subst (λ left. Keeps (keep_text (c ∷ []) s) left)
    (sym (first-turn n beyond t s ∙ ap (λ (made : Turn). settled_by (within n beyond t) made.ends t made.state) (keep-turn c s m e h)))
    (refl, refl)

begins-in : (c : ℕ) (s : State) (m : InsertionMode) → is_table_mode m ≡ true → current_is (is_in set.FosterTarget) s.open_elems ≡ true
    → using_rules_for 4 m (CharacterTokens (c ∷ [])) s ≡ turn_of (set_mode mode.InTableText (save_mode s)) Again
unfolding using_rules_for rows
begins-in c s mode.InTable k h = rw h refl
begins-in c s mode.InTableBody k h = rw h refl
begins-in c s mode.InRow k h = rw h refl
begins-in c s m k h = absurd (true≢false (sym k))

begin-turn : (c : ℕ) (s : State) → is_table_mode s.mode ≡ true → s.context_elem ≡ None
    → current_is (is_in set.FosterTarget) s.open_elems ≡ true
    → turn (CharacterTokens (c ∷ [])) s ≡ turn_of (set_mode mode.InTableText (save_mode s)) Again
begin-turn c s k e h =
    let t = CharacterTokens (c ∷ []) in turn-at_mode t s (not-foreign s e h t) ∙ begins-in c s s.mode k h

begin-settled : (c : ℕ) (s : State) → is_table_mode s.mode ≡ true → s.context_elem ≡ None
    → current_is (is_in set.FosterTarget) s.open_elems ≡ true
    → Keeps (begun (c ∷ []) s) (settle (CharacterTokens (c ∷ [])) s)
unfolding settle set_mode save_mode
begin-settled c s k e h =
    let t = CharacterTokens (c ∷ []) in
    let beyond = four_for_each s.open_elems t in
    let there = set_mode mode.InTableText (save_mode s) in
    subst (λ left. Keeps (begun (c ∷ []) s) left)
    (sym (first-turn 15 beyond t s ∙ ap (λ (made : Turn). settled_by (within 15 beyond t) made.ends t made.state) (begin-turn c s k e h)))
    (keep-within 14 beyond c there refl e h)

both-so : (a b : Bool) → a ≡ true → b ≡ true → (a && b) ≡ true
both-so true b h g = g
both-so false b h g = h

keep-none : (s : State) → s ≡ keep_text [] s
unfolding keep_text
keep-none s = ap (λ text. record s { pending_table_text = text }) (sym (append-nil s.pending_table_text))

keep-more : (c : ℕ) (cs : List ℕ) (s : State) → keep_text cs (keep_text (c ∷ []) s) ≡ keep_text (c ∷ cs) s
unfolding keep_text
keep-more c cs s = ap (λ text. record s { pending_table_text = text }) (append_assoc s.pending_table_text (c ∷ []) cs)

-- all characters after the first
keep-all : (text : List ℕ) (before : Settled) → before.is_settled ≡ true → before.state.mode ≡ mode.InTableText
    → before.state.context_elem ≡ None
    → current_is (is_in set.FosterTarget) before.state.open_elems ≡ true → Keeps (keep_text text before.state) (text_taken text before)
unfolding settle keep_text
keep-all [] before done m e h = (keep-none before.state, done)
keep-all (c ∷ cs) before done m e h =
    let t = CharacterTokens (c ∷ []) in
    let left = settle t before.state in
    let one : Keeps (keep_text (c ∷ []) before.state) left = keep-within 15
    (four_for_each before.state.open_elems t) c before.state m e h in
    let rest = keep-all cs (followed_by before left) (both-so before.is_settled left.is_settled done one.1)
    (ap (λ (s : State). s.mode) one.0 ∙ m)
    (ap (λ (s : State). s.context_elem) one.0 ∙ e) (ap (λ (s : State). current_is (is_in set.FosterTarget) s.open_elems) one.0 ∙ h) in
    (rest.0 ∙ (ap (keep_text cs) one.0 ∙ keep-more c cs before.state), rest.1)

kept-whole : (c : ℕ) (cs : List ℕ) (s : State) → is_table_mode s.mode ≡ true → s.context_elem ≡ None
    → current_is (is_in set.FosterTarget) s.open_elems ≡ true → Keeps (begun (c ∷ cs) s) (text_taken (c ∷ cs) (untouched s))
unfolding set_mode save_mode keep_text
kept-whole c cs s k e h =
    let left = settle (CharacterTokens (c ∷ [])) s in
    let one = begin-settled c s k e h in
    let rest = keep-all cs (followed_by (untouched s) left) one.1 (ap (λ (s : State). s.mode) one.0)
    (ap (λ (s : State). s.context_elem) one.0 ∙ e) (ap (λ (s : State). current_is (is_in set.FosterTarget) s.open_elems) one.0 ∙ h) in
    (rest.0 ∙ (ap (keep_text cs) one.0 ∙ keep-more c cs (set_mode mode.InTableText (save_mode s))), rest.1)

kept-text : (text : List ℕ) (s : State) → is_nonempty text ≡ true → is_table_mode s.mode ≡ true → s.context_elem ≡ None
    → current_is (is_in set.FosterTarget) s.open_elems ≡ true → Keeps (begun text s) (text_taken text (untouched s))
kept-text [] s some k e h = absurd (true≢false (sym some))
kept-text (c ∷ cs) s some k e h = kept-whole c cs s k e h

-- WHAT WAITS AT A SPOT

module _ (text : List ℕ) (s : State) (p : Spot) (here : IsAt s p) (some : is_nonempty text ≡ true) (white : is_white text ≡ true)
    (waits : waits_at p ≡ true) where
  in-part : is_table_mode s.mode ≡ true
  in-part = ap (λ (f : Face). is_table_mode f.mode) here.looks
      ∙ (and_parts (is_table_mode p.mode) (current_is (is_in set.FosterTarget) p.path) waits).0

  no-context : s.context_elem ≡ None
  no-context = ap (λ (f : Face). f.context) here.looks

  over-part : current_is (is_in set.FosterTarget) s.open_elems ≡ true
  over-part = same (current_is (is_in set.FosterTarget)) (current-blind (is_in set.FosterTarget) (λ x. refl)) s.open_elems p.path
      (ap (λ (f : Face). f.names) here.looks)
      ∙ (and_parts (is_table_mode p.mode) (current_is (is_in set.FosterTarget) p.path) waits).1

  all-text : s.pending_table_text ++ text ≡ text
  all-text = ap (λ old. old ++ text) here.no_text

  waits-now : Waits (begun text s)
  unfolding set_mode save_mode keep_text
  waits-now = record { mode = refl; white = ap is_white all-text ∙ white; in_table = over-part; no_context = no-context }

  put-now : (flushed (begun text s)).forest ≡ put_text s.forest (place_in s.open_elems) text
  unfolding set_mode save_mode keep_text restore_mode append_text
  put-now =
      ap (λ place. put_text s.forest place (s.pending_table_text ++ text))
      (place-here s.foster_parenting s.forest s.open_elems (foster-none s p here))
      ∙ ap (put_text s.forest (place_in s.open_elems)) all-text

  counts : node_count s.forest ≤ node_count (flushed (begun text s)).forest
  unfolding set_mode save_mode keep_text restore_mode append_text
  counts = grown (CharacterTokens (s.pending_table_text ++ text)) (Some put.TextHere) s

  at-now : IsAt (flushed (begun text s)) (record p { orig_mode = None })
  unfolding set_mode save_mode keep_text restore_mode append_text
  at-now = record {
    looks = ap (λ (f : Face). record f { orig_mode = None }) here.looks;
    lists = here.lists;
    form = here.form;
    numbered = (
      here.numbered.0,
      below-more (node_count s.forest)
          (node_count (flushed (begun text s)).forest) s.open_elems counts here.numbered.1,
    );
    counted = here.counted;
    unasked = here.unasked;
    no_text = refl;
  }

  kept-now : Keeps (begun text s) (text_taken text (untouched s))
  kept-now = kept-text text s some in-part no-context over-part

  stack-now : (flushed (begun text s)).open_elems ≡ s.open_elems
  unfolding set_mode save_mode keep_text restore_mode append_text
  stack-now = refl

  feeds-now : (begun text s).ignore_lf ≡ s.ignore_lf
  unfolding set_mode save_mode keep_text
  feeds-now = refl

  waiting-by : (left : Settled) → Keeps (begun text s) left → s.ignore_lf ≡ false
      → IsTextWaiting text s left (record p { orig_mode = None })
  waiting-by left k plain = record {
    is_done = k.1;
    waits = subst Waits (sym k.0) waits-now;
    keeps_line_feeds = ap (λ (s : State). s.ignore_lf) k.0 ∙ (feeds-now ∙ plain);
    now = subst (λ (s : State). IsAt (flushed s) (record p { orig_mode = None })) (sym k.0) at-now;
    tree = ap (λ (s : State). (flushed s).forest) k.0 ∙ put-now;
    stack = ap (λ (s : State). (flushed s).open_elems) k.0 ∙ stack-now;
  }

pub text-waits : (text : List ℕ) (drops : Bool) (p : Spot) (s : State) → IsAt s p → s.ignore_lf ≡ drops
    → (drops && begins_with_line_feed text) ≡ false → is_nonempty text ≡ true → is_white text ≡ true → waits_at p ≡ true
    → IsTextWaiting text s (taken (CharacterTokens text) s) (record p { orig_mode = None })
unfolding taken set_ignore_lf
text-waits text drops p s here e feed some white waits =
    let r = set_ignore_lf false s in
    let same_text : after_line_feed s.ignore_lf text ≡ text = ap (λ b. after_line_feed b text) e ∙ no-line_feed drops text feed in
    let is = waiting-by text r p (ready s p here) some white waits (text_taken text (untouched r))
    (kept-now text r p (ready s p here) some white waits)
    refl in
    subst (λ cs. IsTextWaiting text s (text_taken cs (untouched r)) (record p { orig_mode = None })) (sym same_text)
    (record {
      is_done = is.is_done;
      waits = is.waits;
      keeps_line_feeds = is.keeps_line_feeds;
      now = is.now;
      tree = is.tree;
      stack = is.stack;
    })
