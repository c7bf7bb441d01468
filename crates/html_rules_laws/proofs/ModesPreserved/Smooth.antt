-- Actions that leave the parts as they nest.
use Rattle.std.proofs.Common.{◌≡◌, ◌∙◌, ℕ, Bool, true, false, List, [], ◌∷◌, refl, sym, ap, true≢false, codes}
use Rattle.std.specs.Prelude.{◌||◌, ◌&&◌, not}
use Rattle.std.specs.Str.{bytes_eq}
use Rattle.std.proofs.lemmas.Bool.{and_parts}
use Rattle.std.proofs.lemmas.Slice.Eq.{bytes_eq-Decides}
use Rattle.html_tokens.specs.declared.tags.Tag.{Tag}
use Rattle.html_tokens.specs.declared.token.Token.{Token}
use Rattle.html_tokens.specs.declared.token.Token.TheVariants.{TagToken}
use Rattle.html_rules.specs.Actions.{act}
use Rattle.html_rules.specs.Choice.{choose}
use Rattle.html_rules.specs.Conditions.{holds}
use Rattle.html_rules.specs.ForeignContent.{is_end_tag, is_start_tag}
use Rattle.html_rules.specs.Names.{Namespace, Html, MathMl, Svg, Other}
use Rattle.html_rules.specs.Sets.{is_among, mathml_names_of, names_in, names_of, svg_names_of}
use Rattle.html_rules.specs.Stack.{generate_implied_end_tags, in_scope, left_from, nothing, parse_error}
use Rattle.html_rules.specs.State.{Open, State, current_is, is_in, is_named, named_in}
use Rattle.html_rules.specs.Table.{Condition, InScope, TokenInScope, CurrentIs, Action, When, ParseError, ImpliedEndTags}
use Rattle.html_rules.specs.Table.{ImpliedEndTagsExceptToken}
use Rattle.html_rules.specs.Tokens.{name_of}
use Rattle.html_rules.specs.declared.tag_set.TagSet.{TagSet}
use Rattle.html_rules.specs.declared.tag_set.TagSet.TheVariants as set
use Rattle.html_rules_laws.specs.Nesting.{Part, Root, Contents, TablePart, Section, RowPart, Cell, Ground, base, is_loose}
use Rattle.html_rules_laws.specs.Nesting.{may_stand, nested, part_of, parts, set_of, top}
use Rattle.html_rules_laws.proofs.Names.{disjoint, shares_name}
use Rattle.html_rules_laws.proofs.SetFacts.{all_among, among-all, apart, in-apart, in-within, within}
use Rattle.html_rules_laws.proofs.Termination.Kinds.{Kind, Starts, StartsBut, Ends, EndsBut, is_of}
use Rattle.html_rules_laws.proofs.ModesPreserved.Parts.{among-loose_name, are_loose, is_loose_name, set-part, share_none}
use Rattle.html_rules_laws.proofs.ModesPreserved.Stacks.{IsLoose, all-open, bounding, bounds, from-reach, is_bounded, reach}
use Rattle.html_rules_laws.proofs.ModesPreserved.Stacks.{reach-more, scope-reach}
use Rattle.html_rules_laws.proofs.ModesPreserved.Steps.{NamesLoose, except-reach, implied-loose, names-loose, set-all}
use Rattle.html_rules_laws.proofs.Bools.{both, no, not_true}

-- kinds of tokens none of which is named as a part

abbrev pub have_all : List (List ℕ) → List Part → Bool
have_all names [] = true
have_all names (p ∷ ps) = all_among (names_of (set_of p)) names && have_all names ps

abbrev pub loose_kind : Kind → Bool
loose_kind (Starts names) = share_none names parts
loose_kind (Ends names) = share_none names parts
loose_kind (StartsBut names) = have_all names parts
loose_kind (EndsBut names) = have_all names parts
loose_kind kind = true

but-loose : (names : List (List ℕ)) (ps : List Part) → have_all names ps ≡ true → (name : List ℕ)
    → is_among name names ≡ false → is_loose_name name ps ≡ true
but-loose names [] h name k = refl
but-loose names (p ∷ ps) h name k =
    let tests = and_parts (all_among (names_of (set_of p)) names) _ h in
    both _ _ (out (is_among name (names_of (set_of p))) refl tests.0) (but-loose names ps tests.1 name k)
  where
    out : (b : Bool) → is_among name (names_of (set_of p)) ≡ b → all_among (names_of (set_of p)) names ≡ true
        → not (is_among name (names_of (set_of p))) ≡ true
    out true e all = absurd (true≢false (sym (among-all name (names_of (set_of p)) names all e) ∙ k))
    out false e all = rw e refl

pub kind-loose : (kind : Kind) (tag : Tag) → loose_kind kind ≡ true → is_of kind (TagToken tag) ≡ true → is_loose_name tag.name parts ≡ true
kind-loose (Starts names) tag h k = among-loose_name names parts h tag.name (and_parts (is_start_tag tag.kind) _ k).1
kind-loose (Ends names) tag h k = among-loose_name names parts h tag.name (and_parts (is_end_tag tag.kind) _ k).1
kind-loose (StartsBut names) tag h k = but-loose names parts h tag.name (not_true _ (and_parts (is_start_tag tag.kind) _ k).1)
kind-loose (EndsBut names) tag h k = but-loose names parts h tag.name (not_true _ (and_parts (is_end_tag tag.kind) _ k).1)
kind-loose kind tag h k = no k

-- whether the part that was opened last passes
abbrev pub based : (Open → Bool) → List Open → Bool
based p [] = false
based p (x ∷ xs) = choose (is_loose (part_of x)) (λ _. based p xs) (λ _. p x)

-- what is known of the stack before an action
pub data Guard : Type 0 where
  NoGuard : Guard
  Reaches : (names : TagSet) → Guard
  ReachesToken : Guard
  Current : (names : TagSet) → Guard
  TokenBased : Guard

abbrev pub Holds : Guard → Token → State → Type 0
Holds NoGuard t s = Unit {0}
Holds (Reaches names) t s = reach (is_in names) s.open_elems ≡ true
Holds ReachesToken t s = reach (is_named (name_of t)) s.open_elems ≡ true
Holds (Current names) t s = current_is (is_in names) s.open_elems ≡ true
Holds TokenBased t s = based (is_named (name_of t)) s.open_elems ≡ true

abbrev pub is_tag_kind : Kind → Bool
is_tag_kind (Starts names) = true
is_tag_kind (Ends names) = true
is_tag_kind (StartsBut names) = true
is_tag_kind (EndsBut names) = true
is_tag_kind kind = false

abbrev is_li : Kind → TagSet → Bool
is_li (Ends names) items = all_among names (names_of set.Li) && (within items set.Li && within set.Li items)
is_li kind items = false

abbrev pub is_cell_kind : Kind → Bool
is_cell_kind (Ends names) = all_among names (names_of set.TdTh)
is_cell_kind kind = false

abbrev is_cell : Part → Bool
is_cell Cell = true
is_cell p = false

abbrev pub guard_of : Kind → Part → Condition → Guard
guard_of kind b (InScope scope names) = choose (is_bounded scope && are_loose names)
    (λ _. choose (is_li kind names) (λ _. ReachesToken) (λ _. Reaches names)) (λ _. NoGuard)
guard_of kind b (TokenInScope scope) =
    choose (is_bounded scope && (is_tag_kind kind && loose_kind kind)) (λ _. ReachesToken)
    (λ _. choose (is_bounded scope && (is_cell_kind kind && is_cell b)) (λ _. TokenBased) (λ _. NoGuard))
guard_of kind b (CurrentIs names) = Current names
guard_of kind b c = NoGuard

pub token-loose : (kind : Kind) (t : Token) → is_tag_kind kind ≡ true → loose_kind kind ≡ true → is_of kind t ≡ true
    → NamesLoose (name_of t)
token-loose (Starts names) (TagToken tag) g h k = names-loose tag.name (kind-loose (Starts names) tag h k)
token-loose (Ends names) (TagToken tag) g h k = names-loose tag.name (kind-loose (Ends names) tag h k)
token-loose (StartsBut names) (TagToken tag) g h k = names-loose tag.name (kind-loose (StartsBut names) tag h k)
token-loose (EndsBut names) (TagToken tag) g h k = names-loose tag.name (kind-loose (EndsBut names) tag h k)
token-loose (Starts names) t g h k = no k
token-loose (Ends names) t g h k = no k
token-loose (StartsBut names) t g h k = no k
token-loose (EndsBut names) t g h k = no k
token-loose kind t g h k = no g

-- an `li` is named as the token
li-named : (kind : Kind) (items : TagSet) → is_li kind items ≡ true → (t : Token) → is_of kind t ≡ true → (x : Open)
    → is_in items x ≡ true → is_named (name_of t) x ≡ true
unfolding names_of mathml_names_of svg_names_of
li-named (Ends names) items h (TagToken tag) k x i =
    let tests = and_parts (all_among names (names_of set.Li)) _ h in
    let more = and_parts (within items set.Li) _ tests.1 in
    let token = or_false (bytes_eq tag.name (codes "li"))
    (among-all tag.name names (names_of set.Li) tests.0 (and_parts (is_end_tag tag.kind) _ k).1) in
    by x.namespace x.name (in-within items set.Li more.0 x i) ((bytes_eq-Decides tag.name (codes "li")).0 token)
  where
    or_false : (b : Bool) → (b || false) ≡ true → b ≡ true
    or_false true h = refl
    or_false false h = h

    by : (namespace : Namespace) (name : List ℕ) → is_among name (names_in namespace set.Li) ≡ true
        → tag.name ≡ codes "li" → named_in namespace name tag.name ≡ true
    by Html name h e = rw e (or_false (bytes_eq name (codes "li")) h)
    by MathMl name h e = no h
    by Svg name h e = no h
    by (Other uri) name h e = no h
li-named (Ends names) items h t k x i = no k
li-named kind items h t k x i = no h

-- a cell is no loose element
cell-named : (kind : Kind) → is_cell_kind kind ≡ true → (t : Token) → is_of kind t ≡ true → (x : Open)
    → is_named (name_of t) x ≡ true → is_in set.TdTh x ≡ true
cell-named (Ends names) h (TagToken tag) k x i = by x.namespace x.name i
    (among-all tag.name names (names_of set.TdTh) h (and_parts (is_end_tag tag.kind) _ k).1) where
      by : (namespace : Namespace) (name : List ℕ) → named_in namespace name tag.name ≡ true
          → is_among tag.name (names_of set.TdTh) ≡ true → is_among name (names_in namespace set.TdTh) ≡ true
      by Html name i h = rw ((bytes_eq-Decides name tag.name).0 i) h
      by MathMl name i h = no i
      by Svg name i h = no i
      by (Other uri) name i h = no i
cell-named (Ends names) h t k x i = no k
cell-named kind h t k x i = no h

pub cell-part : (kind : Kind) → is_cell_kind kind ≡ true → (t : Token) → is_of kind t ≡ true → (x : Open)
    → is_named (name_of t) x ≡ true → part_of x ≡ Cell
unfolding names_of mathml_names_of svg_names_of
cell-part kind h t k x i = set-part set.TdTh Cell refl x (cell-named kind h t k x i)

-- a cell in table scope is the part that was opened last, where that is a cell
module _ (g : Ground) (scope : TagSet) (s : is_bounded scope ≡ true) (p : Open → Bool)
    (cells : (x : Open) → p x ≡ true → part_of x ≡ Cell) where
  stop : (x : Open) (xs : List Open) → is_in scope x ≡ true → (part_of x ≡ Cell → ⊥) → in_scope scope p (x ∷ xs) ≡ false
  stop x xs i other = by (p x) refl where
    by : (b : Bool) → p x ≡ b → choose b (λ _. true) (λ _. choose (is_in scope x) (λ _. false) (λ _. in_scope scope p xs)) ≡ false
    by true e = absurd (other (cells x e))
    by false e = rw i refl

  go-on : (x : Open) (xs : List Open) → in_scope scope p xs ≡ false → (part_of x ≡ Cell → ⊥) → in_scope scope p (x ∷ xs) ≡ false
  go-on x xs rest other = by (p x) (is_in scope x) refl where
    by : (b c : Bool) → p x ≡ b → choose b (λ _. true) (λ _. choose c (λ _. false) (λ _. in_scope scope p xs)) ≡ false
    by true c e = absurd (other (cells x e))
    by false true e = refl
    by false false e = rest

  bound : (q : Part) (xs : List Open) → top xs ≡ q → bounds q ≡ true → in_scope scope p xs ≡ false
  bound q [] e b = refl
  bound q (x ∷ xs) e b = stop x xs (bounding scope s x (rw e b)) (λ cell. let same : Cell ≡ q = sym cell
      ∙ e in true≢false (sym b ∙ ap bounds (sym same)))

  under-section : (xs : List Open) → nested g xs ≡ true → top xs ≡ Section → in_scope scope p xs ≡ false
  under-section [] n e = absurd (cc)
  under-section (x ∷ xs) n e =
      go-on x xs (by (top xs) refl (rw e at ((and_parts (may_stand g (part_of x) (top xs)) _ n).0))) (λ cell. absurd (cc)) where
        by : (q : Part) → top xs ≡ q → may_stand g Section q ≡ true → in_scope scope p xs ≡ false
        by TablePart e h = bound TablePart xs e refl
        by Contents e h = bound Contents xs e refl
        by Root e h = bound Root xs e refl
        by q e h = no h

  under-row : (xs : List Open) → nested g xs ≡ true → top xs ≡ RowPart → in_scope scope p xs ≡ false
  under-row [] n e = absurd (cc)
  under-row (x ∷ xs) n e =
      let tests = and_parts (may_stand g (part_of x) (top xs)) _ n in
      go-on x xs (by (top xs) refl (rw e at tests.0) tests.1) (λ cell. absurd (cc))
    where
      by : (q : Part) → top xs ≡ q → may_stand g RowPart q ≡ true → nested g xs ≡ true → in_scope scope p xs ≡ false
      by Section e h n = under-section xs n e
      by Contents e h n = bound Contents xs e refl
      by Root e h n = bound Root xs e refl
      by q e h n = no h

  pub cell-based : (xs : List Open) → nested g xs ≡ true → base xs ≡ Cell → in_scope scope p xs ≡ true → based p xs ≡ true
  cell-based [] n e i = i
  cell-based (x ∷ xs) n e i = by (is_loose (part_of x)) refl e (cell-based xs tests.1) where
    tests : (may_stand g (part_of x) (top xs) ≡ true) × (nested g xs ≡ true)
    tests = and_parts (may_stand g (part_of x) (top xs)) _ n

    further : (p x ≡ true → ⊥) → in_scope scope p xs ≡ true
    further out = go (p x) (is_in scope x) refl i where
      go : (b c : Bool) → p x ≡ b → choose b (λ _. true) (λ _. choose c (λ _. false) (λ _. in_scope scope p xs)) ≡
          true → in_scope scope p xs ≡ true
      go true c e i = absurd (out e)
      go false true e i = no i
      go false false e i = i

    below : (q : Part) → top xs ≡ q → may_stand g Cell q ≡ true → in_scope scope p xs ≡ false
    below RowPart e h = under-row xs tests.1 e
    below Contents e h = bound Contents xs e refl
    below Root e h = bound Root xs e refl
    below q e h = no h

    by : (b : Bool) → is_loose (part_of x) ≡ b → choose b (λ _. base xs) (λ _. part_of x) ≡ Cell
        → (base xs ≡ Cell → in_scope scope p xs ≡ true → based p xs ≡ true) → choose b (λ _. based p xs) (λ _. p x) ≡ true
    by true l e rest = rest e (further (λ h. true≢false (sym l ∙ ap is_loose (cells x h))))
    by false l e rest = own (p x) refl where
      own : (b : Bool) → p x ≡ b → p x ≡ true
      own true h = h
      own false h = absurd (true≢false (sym (further (λ k. true≢false (sym k ∙ h))) ∙ below (top xs) refl (rw e at tests.0)))

pub guard-holds : (g : Ground) (kind : Kind) (b : Part) (c : Condition) (t : Token) (s : State)
    → nested g s.open_elems ≡ true → base s.open_elems ≡ b → is_of kind t ≡ true → holds c t s ≡ true → Holds (guard_of kind b c) t s
guard-holds g kind b (InScope scope names) t s n e k h = by (is_bounded scope && are_loose names) (is_li kind names) refl refl where
  by : (a c : Bool) → (is_bounded scope && are_loose names) ≡ a → is_li kind names ≡ c
      → Holds (choose a (λ _. choose c (λ _. ReachesToken) (λ _. Reaches names)) (λ _. NoGuard)) t s
  by true c e l = then c l (let tests = and_parts (is_bounded scope) (are_loose names) e in
      scope-reach g scope tests.0 (is_in names) s.open_elems n (set-all names tests.1 s.open_elems) h) where
        then : (c : Bool) → is_li kind names ≡ c → reach (is_in names) s.open_elems ≡ true
            → Holds (choose c (λ _. ReachesToken) (λ _. Reaches names)) t s
        then true l r = reach-more (is_in names) (is_named (name_of t)) (li-named kind names l t k) s.open_elems r
        then false l r = r
  by false c e l = tt
guard-holds g kind b (TokenInScope scope) t s n e k h =
    by (is_bounded scope && (is_tag_kind kind && loose_kind kind)) (is_bounded scope && (is_cell_kind kind && is_cell b)) refl refl where
      cell : (b : Part) → is_cell b ≡ true → b ≡ Cell
      cell Cell h = refl
      cell b h = no h

      by : (a c : Bool) → (is_bounded scope && (is_tag_kind kind && loose_kind kind)) ≡ a
          → (is_bounded scope && (is_cell_kind kind && is_cell b)) ≡ c
          → Holds (choose a (λ _. ReachesToken) (λ _. choose c (λ _. TokenBased) (λ _. NoGuard))) t s
      by true c l m =
          let tests = and_parts (is_bounded scope) _ l in
          let more = and_parts (is_tag_kind kind) (loose_kind kind) tests.1 in
          scope-reach g scope tests.0 (is_named (name_of t)) s.open_elems n
          (all-open (λ x. is_named (name_of t) x ≡ true → IsLoose x) (token-loose kind t more.0 more.1 k) s.open_elems) h
      by false true l m =
          let tests = and_parts (is_bounded scope) _ m in
          let more = and_parts (is_cell_kind kind) (is_cell b) tests.1 in
          cell-based g scope tests.0 (is_named (name_of t)) (cell-part kind more.0 t k) s.open_elems n (e ∙ cell b more.1) h
      by false false l m = tt
guard-holds g kind b (CurrentIs names) t s n e k h = h
guard-holds g kind b c t s n e k h = tt

-- what keeps it

abbrev apart_implied : Kind → Bool
apart_implied (Ends names) = not (shares_name names (names_of set.CursoryImpliedEnd))
apart_implied kind = false

abbrev pub keeps : Kind → Guard → Action → Bool
keeps kind gd ParseError = true
keeps kind gd (When c ParseError) = true
keeps kind (Reaches names) ImpliedEndTags = apart names set.CursoryImpliedEnd
keeps kind ReachesToken ImpliedEndTags = apart_implied kind
keeps kind TokenBased ImpliedEndTags = true
keeps kind ReachesToken ImpliedEndTagsExceptToken = true
keeps kind gd a = false

same-holds : (gd : Guard) (t : Token) (s r : State) → r.open_elems ≡ s.open_elems → Holds gd t s → Holds gd t r
same-holds NoGuard t s r e h = tt
same-holds (Reaches names) t s r e h = rw e h
same-holds ReachesToken t s r e h = rw e h
same-holds (Current names) t s r e h = rw e h
same-holds TokenBased t s r e h = rw e h

error-same : (s : State) → (parse_error s).open_elems ≡ s.open_elems
unfolding parse_error
error-same s = refl

error-holds : (gd : Guard) (t : Token) (s : State) → Holds gd t s → Holds gd t (parse_error s)
error-holds gd t s h = same-holds gd t s (parse_error s) (error-same s) h

when-holds : (gd : Guard) (t : Token) (b : Bool) (s : State) → Holds gd t s → Holds gd t (choose b (λ _. parse_error s) (λ _. s))
when-holds gd t true s h = error-holds gd t s h
when-holds gd t false s h = h

named-implied : (names : List (List ℕ)) → shares_name names (names_of set.CursoryImpliedEnd) ≡ false
    → (name : List ℕ) → is_among name names ≡ true → (x : Open) → is_named name x ≡ true → is_in set.CursoryImpliedEnd x ≡ false
named-implied names h name k x i = by x.namespace x.name i where
  by : (namespace : Namespace) (own : List ℕ) → named_in namespace own name ≡ true
      → is_among own (names_in namespace set.CursoryImpliedEnd) ≡ false
  by Html own i = rw ((bytes_eq-Decides own name).0 i) (disjoint name names (names_of set.CursoryImpliedEnd) h k)
  by MathMl own i = no i
  by Svg own i = no i
  by (Other uri) own i = no i

kind-implied : (kind : Kind) → apart_implied kind ≡ true → (t : Token) → is_of kind t ≡ true → (x : Open)
    → is_named (name_of t) x ≡ true → is_in set.CursoryImpliedEnd x ≡ false
kind-implied (Ends names) h (TagToken tag) k x i = named-implied names (not_true _ h) tag.name (and_parts (is_end_tag tag.kind) _ k).1 x i
kind-implied (Ends names) h t k x i = no k
kind-implied kind h t k x i = no h

implied-reach : (p : Open → Bool) → ((x : Open) → p x ≡ true → is_in set.CursoryImpliedEnd x ≡ false) → (s : State)
    → reach p s.open_elems ≡ true → reach p (generate_implied_end_tags set.CursoryImpliedEnd s).open_elems ≡ true
unfolding generate_implied_end_tags
implied-reach p h s r = from-reach p (λ x. not (is_in set.CursoryImpliedEnd x) || nothing x) (λ x k. rw (h x k) refl) s.open_elems r

-- what leaves is loose
from-based : (p stop : Open → Bool) → ((x : Open) → stop x ≡ false → IsLoose x) → (xs : List Open)
    → based p xs ≡ true → based p (left_from stop xs) ≡ true
from-based p stop h [] b = b
from-based p stop h (x ∷ xs) b = by (stop x) refl (from-based p stop h xs) where
  by : (c : Bool) → stop x ≡ c → (based p xs ≡ true → based p (left_from stop xs) ≡ true)
      → based p (choose c (λ _. x ∷ xs) (λ _. left_from stop xs)) ≡ true
  by true e rest = b
  by false e rest = rest (rw (h x e) at b)

implied-based : (p : Open → Bool) (s : State) → based p s.open_elems ≡ true
    → based p (generate_implied_end_tags set.CursoryImpliedEnd s).open_elems ≡ true
unfolding generate_implied_end_tags
implied-based p s b = from-based p (λ x. not (is_in set.CursoryImpliedEnd x) || nothing x) (λ x h. implied-loose nothing x h) s.open_elems b

pub keeps-holds : (kind : Kind) (gd : Guard) (a : Action) → keeps kind gd a ≡ true → (t : Token)
    → is_of kind t ≡ true → (s : State) → Holds gd t s → Holds gd t (act a t s)
keeps-holds kind gd ParseError h t k s i = error-holds gd t s i
keeps-holds kind gd (When c ParseError) h t k s i = when-holds gd t (holds c t s) s i
keeps-holds kind (Reaches names) ImpliedEndTags h t k s i = implied-reach (is_in names) (in-apart names set.CursoryImpliedEnd h) s i
keeps-holds kind ReachesToken ImpliedEndTags h t k s i = implied-reach (is_named (name_of t)) (kind-implied kind h t k) s i
keeps-holds kind TokenBased ImpliedEndTags h t k s i = implied-based (is_named (name_of t)) s i
keeps-holds kind ReachesToken ImpliedEndTagsExceptToken h t k s i = except-reach (is_named (name_of t)) s i
keeps-holds kind gd a h t k s i = no h
