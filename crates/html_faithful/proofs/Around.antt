-- Trees in the document and in the root, from a spot where they are faithful on.
use Rattle.std.proofs.Common.{◌≡◌, ◌∙◌, ℕ, ◌+◌, Bool, true, false, not, List, [], ◌∷◌, Option, Some, None, refl, sym, ap, subst, true≢false}
use Rattle.std.proofs.lemmas.Bool.{and_parts}
use Rattle.std.specs.Prelude.{◌&&◌, ◌||◌, IfSome, codes, cond, is_none, map}
use Rattle.markup.specs.Equality.{texts_by_value}
use Rattle.markup.specs.Forest.{Forest, IsParent, Last, Place, node_count, put, put_new, put_text, with_node}
use Rattle.markup.specs.Forest.NodeData.{Comment as CommentNode}
use Rattle.markup.specs.Named.{IsTree}
use Rattle.markup.specs.Trees.{Trees, Nothing, Text, Comment, ProcessingInstruction, Doctype, Element}
use Rattle.markup.specs.declared.attributes.Attribute.{Attribute}
use Rattle.markup.specs.declared.names.QualName.{QualName}
use Rattle.markup.proofs.TextPieces.{put_text-append}
use Rattle.html_tokens.specs.declared.token.Token.{Token}
use Rattle.html_tokens.specs.declared.token.Token.TheVariants.{CharacterTokens, CommentToken}
use Rattle.html_rules.specs.Actions.{restore_mode, set_ignore_lf, set_mode, set_quirks_mode}
use Rattle.html_rules.specs.Choice.{choose}
use Rattle.html_rules.specs.Conditions.{is_alone, is_nonempty}
use Rattle.html_rules.specs.Names.{Html, MathMl, Namespace, Other, Svg, element_name_of, namespace_of}
use Rattle.html_rules.specs.Places.{append_comment, append_comment_to_doc, append_comment_to_html, append_text, inside, next_open}
use Rattle.html_rules.specs.Rules.{Settled, is_self_closing, settle}
use Rattle.html_rules.specs.Sets.{mathml_names_of, names_of, svg_names_of}
use Rattle.html_rules.specs.Stack.{has_open, parse_error, root_number, without_current}
use Rattle.html_rules.specs.State.{Open, State, current_is, is_in}
use Rattle.html_rules.specs.Step.{taken}
use Rattle.html_rules.specs.Tokens.{is_white}
use Rattle.html_rules.specs.declared.rules.Rules.{Rules}
use Rattle.html_rules.specs.declared.tag_set.TagSet.TheVariants as set
use Rattle.html_faithful.specs.Around.{IsOpenAs, IsPlaceOf, IsRooted, IsStill}
use Rattle.html_faithful.specs.Checks.{is_kept_so}
use Rattle.html_faithful.specs.Faces.{Face, bare}
use Rattle.html_faithful.specs.Forms.{is_comment_text, is_kept}
use Rattle.html_faithful.specs.Harmless.{Made, Put, and_then, made_of}
use Rattle.html_faithful.specs.Harmless as put
use Rattle.html_faithful.specs.Inside.{next, trees_taken}
use Rattle.html_faithful.specs.Keeping.{IsAt}
use Rattle.html_faithful.specs.Planting.{IsKeptTree, element_put, place_under, planted}
use Rattle.html_faithful.specs.Spots.{Spot}
use Rattle.html_faithful.specs.Steps.{forest_by, stack_by}
use Rattle.html_faithful.specs.Tags.{IsFinished, IsStarted}
use Rattle.html_faithful.specs.Texts.{IsTextTaken, characters_put, place_in}
use Rattle.html_faithful.specs.Turns.{IsDoneAt}
use Rattle.html_faithful.specs.Waiting.{IsBetween, Pause, Still, Untyped, Waiting, comes_after, comes_first, flushed, is_untyped}
use Rattle.html_faithful.specs.Waiting.{is_waiting}
use Rattle.html_faithful.specs.Walk.{OfCurrent, OfDocument, OfRoot, Parent, ends_there, begins_with_line_feed, below, comment_put}
use Rattle.html_faithful.specs.Walk.{end_tag, finished}
use Rattle.html_faithful.specs.Walk.{fits_inside, is_current, is_plain, is_table_mode, is_template, is_text, is_void, is_written_so}
use Rattle.html_faithful.specs.Walk.{kids_walked}
use Rattle.html_faithful.specs.Walk.{may_stay, stands, start_tag, started, stays_open, text_put, text_walked, waits_at, walk}
use Rattle.html_faithful.proofs.Faces.{alone-blind, same}
use Rattle.html_faithful.proofs.Inside.{both-so, opened-done, opened-drops, opened-now, opened-tree}
use Rattle.html_faithful.proofs.Keeping.{Kept, kept-so}
use Rattle.html_faithful.proofs.Planting.{element-inner, element-keeps, keeps-same, keeps-trans, new-keeps, place-under, text-keeps}
use Rattle.html_faithful.proofs.Pointing.{template-blind}
use Rattle.html_faithful.proofs.Tags.{choose-so, ends, starts, then-so}
use Rattle.html_faithful.proofs.Texts.{foster-none, place-here, ready, texts-followed, weaker}
use Rattle.html_faithful.proofs.Waiting.{done-between, text-waits}

not-no : (b : Bool) → not b ≡ true → b ≡ false
not-no true h = absurd (true≢false (sym h))
not-no false h = refl

or-no₁ : (a b : Bool) → (a || b) ≡ false → a ≡ false
or-no₁ true b h = h
or-no₁ false b h = refl

-- PLACES

none-place : (xs : List Open) → is_nonempty xs ≡ false → place_in xs ≡ Last 0
none-place [] h = refl
none-place (x ∷ xs) h = absurd (true≢false h)

alone-place : (xs : List Open) → is_alone xs ≡ true → has_open set.Template xs ≡ false → place_in xs ≡ Last (root_number xs)
alone-place [] h k = absurd (true≢false (sym h))
alone-place (x ∷ []) h k = rw (or-no₁ (is_in set.Template x) false k) refl
alone-place (x ∷ y ∷ ys) h k = absurd (true≢false (sym h))

nonempty-blind : (xs : List Open) → is_nonempty (map bare xs) ≡ is_nonempty xs
nonempty-blind [] = refl
nonempty-blind (x ∷ xs) = refl

here-place : (parent : Parent) (place : Place) (s : State) (p : Spot) → IsAt s p → is_current parent p ≡ true
    → IsPlaceOf parent place s.open_elems → place_in s.open_elems ≡ place
here-place OfDocument place s p here h is =
    none-place s.open_elems (same is_nonempty nonempty-blind s.open_elems p.path (ap (λ (f : Face). f.names) here.looks)
    ∙ not-no (is_nonempty p.path) h) ∙ sym is
here-place OfRoot place s p here h is =
    let names = ap (λ (f : Face). f.names) here.looks in
    let parts = and_parts (is_alone p.path) (not (has_open set.Template p.path)) h in
    alone-place s.open_elems (same is_alone alone-blind s.open_elems p.path names ∙ parts.0)
    (same (has_open set.Template) template-blind s.open_elems p.path names ∙ not-no (has_open set.Template p.path) parts.1) ∙ sym is.0
here-place OfCurrent place s p here h is = sym is

root-below : (x : Open) (xs : List Open) → is_nonempty xs ≡ true → root_number (x ∷ xs) ≡ root_number xs
root-below x [] h = absurd (true≢false (sym h))
root-below x (y ∷ ys) h = refl

-- an element that stays open
stays-place : (parent : Parent) (place : Place) (name : QualName) (x : Open) (xs : List Open) → may_stay parent name ≡ true
    → stays_open name ≡ true → IsPlaceOf parent place xs → IsPlaceOf parent place (x ∷ xs)
stays-place OfDocument place name x xs m w is = is
stays-place OfRoot place name x xs m w is = (is.0 ∙ ap (λ n. Last n) (sym (root-below x xs is.1)), refl)
stays-place OfCurrent place name x xs m w is = absurd (true≢false (sym w ∙ not-no (stays_open name) m))

open-same : (parent : Parent) {xs ys : List Open} → ys ≡ xs → IsOpenAs parent xs ys
open-same OfDocument e = tt
open-same OfRoot e = tt
open-same OfCurrent e = e

open-then : (parent : Parent) (xs ys zs : List Open) → IsOpenAs parent xs ys → IsOpenAs parent ys zs → IsOpenAs parent xs zs
open-then OfDocument xs ys zs a b = tt
open-then OfRoot xs ys zs a b = tt
open-then OfCurrent xs ys zs a b = b ∙ a

-- COMMENTS

module _ (parent : Parent) (place : Place) (text : List ℕ) (s : State) (p : Spot) (here : IsAt s p)
    (is : IsPlaceOf parent place s.open_elems) where
  at-current : is_current parent p ≡ true → (append_comment text s).forest ≡ put_new s.forest place (CommentNode text)
  unfolding append_comment
  at-current h =
      let f = with_node s.forest (CommentNode text) in
      ap (λ place. put f place (node_count s.forest))
      (place-here s.foster_parenting f s.open_elems (foster-none s p here) ∙ here-place parent place s p here h is)

comment-there : (parent : Parent) (place : Place) (text : List ℕ) (s : State) (p : Spot) → IsAt s p → IsPlaceOf parent place s.open_elems
    → (o : Option Put) → stands parent p o ≡ true
    → (forest_by (CommentToken text) o s ≡ put_new s.forest place (CommentNode text)) × (stack_by o false s ≡ s.open_elems)
unfolding append_comment_to_doc append_comment_to_html
comment-there parent place text s p here is (Some put.CommentHere) h = (at-current parent place text s p here is h, refl)
comment-there OfRoot place text s p here is (Some put.InRoot) h =
    (ap (λ place. put_new s.forest place (CommentNode text)) (sym is.0), refl)
comment-there OfDocument place text s p here is (Some put.InDocument) h =
    (ap (λ place. put_new s.forest place (CommentNode text)) (sym is), refl)
comment-there parent place text s p here is o h = absurd (true≢false (sym h))

-- WHAT IS ASKED BETWEEN TOKENS

pub record Ready (parent : Parent) (n : ℕ) (before : Settled) (waits : Pause) (r : State) (p : Spot) : Type 0 where
  pub between : IsBetween waits before.state r
  pub still : IsStill parent waits
  pub here : IsAt r p
  pub done : before.is_settled ≡ true
  pub tree : IsTree r.forest
  pub at : IsParent r.forest n
  pub is : IsPlaceOf parent (Last n) r.open_elems

pub still-none : (parent : Parent) → IsStill parent Still
still-none OfDocument = refl
still-none OfRoot = tt
still-none OfCurrent = tt

-- what comes of a tag or a comment
abbrev pub Stepped : Parent → ℕ → (Forest → Forest) → State → Settled → Spot → Type 0
Stepped parent n grow r left after =
    (g : IsRooted parent (Last n) grow r left after) × (left.state.ignore_lf ≡ false) × (g.waits ≡ Still)

pub ready-after : (parent : Parent) (n : ℕ) (grow : Forest → Forest) (r : State) (left : Settled) (q : Spot) → IsParent r.forest n
    → (g : IsRooted parent (Last n) grow r left q) → Ready parent n left g.waits g.rested q
ready-after parent n grow r left q at g = record {
  between = g.between;
  still = g.still;
  here = g.now;
  done = g.is_done;
  tree = g.kept.tree;
  at = g.kept.parents n at;
  is = g.is_place;
}

-- the flag for line feeds is put aside before a tag or a comment
between-ready : (waits : Pause) (s r : State) → IsBetween waits s r → IsBetween waits (set_ignore_lf false s) (set_ignore_lf false r)
unfolding set_ignore_lf restore_mode append_text set_mode set_quirks_mode parse_error
between-ready Still s r e = ap (set_ignore_lf false) e
between-ready Waiting s r w =
    (record { mode = w.0.mode; white = w.0.white; in_table = w.0.in_table; no_context = w.0.no_context }, ap (set_ignore_lf false) w.1)
between-ready Untyped s r w = (
  record { mode = w.0.mode; none_open = w.0.none_open; no_context = w.0.no_context; no_srcdoc = w.0.no_srcdoc },
  ap (set_ignore_lf false) w.1,
)

pub done-next : (parent : Parent) (n : ℕ) (before : Settled) (waits : Pause) (r : State) (p : Spot) → Ready parent n before waits r p
    → (t : Token)
    → comes_after waits t ≡ true → is_self_closing t ≡ false
    → IsDoneAt t p (set_ignore_lf false r) (settle t (set_ignore_lf false before.state))
done-next parent n before waits r p ready_now t first open_tag =
    done-between waits (set_ignore_lf false before.state) (set_ignore_lf false r) (between-ready waits before.state r ready_now.between) p
    (ready r p ready_now.here) t first open_tag

comment-comes : (pause : Pause) (text : List ℕ) → is_untyped pause ≡ false → comes_after pause (CommentToken text) ≡ true
comment-comes Still text h = refl
comment-comes Waiting text h = refl
comment-comes Untyped text h = absurd (true≢false h)

pub start-comes : (pause : Pause) (name : QualName) (attributes : List Attribute) → comes_after pause (start_tag name attributes) ≡ true
start-comes Still name attributes = refl
start-comes Waiting name attributes = refl
start-comes Untyped name attributes = refl

pub end-comes : (pause : Pause) (name : QualName) → comes_after pause (end_tag name) ≡ true
end-comes Still name = refl
end-comes Waiting name = refl
end-comes Untyped name = refl

pub comment-next : (parent : Parent) (n : ℕ) (text : List ℕ) (before : Settled) (waits : Pause) (r : State) (p : Spot)
    → Ready parent n before waits r p → is_untyped waits ≡ false
    → IfSome (comment_put parent text p)
    (λ after. Stepped parent n (λ f. put_new f (Last n) (CommentNode text)) r (next (CommentToken text) before) after)
unfolding taken set_ignore_lf
comment-next parent n text before waits r p ready_now typed =
    let aside = set_ignore_lf false r in
    let now = ready r p ready_now.here in
    let t = CommentToken text in
    let left = settle t (set_ignore_lf false before.state) in
    let grow = λ (f : Forest). put_new f (Last n) (CommentNode text) in
    let P = λ (after : Spot). Stepped parent n grow r (next t before) after in
    let f = λ (made : Made). choose ((stands parent p made.put && is_plain made)
    && is_kept_so [] p made) (λ _. Some made.spot) (λ _. None) in
    then-so (made_of t p) f (Kept aside p now t refl left) P
    (kept-so aside p now t refl left (done-next parent n before waits r p ready_now t (comment-comes waits text typed) refl))
    (λ made kept. choose-so ((stands parent p made.put && is_plain made) && is_kept_so [] p made) (Some made.spot) P
    (λ h. let parts = and_parts (stands parent p made.put && is_plain made) (is_kept_so [] p made) h in
    let more = and_parts (stands parent p made.put) (is_plain made) parts.0 in
    let plain = and_parts (not made.closed) (not made.drops_line_feed) more.1 in
    let shut : made.closed ≡ false = not-no made.closed plain.0 in
    let there = comment-there parent (Last n) text aside p now ready_now.is made.put more.0 in
    let all = kept parts.1 in
    let stack : left.state.open_elems ≡ r.open_elems = all.0.0.1 ∙ (ap (λ c. stack_by made.put c aside) shut ∙ there.1) in
    let tree : left.state.forest ≡ grow r.forest = all.0.0.2 ∙ there.0 in (
      record {
        is_done = both-so before.is_settled left.is_settled ready_now.done all.0.1;
        waits = Still;
        begun = refl;
        still = still-none parent;
        rested = left.state;
        between = refl;
        now = all.1;
        tree = tree;
        kept = subst (IsKeptTree r.forest) (sym tree)
            (new-keeps r.forest n (CommentNode text) ready_now.tree ready_now.at
            (record { contents = refl; template = refl; name = refl }));
        is_place = subst (IsPlaceOf parent (Last n)) (sym stack) ready_now.is;
        is_open = open-same parent stack;
      },
      all.0.0.6 refl ∙ not-no made.drops_line_feed plain.1,
      refl,
    )))

-- TEXTS

-- characters that are put one by one are put as one text
characters-text : (text : List ℕ) (n : ℕ) (f : Forest) → IsTree f → IsParent f n → characters_put (Last n) text f ≡ put_text f (Last n) text
characters-text [] n f tree at = refl
characters-text (c ∷ cs) n f tree at =
    let one = text-keeps f n (c ∷ []) tree at in
    characters-text cs n (put_text f (Last n) (c ∷ [])) one.tree (one.parents n at) ∙ put_text-append f (Last n) (c ∷ []) cs tree.forest at

some-current : (q : Open → Bool) (xs : List Open) → current_is q xs ≡ true → is_nonempty xs ≡ true
some-current q [] h = absurd (true≢false (sym h))
some-current q (x ∷ xs) h = refl

still-waiting : (parent : Parent) (p : Spot) → is_current parent p ≡ true → waits_at p ≡ true → IsStill parent Waiting
still-waiting OfDocument p cur w =
    absurd (true≢false (sym (some-current (is_in set.FosterTarget) p.path (and_parts (is_table_mode p.mode)
    (current_is (is_in set.FosterTarget) p.path) w).1)
    ∙ not-no (is_nonempty p.path) cur))
still-waiting OfRoot p cur w = tt
still-waiting OfCurrent p cur w = tt

module _ (parent : Parent) (n : ℕ) (text : List ℕ) (drops : Bool) (before : Settled) (r : State) (p : Spot)
    (ready_now : Ready parent n before Still r p) (e : before.state.ignore_lf ≡ drops)
    (feed : (drops && begins_with_line_feed text) ≡ false) (some : is_nonempty text ≡ true) (cur : is_current parent p ≡ true) where
  abbrev pub texted : Forest → Forest
  texted f = put_text f (Last n) text

  abbrev pub Texted : Spot → Type 0
  Texted after =
      IsRooted parent (Last n) texted r (next (CharacterTokens text) before) after
      × ((next (CharacterTokens text) before).state.ignore_lf ≡ false)

  abbrev pub left : Settled
  left = taken (CharacterTokens text) before.state

  same_state : before.state ≡ r
  same_state = sym ready_now.between

  at-state : IsAt before.state p
  at-state = subst (λ (s : State). IsAt s p) ready_now.between ready_now.here

  place-now : place_in r.open_elems ≡ Last n
  place-now = here-place parent (Last n) r p ready_now.here cur ready_now.is

  rooted-by : (waits : Pause) (rested : State) (after : Spot) → left.is_settled ≡ true → IsStill parent waits → is_untyped waits ≡ false
      → IsBetween waits left.state rested
      → IsAt rested after → rested.forest ≡ texted r.forest → rested.open_elems ≡ r.open_elems
      → IsRooted parent (Last n) texted r (next (CharacterTokens text) before) after
  rooted-by waits rested after done still begun between now tree stack = record {
    is_done = both-so before.is_settled left.is_settled ready_now.done done;
    waits = waits;
    still = still;
    begun = begun;
    rested = rested;
    between = between;
    now = now;
    tree = tree;
    kept = subst (IsKeptTree r.forest) (sym tree) (text-keeps r.forest n text ready_now.tree ready_now.at);
    is_place = subst (IsPlaceOf parent (Last n)) (sym stack) ready_now.is;
    is_open = open-same parent stack;
  }

  walked-rooted : (q : Spot) → IsTextTaken text p before.state left q → Texted q
  walked-rooted q t = (
    rooted-by Still left.state q t.is_done (still-none parent) refl refl t.now
        (t.tree ∙ (ap (λ (s : State). characters_put (place_in s.open_elems) text s.forest) same_state
        ∙ (ap (λ place. characters_put place text r.forest) place-now ∙ characters-text text n r.forest ready_now.tree ready_now.at)))
        (t.stack ∙ ap (λ (s : State). s.open_elems) same_state),
    t.keeps_line_feeds,
  )

  waiting-rooted : is_white text ≡ true → waits_at p ≡ true → Texted (record p { orig_mode = None })
  waiting-rooted white w =
      let t = text-waits text drops p before.state at-state e feed some white w in (
        rooted-by Waiting (flushed left.state) (record p { orig_mode = None }) t.is_done (still-waiting parent p cur w) refl
            (t.waits, refl) t.now
            (t.tree ∙ (ap (λ (s : State). put_text s.forest (place_in s.open_elems) text) same_state
            ∙ ap (λ place. put_text r.forest place text) place-now))
            (t.stack ∙ ap (λ (s : State). s.open_elems) same_state),
        t.keeps_line_feeds,
      )

  text-by : (b : Bool) → waits_at p ≡ b
      → IfSome (choose b (λ _. choose (is_white text) (λ _. Some (record p { orig_mode = None })) (λ _. None))
      (λ _. text_walked text p)) Texted
  text-by true w = choose-so (is_white text) (Some (record p { orig_mode = None })) Texted (λ white. waiting-rooted white w)
  text-by false w =
      weaker (text_walked text p) (λ q. IsTextTaken text p before.state left q) Texted
      (texts-followed text drops p before.state at-state e feed)
      walked-rooted

  pub text-next : IfSome (text_put text p) Texted
  text-next = text-by (waits_at p) refl

-- ELEMENTS

html-plain : (rules : Rules) (namespace : Namespace) (n : ℕ) (name : List ℕ) → name ≡ codes "html"
    → is_in set.Template (record { number = n; namespace = namespace; name = name; rules = rules }) ≡ false
unfolding names_of mathml_names_of svg_names_of
html-plain rules Html n name e = rw e refl
html-plain rules MathMl n name e = refl
html-plain rules Svg n name e = refl
html-plain rules (Other uri) n name e = refl

abbrev pub Law : Bool → Parent → Trees → Type 0
Law scripting parent trees = (n : ℕ) (after_text drops : Bool) (before : Settled) (waits : Pause) (r : State) (p : Spot)
    → Ready parent n before waits r p → comes_first waits trees ≡ true → (after_text ≡ false → is_waiting waits ≡ false)
    → before.state.ignore_lf ≡ drops
    → IfSome (walk scripting parent after_text drops trees p)
    (λ after. IsRooted parent (Last n) (planted (Last n) trees) r (trees_taken trees before) after)

none-open : (xs : List Open) → is_nonempty xs ≡ false → xs ≡ []
none-open [] h = refl
none-open (x ∷ xs) h = absurd (true≢false h)

-- where an element's children are put
below-place : (parent : Parent) (name : QualName) (s : State) (p : Spot) → IsAt s p → is_current parent p ≡ true
    → may_stay parent name ≡ true
    → (namespace : Namespace) → namespace_of name.ns ≡ namespace → (xs : List Open)
    → xs ≡ next_open s namespace name.local ∷ s.open_elems → IsPlaceOf (below parent) (place_under name s.forest) xs
below-place OfDocument name s p here h m namespace known xs e =
    let empty : s.open_elems ≡ [] = none-open s.open_elems (same is_nonempty nonempty-blind s.open_elems p.path
    (ap (λ (f : Face). f.names) here.looks) ∙ not-no (is_nonempty p.path) h) in
    let only : xs ≡ next_open s namespace name.local ∷ [] = e ∙ ap (λ ys. next_open s namespace name.local ∷ ys) empty in
    let n = node_count s.forest in
    let under : place_under name s.forest ≡ Last n
    = rw (html-plain s.opts.rules (namespace_of name.ns) n name.local ((texts_by_value name.local (codes "html")).0 m)) refl in
    (under ∙ ap (λ ys. Last (root_number ys)) (sym only), ap is_nonempty only)
below-place OfRoot name s p here h m namespace known xs e =
    ap (λ ns. inside (record { number = node_count s.forest; namespace = ns; name = name.local; rules = s.opts.rules })) known ∙ ap place_in (sym e)
below-place OfCurrent name s p here h m namespace known xs e =
    ap (λ ns. inside (record { number = node_count s.forest; namespace = ns; name = name.local; rules = s.opts.rules })) known ∙ ap place_in (sym e)

-- what is open once an element has ended
end-place : (parent : Parent) (place : Place) (name : QualName) (x : Open) (xs ys zs : List Open) (w : Bool) → stays_open name ≡ w
    → may_stay parent name ≡ true → IsPlaceOf parent place xs → IsOpenAs (below parent) (x ∷ xs) ys → zs ≡ cond w ys (without_current ys)
    → IsPlaceOf parent place zs × IsOpenAs parent xs zs
end-place OfDocument place name x xs ys zs w k m is o e = (is, tt)
end-place OfRoot place name x xs ys zs true k m is o e =
    (subst (IsPlaceOf OfRoot place) (sym (e ∙ o)) (stays-place OfRoot place name x xs m k is), tt)
end-place OfRoot place name x xs ys zs false k m is o e =
    (subst (IsPlaceOf OfRoot place) (sym (e ∙ ap without_current o)) is, tt)
end-place OfCurrent place name x xs ys zs true k m is o e = absurd (true≢false (sym k ∙ not-no (stays_open name) m))
end-place OfCurrent place name x xs ys zs false k m is o e =
    (subst (IsPlaceOf OfCurrent place) (sym (e ∙ ap without_current o)) is, e ∙ ap without_current o)

module _ (scripting : Bool) (parent : Parent) (n : ℕ) (name : QualName) (attributes : List Attribute) (before : Settled) (waits : Pause)
    (r : State) (p : Spot)
    (ready_now : Ready parent n before waits r p) (made : Made)
    (o : IsStarted name attributes p (set_ignore_lf false r)
    (settle (start_tag name attributes) (set_ignore_lf false before.state)) made)
    (cur : is_current parent p ≡ true) (m : may_stay parent name ≡ true) where
  abbrev pub first : Settled
  first = next (start_tag name attributes) before

  abbrev pub element : Forest → Forest
  element f = element_put (Last n) name attributes f

  -- the number of the node in which the children are put
  abbrev pub inner : ℕ
  inner = cond (is_template name) (node_count r.forest + 1) (node_count r.forest)

  own : element_name_of (namespace_of name.ns) name.local ≡ name
  own = ap (λ ns. element_name_of ns name.local) o.known ∙ sym o.is_name

  first-tree : first.state.forest ≡ element r.forest
  first-tree =
      opened-tree name attributes before r p ready_now.here ready_now.done made o
      ∙ ap (λ place. element_put place name attributes r.forest) (here-place parent (Last n) r p ready_now.here cur ready_now.is)

  pub first-kept : IsKeptTree r.forest first.state.forest
  first-kept = subst (IsKeptTree r.forest) (sym first-tree) (element-keeps name attributes own n r.forest ready_now.tree ready_now.at)

  pub first-inner : IsParent first.state.forest inner
  first-inner = subst (λ f. IsParent f inner) (sym first-tree) (element-inner name attributes own n r.forest ready_now.tree ready_now.at)

  first-stack : is_void name ≡ false → first.state.open_elems ≡ next_open r o.namespace name.local ∷ r.open_elems
  unfolding taken set_ignore_lf
  first-stack v = o.stack ∙ rw v refl

  void-stack : is_void name ≡ true → first.state.open_elems ≡ r.open_elems
  unfolding taken set_ignore_lf
  void-stack v = o.stack ∙ rw v refl

  rooted-void : is_void name ≡ true → made.drops_line_feed ≡ false → Stepped parent n element r first made.spot
  rooted-void v d = (
    record {
      is_done = opened-done name attributes before r p ready_now.here ready_now.done made o;
      waits = Still;
      begun = refl;
      still = still-none parent;
      rested = first.state;
      between = refl;
      now = opened-now name attributes before r p ready_now.here ready_now.done made o;
      tree = first-tree;
      kept = first-kept;
      is_place = subst (IsPlaceOf parent (Last n)) (sym (void-stack v)) ready_now.is;
      is_open = open-same parent (void-stack v);
    },
    opened-drops name attributes before r p ready_now.here ready_now.done made o ∙ d,
    refl,
  )

  abbrev pub grown_inside : Trees → Forest → Forest
  grown_inside kids f = planted (place_under name f) kids (element f)

  rooted-full : is_void name ≡ false → (kids : Trees) (within : Settled) (q after : Spot)
      → (g : IsRooted (below parent) (Last inner) (planted (Last inner) kids) first.state within q)
      → IsFinished name q (set_ignore_lf false g.rested) (settle (end_tag name) (set_ignore_lf false within.state)) after
      → Stepped parent n (grown_inside kids) r (next (end_tag name) within) after
  unfolding taken set_ignore_lf
  rooted-full v kids within q after g e =
      let last = settle (end_tag name) (set_ignore_lf false within.state) in
      let x = next_open r o.namespace name.local in
      let ends_so = end-place parent (Last n) name x r.open_elems g.rested.open_elems last.state.open_elems
      (stays_open name) refl m ready_now.is
      (subst (λ xs. IsOpenAs (below parent) xs g.rested.open_elems) (first-stack v) g.is_open) e.stack in (
        record {
          is_done = both-so within.is_settled last.is_settled g.is_done e.is_done;
          waits = Still;
          begun = refl;
          still = still-none parent;
          rested = last.state;
          between = refl;
          now = e.now;
          tree = e.tree ∙ (g.tree ∙ (ap (λ f. planted (Last inner) kids f) first-tree
              ∙ ap (λ place. planted place kids (element r.forest)) (sym (place-under name r.forest))));
          kept = subst (IsKeptTree r.forest) (sym e.tree) (keeps-trans r.forest first.state.forest g.rested.forest first-kept g.kept);
          is_place = ends_so.0;
          is_open = ends_so.1;
        },
        e.keeps_line_feeds refl,
        refl,
      )

  pub first-ready : is_void name ≡ false → Ready (below parent) inner first Still first.state made.spot
  first-ready v = record {
    between = refl;
    still = still-none (below parent);
    here = opened-now name attributes before r p ready_now.here ready_now.done made o;
    done = opened-done name attributes before r p ready_now.here ready_now.done made o;
    tree = first-kept.tree;
    at = first-inner;
    is = subst (λ place. IsPlaceOf (below parent) place first.state.open_elems) (place-under name r.forest)
        (below-place parent name r p ready_now.here cur m o.namespace o.known first.state.open_elems (first-stack v));
  }

  abbrev pub walk_kids : Trees → Bool → Spot → Option Spot
  walk_kids kids drops p = walk scripting (below parent) false drops kids p

  pub element-case : (kids : Trees) → Law scripting (below parent) kids → (v : Bool) → is_void name ≡ v
      → IfSome (choose v (λ _. choose (ends_there kids made) (λ _. Some made.spot) (λ _. None))
      (λ _. kids_walked name kids (walk_kids kids) made))
      (λ after. Stepped parent n (grown_inside kids) r (cond v first (next (end_tag name) (trees_taken kids first))) after)
  element-case Nothing law true v =
      choose-so (ends_there Nothing made) (Some made.spot) (λ after. Stepped parent n element r first after)
      (λ b. rooted-void v (not-no made.drops_line_feed (and_parts (not made.drops_line_feed) (is_none made.raw) b).0))
  element-case kids law true v = tt
  element-case kids law false v =
      let within = trees_taken kids first in
      let P = λ (after : Spot). Stepped parent n (grown_inside kids) r (next (end_tag name) within) after in
      choose-so (fits_inside name kids made.raw) (and_then (walk_kids kids made.drops_line_feed made.spot) (λ p. finished name p)) P
      (λ b. then-so (walk_kids kids made.drops_line_feed made.spot) (λ p. finished name p)
      (λ q. IsRooted (below parent) (Last inner) (planted (Last inner) kids) first.state within q) P
      (law inner false made.drops_line_feed first Still first.state made.spot (first-ready v) refl (λ e. refl)
      (opened-drops name attributes before r p ready_now.here ready_now.done made o))
      (λ q g. let aside = set_ignore_lf false g.rested in
      let last = settle (end_tag name) (set_ignore_lf false within.state) in
      let after_kids = ready-after (below parent) inner (planted (Last inner) kids) first.state within q first-inner g in
      weaker (finished name q) (λ after. IsFinished name q aside last after) P
      (ends aside q (ready g.rested q g.now) name last (done-next (below parent) inner within g.waits g.rested q after_kids
      (end_tag name) refl refl))
      (λ after e. rooted-full v kids within q after g e)))

-- TREES

then-rooted : (parent : Parent) (n : ℕ) (grow : Forest → Forest) (rest : Trees) (q after : Spot) (s : State) (middle left : Settled)
    → (g : IsRooted parent (Last n) grow s middle q) → IsRooted parent (Last n) (planted (Last n) rest) g.rested left after
    → IsRooted parent (Last n) (λ f. planted (Last n) rest (grow f)) s left after
then-rooted parent n grow rest q after s middle done a b = record {
  is_done = b.is_done;
  waits = b.waits;
  still = b.still;
  begun = b.begun;
  rested = b.rested;
  between = b.between;
  now = b.now;
  tree = b.tree ∙ ap (λ f. planted (Last n) rest f) a.tree;
  kept = keeps-trans s.forest a.rested.forest b.rested.forest a.kept b.kept;
  is_place = b.is_place;
  is_open = open-then parent s.open_elems a.rested.open_elems b.rested.open_elems a.is_open b.is_open;
}

nothing-begun : (pause : Pause) → comes_first pause Nothing ≡ true → is_untyped pause ≡ false
nothing-begun Still h = refl
nothing-begun Waiting h = refl
nothing-begun Untyped h = absurd (true≢false (sym h))

pub comment-begun : (pause : Pause) (text : List ℕ) (rest : Trees) → comes_first pause (Comment text rest) ≡ true → is_untyped pause ≡ false
comment-begun Still text rest h = refl
comment-begun Waiting text rest h = refl
comment-begun Untyped text rest h = absurd (true≢false (sym h))

pub text-still : (pause : Pause) (text : List ℕ) (rest : Trees) → comes_first pause (Text text rest) ≡ true → is_waiting pause ≡ false
    → pause ≡ Still
text-still Still text rest h k = refl
text-still Waiting text rest h k = absurd (true≢false k)
text-still Untyped text rest h k = absurd (true≢false (sym h))

pub comes-begun : (pause : Pause) (trees : Trees) → is_untyped pause ≡ false → comes_first pause trees ≡ true
comes-begun Still trees h = refl
comes-begun Waiting trees h = refl
comes-begun Untyped trees h = absurd (true≢false h)

pub still-waits : (pause : Pause) → pause ≡ Still → is_waiting pause ≡ false
still-waits pause e = ap is_waiting e

pub walked : (scripting : Bool) (parent : Parent) (trees : Trees) → Law scripting parent trees
unfolding walk
walked scripting parent Nothing n after_text drops before waits r p ready_now comes rests e = record {
  is_done = ready_now.done;
  waits = waits;
  still = ready_now.still;
  begun = nothing-begun waits comes;
  rested = r;
  between = ready_now.between;
  now = ready_now.here;
  tree = refl;
  kept = keeps-same r.forest ready_now.tree;
  is_place = ready_now.is;
  is_open = open-same parent refl;
}
walked scripting parent (Text text rest) n after_text drops before waits r p ready_now comes rests e =
    let middle = next (CharacterTokens text) before in
    let on = λ (p : Spot). walk scripting parent true false rest p in
    let grow = λ (f : Forest). put_text f (Last n) text in
    let P = λ (after : Spot). IsRooted parent (Last n) (planted (Last n) (Text text rest)) r (trees_taken rest middle) after in
    choose-so (is_text after_text drops text && is_current parent p) (and_then (text_put text p) on) P
    (λ b. let whole = and_parts (is_text after_text drops text) (is_current parent p) b in
    let parts = and_parts ((not after_text && is_nonempty text) && is_kept text) (not (drops && begins_with_line_feed text)) whole.0 in
    let first = and_parts (not after_text) (is_nonempty text) (and_parts (not after_text && is_nonempty text) (is_kept text) parts.0).0 in
    let now : Ready parent n before Still r p = subst (λ w. Ready parent n before w r p)
    (text-still waits text rest comes (rests (not-no after_text first.0))) ready_now in
    then-so (text_put text p) on
    (λ q. IsRooted parent (Last n) grow r middle q × (middle.state.ignore_lf ≡ false)) P
    (text-next parent n text drops before r p now e (not-no (drops && begins_with_line_feed text) parts.1) first.1 whole.1)
    (λ q g. weaker (on q) (λ after. IsRooted parent (Last n) (planted (Last n) rest) g.0.rested (trees_taken rest middle) after) P
    (walked scripting parent rest n true false middle g.0.waits g.0.rested q (ready-after parent n grow r middle q ready_now.at g.0)
    (comes-begun g.0.waits rest g.0.begun) (λ h. absurd (true≢false h)) g.1)
    (λ after h. then-rooted parent n grow rest q after r middle (trees_taken rest middle) g.0 h)))
walked scripting parent (Comment text rest) n after_text drops before waits r p ready_now comes rests e =
    let middle = next (CommentToken text) before in
    let on = λ (p : Spot). walk scripting parent false false rest p in
    let grow = λ (f : Forest). put_new f (Last n) (CommentNode text) in
    let P = λ (after : Spot). IsRooted parent (Last n) (planted (Last n) (Comment text rest)) r (trees_taken rest middle) after in
    choose-so (is_comment_text text) (and_then (comment_put parent text p) on) P
    (λ b. then-so (comment_put parent text p) on (λ q. Stepped parent n grow r middle q) P
    (comment-next parent n text before waits r p ready_now (comment-begun waits text rest comes))
    (λ q g. weaker (on q) (λ after. IsRooted parent (Last n) (planted (Last n) rest) g.0.rested (trees_taken rest middle) after) P
    (walked scripting parent rest n false false middle g.0.waits g.0.rested q (ready-after parent n grow r middle q ready_now.at g.0)
    (comes-begun g.0.waits rest g.0.begun) (λ h. still-waits g.0.waits g.2) g.1)
    (λ after h. then-rooted parent n grow rest q after r middle (trees_taken rest middle) g.0 h)))
walked scripting parent (ProcessingInstruction target text rest) n after_text drops before waits r p ready_now comes rests e = tt
walked scripting parent (Doctype name public_id system_id rest) n after_text drops before waits r p ready_now comes rests e = tt
walked scripting parent (Element name attributes template kids rest) n after_text drops before waits r p ready_now comes rests e =
    let aside = set_ignore_lf false r in
    let t = start_tag name attributes in
    let opened_first = next t before in
    let left = settle t (set_ignore_lf false before.state) in
    let middle = cond (is_void name) opened_first (next (end_tag name) (trees_taken kids opened_first)) in
    let grow = λ (f : Forest). planted (place_under name f) kids (element_put (Last n) name attributes f) in
    let P = λ (after : Spot). IsRooted parent (Last n) (planted (Last n) (Element name attributes template kids rest)) r
    (trees_taken rest middle) after in
    let stand = λ (made : Made). choose (is_void name)
    (λ _. choose (ends_there kids made) (λ _. Some made.spot) (λ _. None))
    (λ _. kids_walked name kids (λ drops p. walk scripting (below parent) false drops kids p) made) in
    let on = λ (p : Spot). walk scripting parent false false rest p in
    let f = λ (made : Made). choose (is_written_so scripting name made.raw) (λ _. and_then (stand made) on) (λ _. None) in
    choose-so (is_current parent p && may_stay parent name) (and_then (started name attributes template p) f) P
    (λ b. let w = and_parts (is_current parent p) (may_stay parent name) b in
    then-so (started name attributes template p) f (λ made. IsStarted name attributes p aside left made) P
    (starts aside p (ready r p ready_now.here) name attributes template left
    (done-next parent n before waits r p ready_now t (start-comes waits name attributes) refl))
    (λ made o. choose-so (is_written_so scripting name made.raw) (and_then (stand made) on) P
    (λ c. then-so (stand made) on (λ q. Stepped parent n grow r middle q) P
    (element-case scripting parent n name attributes before waits r p ready_now made o w.0 w.1 kids
    (walked scripting (below parent) kids) (is_void name) refl)
    (λ q g. weaker (on q) (λ after. IsRooted parent (Last n) (planted (Last n) rest) g.0.rested (trees_taken rest middle) after) P
    (walked scripting parent rest n false false middle g.0.waits g.0.rested q (ready-after parent n grow r middle q ready_now.at g.0)
    (comes-begun g.0.waits rest g.0.begun) (λ h. still-waits g.0.waits g.2) g.1)
    (λ after h. then-rooted parent n grow rest q after r middle (trees_taken rest middle) g.0 h)))))

pub trees-planted : (scripting : Bool) (parent : Parent) (trees : Trees) (n : ℕ) (after_text drops : Bool) (before : Settled)
    (p : Spot) → IsAt before.state p
    → before.state.ignore_lf ≡ drops → before.is_settled ≡ true → IsTree before.state.forest → IsParent before.state.forest n
    → IsPlaceOf parent (Last n) before.state.open_elems
    → IfSome (walk scripting parent after_text drops trees p)
    (λ after. IsRooted parent (Last n) (planted (Last n) trees) before.state (trees_taken trees before) after)
trees-planted scripting parent trees n after_text drops before p here e done tree at is =
    walked scripting parent trees n after_text drops before Still before.state p
    (record { between = refl; still = still-none parent; here = here; done = done; tree = tree; at = at; is = is }) refl (λ h. refl) e
