-- Plain trees in the body walk from a spot to the same spot.
use Rattle.std.proofs.Common.{◌≡◌, ◌∙◌, ℕ, Bool, true, false, not, List, [], ◌∷◌, Some, refl, sym, ap, subst, true≢false}
use Rattle.std.specs.Prelude.{◌&&◌}
use Rattle.markup.specs.Trees.{Trees, Nothing, Text, Comment, ProcessingInstruction, Doctype, Element}
use Rattle.markup.specs.declared.attributes.Attribute.{Attribute}
use Rattle.markup.specs.declared.names.QualName.{QualName}
use Rattle.html_plain.specs.Elements.{holds, html_name, inside, is_in_link, is_link, place_after_element, place_after_text, spelled}
use Rattle.html_plain.specs.Elements.{takes_comments, text_kind}
use Rattle.html_plain.specs.Grammar.{IsPlain, are_plain_attributes, is_plain_text, takes_text}
use Rattle.html_plain.specs.declared.elements.PlainElement.{PlainElement}
use Rattle.html_plain.specs.declared.elements.PlainElement.TheVariants.{Html, Head, Title, Body, Break, Link}
use Rattle.html_plain.specs.declared.elements.PlainElement.TheVariants.{Item, Table, TableBody, Row, Cell}
use Rattle.html_plain.specs.declared.place.PlainPlace.{PlainPlace}
use Rattle.html_plain.specs.declared.place.PlainPlace.TheVariants.{InBreak, InFlow, InLine, InList, InTable, InTableBody, InRow}
use Rattle.html_rules.specs.ForeignContent.{is_html_element}
use Rattle.html_rules.specs.State.{Open, current_is, is_in}
use Rattle.html_rules.specs.Tokens.{is_white}
use Rattle.html_rules.specs.declared.insertion_mode.InsertionMode.{InsertionMode}
use Rattle.html_rules.specs.declared.tag_set.TagSet.TheVariants as set
use Rattle.html_faithful.specs.Forms.{is_comment_text}
use Rattle.html_faithful.specs.Harmless.{Made}
use Rattle.html_faithful.specs.Spots.{Spot}
use Rattle.html_faithful.specs.Walk.{OfCurrent, Parent, below, comment_put, ends_there, finished, fits_inside, is_current, is_text}
use Rattle.html_faithful.specs.Walk.{is_void, is_written_so, may_stay, started, text_put, text_walked, waits_at, walk}
use Rattle.html_faithful_plain.proofs.Forms.{all-white, comment-text, text-kept, text-nonempty}
use Rattle.html_faithful_plain.proofs.Elements.{break-started, does-leave, element-finished, element-started, is-void, is-written, is_frame}
use Rattle.html_faithful_plain.proofs.Stands.{Stands, flow_mode, in-place, in_cell, is_break, is_inner, is_part, mode_at, opened, there}
use Rattle.html_faithful_plain.proofs.Tags.{break-start, broken, character-made, comment-made, flag_of, mode_of, place-end}
use Rattle.html_faithful_plain.proofs.Tags.{place-start, started_by}

-- ONE NODE OF A WALK

module _ (scripting : Bool) (parent : Parent) (after_text drops : Bool) where
  pub element-walked : (name : QualName) (attributes : List Attribute) (kids rest : Trees) (q : Spot) (made : Made) (r s : Spot)
      → (is_current parent q && may_stay parent name) ≡ true → started name attributes false q ≡ Some made
      → is_written_so scripting name made.raw ≡ true → is_void name ≡ false → fits_inside name kids made.raw ≡ true
      → walk scripting (below parent) false made.drops_line_feed kids made.spot ≡ Some r → finished name r ≡ Some s
      → walk scripting parent after_text drops (Element name attributes false kids rest) q ≡ walk scripting parent false false rest s
  unfolding walk
  element-walked name attributes kids rest q made r s stays start well full fits inner end =
      rw (stays, start, well, full, fits, inner, end) refl

  pub void-walked : (name : QualName) (attributes : List Attribute) (kids rest : Trees) (q : Spot) (made : Made)
      → (is_current parent q && may_stay parent name) ≡ true → started name attributes false q ≡ Some made
      → is_written_so scripting name made.raw ≡ true → is_void name ≡ true → ends_there kids made ≡ true
      → walk scripting parent after_text drops (Element name attributes false kids rest) q
      ≡ walk scripting parent false false rest made.spot
  unfolding walk
  void-walked name attributes kids rest q made stays start well void ends = rw (stays, start, well, void, ends) refl

  pub text-walked : (text : List ℕ) (rest : Trees) (q r : Spot) → (is_text after_text drops text && is_current parent q) ≡ true
      → text_put text q ≡ Some r → walk scripting parent after_text drops (Text text rest) q ≡ walk scripting parent true false rest r
  unfolding walk
  text-walked text rest q r well put = rw (well, put) refl

  pub comment-walked : (text : List ℕ) (rest : Trees) (q r : Spot) → is_comment_text text ≡ true
      → comment_put parent text q ≡ Some r
      → walk scripting parent after_text drops (Comment text rest) q ≡ walk scripting parent false false rest r
  unfolding walk
  comment-walked text rest q r well put = rw (well, put) refl

-- PLACES

no : {A : Type 0} → false ≡ true → A
no h = absurd (true≢false (sym h))

-- the elements of the frame
abbrev is_outer : PlainElement → Bool
is_outer Html = true
is_outer Head = true
is_outer Title = true
is_outer Body = true
is_outer k = false

outer-none : (place : PlainPlace) (k : PlainElement) → is_inner place ≡ true → is_outer k ≡ true → holds place k ≡ false
outer-none InFlow Html i e = refl
outer-none InFlow Head i e = refl
outer-none InFlow Title i e = refl
outer-none InFlow Body i e = refl
outer-none (InLine in_link) Html i e = refl
outer-none (InLine in_link) Head i e = refl
outer-none (InLine in_link) Title i e = refl
outer-none (InLine in_link) Body i e = refl
outer-none InList Html i e = refl
outer-none InList Head i e = refl
outer-none InList Title i e = refl
outer-none InList Body i e = refl
outer-none InTable Html i e = refl
outer-none InTable Head i e = refl
outer-none InTable Title i e = refl
outer-none InTable Body i e = refl
outer-none InTableBody Html i e = refl
outer-none InTableBody Head i e = refl
outer-none InTableBody Title i e = refl
outer-none InTableBody Body i e = refl
outer-none InRow Html i e = refl
outer-none InRow Head i e = refl
outer-none InRow Title i e = refl
outer-none InRow Body i e = refl
outer-none place k i e = absurd cc

not-outer : (place : PlainPlace) (k : PlainElement) → is_inner place ≡ true → holds place k ≡ true → is_outer k ≡ false
not-outer place k i e = by (is_outer k) refl where
  by : (b : Bool) → is_outer k ≡ b → b ≡ false
  by true o = no (sym (outer-none place k i o) ∙ e)
  by false o = refl

not-frame : (k : PlainElement) → is_outer k ≡ false → is_frame k ≡ false
not-frame Html e = absurd (true≢false e)
not-frame Body e = absurd (true≢false e)
not-frame k e = refl

inner-by : (place : PlainPlace) (k : PlainElement) → is_outer k ≡ false → is_break k ≡ false → is_inner (inside place k) ≡ true
inner-by place Html e v = absurd (true≢false e)
inner-by place Head e v = absurd (true≢false e)
inner-by place Title e v = absurd (true≢false e)
inner-by place Body e v = absurd (true≢false e)
inner-by place Break e v = absurd (true≢false v)
inner-by place k e v = refl

after-text : (place : PlainPlace) → is_inner place ≡ true → place_after_text place ≡ place
after-text InFlow i = refl
after-text (InLine in_link) i = refl
after-text InList i = refl
after-text InTable i = refl
after-text InTableBody i = refl
after-text InRow i = refl
after-text place i = no i

after-element : (place : PlainPlace) → is_inner place ≡ true → place_after_element place ≡ place
after-element InFlow i = refl
after-element (InLine in_link) i = refl
after-element InList i = refl
after-element InTable i = refl
after-element InTableBody i = refl
after-element InRow i = refl
after-element place i = no i

flow-mode_inside : (place : PlainPlace) (cell : Bool) (k : PlainElement)
    → mode_of k (flow_mode cell) ≡ mode_at (inside place k) (in_cell k cell)
flow-mode_inside place cell Table = refl
flow-mode_inside place cell TableBody = refl
flow-mode_inside place cell Row = refl
flow-mode_inside place cell (Cell kind) = refl
flow-mode_inside place cell k = refl

-- the mode where the children of an element stand
mode-inside : (place : PlainPlace) (cell : Bool) (k : PlainElement) → is_inner place ≡ true → holds place k ≡ true → is_break k ≡ false
    → mode_of k (mode_at place cell) ≡ mode_at (inside place k) (in_cell k cell)
mode-inside InFlow cell k i e v = flow-mode_inside InFlow cell k
mode-inside (InLine in_link) cell k i e v = flow-mode_inside (InLine in_link) cell k
mode-inside InList cell k i e v = flow-mode_inside InList cell k
mode-inside InTable cell TableBody i e v = refl
mode-inside InTableBody cell Row i e v = refl
mode-inside InRow cell (Cell kind) i e v = refl
mode-inside InTable cell k i e v = no e
mode-inside InTableBody cell k i e v = no e
mode-inside InRow cell k i e v = no e
mode-inside place cell k i e v = no i

-- a link stands in no link
link-apart : (place : PlainPlace) (k : PlainElement) → holds place k ≡ true → is_link k ≡ true → is_in_link place ≡ false
link-apart (InLine true) Link e l = no e
link-apart (InLine false) Link e l = refl
link-apart InFlow Link e l = refl
link-apart InList Link e l = refl
link-apart place Link e l = absurd cc
link-apart place k e l = no l

nothing-in_break : (after_text : Bool) (trees : Trees) → IsPlain InBreak after_text trees → trees ≡ Nothing
nothing-in_break after_text Nothing h = refl
nothing-in_break after_text (Text text rest) h = no h.2
nothing-in_break after_text (Comment text rest) h = no h.0
nothing-in_break after_text (ProcessingInstruction target text rest) h = absurd h
nothing-in_break after_text (Doctype name public_id system_id rest) h = absurd (let no = h.0 in cc)
nothing-in_break after_text (Element name attributes template kids rest) h = no h.1.2

-- TEXTS AND COMMENTS

and-so : (a b : Bool) → a ≡ true → b ≡ true → (a && b) ≡ true
and-so true b h k = k
and-so false b h k = no h

-- the frameset-ok flag after a text
abbrev pub flag_after : List ℕ → Bool → Bool
flag_after [] ok = ok
flag_after (c ∷ cs) ok = flag_after cs (ok && is_white (c ∷ []))

module _ (p : Spot) (cell : Bool) (ys : List Open) where
  -- in flow each character is put in the current node
  characters-put : current_is is_html_element ys ≡ true → (text : List ℕ) (ok : Bool)
      → text_walked text (there p (flow_mode cell) ys ok) ≡ Some (there p (flow_mode cell) ys (flag_after text ok))
  characters-put own [] ok = refl
  characters-put own (c ∷ cs) ok =
      rw (character-made (there p (flow_mode cell) ys ok) cell c refl own) (characters-put own cs (ok && is_white (c ∷ [])))

  not-waiting : (cell : Bool) (ok : Bool) → waits_at (there p (flow_mode cell) ys ok) ≡ false
  not-waiting true ok = refl
  not-waiting false ok = refl

  flow-text : current_is is_html_element ys ≡ true → (text : List ℕ) (ok : Bool)
      → text_put text (there p (flow_mode cell) ys ok) ≡ Some (there p (flow_mode cell) ys (flag_after text ok))
  flow-text own text ok = rw (not-waiting cell ok) (characters-put own text ok)

  -- in a part of a table white space is put
  part-text : (place : PlainPlace) → is_part place ≡ true → current_is (is_in set.FosterTarget) ys ≡ true → (text : List ℕ) (ok : Bool)
      → is_white text ≡ true → text_put text (there p (mode_at place cell) ys ok) ≡ Some (there p (mode_at place cell) ys ok)
  part-text InTable i foster text ok white = rw (foster, white) refl
  part-text InTableBody i foster text ok white = rw (foster, white) refl
  part-text InRow i foster text ok white = rw (foster, white) refl
  part-text place i foster text ok white = no i

  flow-comment : current_is is_html_element ys ≡ true → (text : List ℕ) (ok : Bool)
      → comment_put OfCurrent text (there p (flow_mode cell) ys ok) ≡ Some (there p (flow_mode cell) ys ok)
  flow-comment own text ok = rw (comment-made (there p (flow_mode cell) ys ok) cell text refl own) refl

-- TREES

-- plain trees walk to the spot that they walk from, but for the frameset-ok flag
pub record IsWalked (scripting : Bool) (p : Spot) (place : PlainPlace) (cell : Bool) (ys : List Open) (ok after_text : Bool) (trees : Trees)
    : Type 0 where
  pub flag : Bool
  pub ends : walk scripting OfCurrent after_text false trees (there p (mode_at place cell) ys ok)
      ≡ Some (there p (mode_at place cell) ys flag)
  -- once it is off it stays so
  pub stays_off : ok ≡ false → flag ≡ false

off-text : (text : List ℕ) (ok : Bool) → ok ≡ false → flag_after text ok ≡ false
off-text [] ok e = e
off-text (c ∷ cs) ok e = off-text cs (ok && is_white (c ∷ [])) (ap (λ b. b && is_white (c ∷ [])) e)

off-tag : (k : PlainElement) (ok : Bool) → ok ≡ false → flag_of k ok ≡ false
off-tag Item ok e = refl
off-tag Table ok e = refl
off-tag Break ok e = refl
off-tag k ok e = e

then-walked : (scripting : Bool) (p : Spot) (place : PlainPlace) (cell : Bool) (ys : List Open) (ok before after_text flag : Bool)
    (trees rest : Trees)
    → walk scripting OfCurrent before false trees (there p (mode_at place cell) ys ok)
    ≡ walk scripting OfCurrent after_text false rest (there p (mode_at place cell) ys flag)
    → (ok ≡ false → flag ≡ false)
    → IsWalked scripting p place cell ys flag after_text rest → IsWalked scripting p place cell ys ok before trees
then-walked scripting p place cell ys ok before after_text flag trees rest e off h =
    record { flag = h.flag; ends = e ∙ h.ends; stays_off = λ o. h.stays_off (off o) }

-- the text that stands first in a place
record IsPut (p : Spot) (place : PlainPlace) (cell : Bool) (ys : List Open) (ok : Bool) (text : List ℕ) : Type 0 where
  flag : Bool
  ends : text_put text (there p (mode_at place cell) ys ok) ≡ Some (there p (mode_at place cell) ys flag)
  stays_off : ok ≡ false → flag ≡ false

text-in : (p : Spot) (place : PlainPlace) (cell : Bool) (ys : List Open) (ok : Bool) (text : List ℕ) → is_inner place ≡ true
    → Stands p place cell ys → takes_text (text_kind place) text ≡ true → IsPut p place cell ys ok text
text-in p InFlow cell ys ok text i h t = record {
  flag = flag_after text ok;
  ends = flow-text p cell ys h.own text ok;
  stays_off =
      off-text text ok;
}
text-in p (InLine in_link) cell ys ok text i h t =
    record { flag = flag_after text ok; ends = flow-text p cell ys h.own text ok; stays_off = off-text text ok }
text-in p InList cell ys ok text i h t = record {
  flag = flag_after text ok;
  ends = flow-text p cell ys h.own text ok;
  stays_off =
      off-text text ok;
}
text-in p InTable cell ys ok text i h t =
    record { flag = ok; ends = part-text p cell ys InTable refl (h.foster refl) text ok (all-white text t); stays_off = λ e. e }
text-in p InTableBody cell ys ok text i h t =
    record { flag = ok; ends = part-text p cell ys InTableBody refl (h.foster refl) text ok (all-white text t); stays_off = λ e. e }
text-in p InRow cell ys ok text i h t =
    record { flag = ok; ends = part-text p cell ys InRow refl (h.foster refl) text ok (all-white text t); stays_off = λ e. e }
text-in p place cell ys ok text i h t = no i

pub is-text : (after_text : Bool) (text : List ℕ) → after_text ≡ false → is_plain_text text ≡ true → is_text after_text false text ≡ true
is-text after_text text e h = rw (e, text-nonempty text h, text-kept text h) refl

-- comments stand in flow content
comment-place : (place : PlainPlace) → takes_comments place ≡ true → place ≡ InFlow
comment-place InFlow h = refl
comment-place place h = no h

stays : (k : PlainElement) → is_frame k ≡ false → may_stay OfCurrent (html_name (spelled k)) ≡ true
stays k f = ap not (does-leave true k f)

-- where an element stands that holds something
abbrev Walks : Bool → Trees → Type 0
Walks scripting trees = (p : Spot) (place : PlainPlace) (cell : Bool) (ys : List Open) (ok after_text : Bool) → is_inner place ≡ true
    → IsPlain place after_text trees → Stands p place cell ys → IsWalked scripting p place cell ys ok after_text trees

full-walked : (scripting : Bool) (p : Spot) (place : PlainPlace) (cell : Bool) (ys : List Open) (ok after_text : Bool) (k : PlainElement)
    (attributes : List Attribute) (kids rest : Trees)
    → is_inner place ≡ true → holds place k ≡ true → is_break k ≡ false → are_plain_attributes attributes ≡ true
    → Stands p place cell ys → IsPlain (inside place k) false kids → Walks scripting kids
    → ((flag : Bool) → IsWalked scripting p place cell ys flag false rest)
    → IsWalked scripting p place cell ys ok after_text (Element (html_name (spelled k)) attributes false kids rest)
full-walked scripting p place cell ys ok after_text k attributes kids rest i e v plain h within walks goes =
    let outer = not-outer place k i e in
    let frame = not-frame k outer in
    let m = mode_at place cell in
    let made = started_by p m ys ok k attributes in
    let start = element-started p m ys ok k attributes v plain (λ l. h.unlinked (link-apart place k e l))
    (place-start p cell ys ok attributes place k i e v h) in
    let inner = walks p (inside place k) (in_cell k cell) (opened p.rules k ys ∷ ys) (flag_of k ok) false (inner-by place k outer v) within
    (in-place p cell ys place k i e v h) in
    let end = element-finished p m (mode_at (inside place k) (in_cell k cell)) ys inner.flag k frame
    (place-end p cell ys inner.flag place k i e v h) in
    let done = goes inner.flag in
    let there_inside : made.spot ≡ there p (mode_at (inside place k) (in_cell k cell)) (opened p.rules k ys ∷ ys) (flag_of k ok) =
    ap (λ (n : InsertionMode). there p n (opened p.rules k ys ∷ ys) (flag_of k ok)) (mode-inside place cell k i e v) in
    record {
      flag = done.flag;
      ends = element-walked scripting OfCurrent after_text false (html_name (spelled k)) attributes kids rest (there p m ys ok) made
          (there p (mode_at (inside place k) (in_cell k cell)) (opened p.rules k ys ∷ ys) inner.flag) (there p m ys inner.flag)
          (stays k frame) start (is-written scripting k) (is-void scripting k ∙ v) refl
          (ap (walk scripting OfCurrent false false kids) there_inside ∙ inner.ends) end ∙ done.ends;
      stays_off = λ e. done.stays_off (inner.stays_off (off-tag k ok e));
    }

-- a `br` stands in flow content and in lines
break-place : (place : PlainPlace) (cell : Bool) → holds place Break ≡ true → mode_at place cell ≡ flow_mode cell
break-place InFlow cell e = refl
break-place (InLine in_link) cell e = refl
break-place place cell e = no e

break-walked : (scripting : Bool) (p : Spot) (place : PlainPlace) (cell : Bool) (ys : List Open) (ok after_text : Bool)
    (attributes : List Attribute) (rest : Trees)
    → holds place Break ≡ true → are_plain_attributes attributes ≡ true → Stands p place cell ys
    → ((flag : Bool) → IsWalked scripting p place cell ys flag false rest)
    → IsWalked scripting p place cell ys ok after_text (Element (html_name (spelled Break)) attributes false Nothing rest)
break-walked scripting p place cell ys ok after_text attributes rest e plain h goes =
    let m = break-place place cell e in
    let done = goes false in
    let at_flow : walk scripting OfCurrent after_text false (Element (html_name (spelled Break)) attributes false Nothing rest)
    (there p (flow_mode cell) ys ok) ≡ walk scripting OfCurrent false false rest (there p (flow_mode cell) ys false) =
    void-walked scripting OfCurrent after_text false (html_name (spelled Break)) attributes Nothing rest
    (there p (flow_mode cell) ys ok) (broken p (flow_mode cell) ys attributes) (stays Break refl)
    (break-started p (flow_mode cell) ys ok attributes plain (break-start p cell ys ok attributes h.own))
    (is-written scripting Break) (is-void scripting Break) refl in
    then-walked scripting p place cell ys ok after_text false false _ rest
    (subst (λ n. walk scripting OfCurrent after_text false (Element (html_name (spelled Break)) attributes false Nothing rest)
    (there p n ys ok) ≡ walk scripting OfCurrent false false rest (there p n ys false)) (sym m) at_flow) (λ e. refl) done

-- an element, with its name and children as the grammar has them
break-or-full : (scripting : Bool) (p : Spot) (place : PlainPlace) (cell : Bool) (ys : List Open) (ok after_text : Bool) (k : PlainElement)
    (attributes : List Attribute) (kids rest : Trees) (b : Bool) → is_break k ≡ b
    → is_inner place ≡ true → holds place k ≡ true → are_plain_attributes attributes ≡ true
    → Stands p place cell ys → IsPlain (inside place k) false kids → Walks scripting kids
    → ((flag : Bool) → IsWalked scripting p place cell ys flag false rest)
    → IsWalked scripting p place cell ys ok after_text (Element (html_name (spelled k)) attributes false kids rest)
break-or-full scripting p place cell ys ok after_text Break attributes kids rest b v i e plain h within walks goes =
    subst (λ kids. IsWalked scripting p place cell ys ok after_text (Element (html_name (spelled Break)) attributes false kids rest))
    (sym (nothing-in_break false kids within)) (break-walked scripting p place cell ys ok after_text attributes rest e plain h goes)
break-or-full scripting p place cell ys ok after_text k attributes kids rest b v i e plain h within walks goes =
    full-walked scripting p place cell ys ok after_text k attributes kids rest i e refl plain h within walks goes

pub trees-walk : (scripting : Bool) (trees : Trees) → Walks scripting trees
unfolding walk
trees-walk scripting Nothing p place cell ys ok after_text i h stands = record { flag = ok; ends = refl; stays_off = λ e. e }
trees-walk scripting (Text text rest) p place cell ys ok after_text i h stands =
    let put = text-in p place cell ys ok text i stands h.2 in
    let done = trees-walk scripting rest p place cell ys put.flag true i
    (subst (λ place. IsPlain place true rest) (after-text place i) h.3) stands in
    record {
      flag = done.flag;
      ends = text-walked scripting OfCurrent after_text false text rest (there p (mode_at place cell) ys ok)
          (there p (mode_at place cell) ys put.flag) (and-so _ _ (is-text after_text text h.0 h.1) refl) put.ends ∙ done.ends;
      stays_off = λ e. done.stays_off (put.stays_off e);
    }
trees-walk scripting (Comment text rest) p place cell ys ok after_text i h stands =
    let done = trees-walk scripting rest p place cell ys ok false i h.2 stands in
    let put : comment_put OfCurrent text (there p (mode_at place cell) ys ok) ≡ Some (there p (mode_at place cell) ys ok) =
    subst (λ place. comment_put OfCurrent text (there p (mode_at place cell) ys ok) ≡ Some (there p (mode_at place cell) ys ok))
    (sym (comment-place place h.0)) (flow-comment p cell ys stands.own text ok) in
    record {
      flag = done.flag;
      ends = comment-walked scripting OfCurrent after_text false text rest (there p (mode_at place cell) ys ok)
          (there p (mode_at place cell) ys ok) (comment-text text h.1) put ∙ done.ends;
      stays_off = done.stays_off;
    }
trees-walk scripting (ProcessingInstruction target text rest) p place cell ys ok after_text i h stands = absurd h
trees-walk scripting (Doctype name public_id system_id rest) p place cell ys ok after_text i h stands =
    no (sym (ap is_inner h.0) ∙ i)
trees-walk scripting (Element name attributes template kids rest) p place cell ys ok after_text i h stands =
    let k = h.0 in
    let w = h.1 in
    let behind : IsPlain place false rest = subst (λ place. IsPlain place false rest) (after-element place i) w.5 in
    let done = break-or-full scripting p place cell ys ok after_text k attributes kids rest (is_break k) refl i w.2 w.3 stands w.4
    (trees-walk scripting kids) (λ flag. trees-walk scripting rest p place cell ys flag false i behind stands) in
    record {
      flag = done.flag;
      ends = (λ j. walk scripting OfCurrent after_text false (Element (w.0 j) attributes (w.1 j) kids rest)
          (there p (mode_at place cell) ys ok)) ∙ done.ends;
      stays_off = done.stays_off;
    }
