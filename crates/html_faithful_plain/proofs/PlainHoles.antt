-- Plain trees are alike in a hole for flow content or for a line.
use Rattle.std.proofs.Common.{◌≡◌, ◌∙◌, ℕ, Bool, true, false, not, List, [], ◌∷◌, Option, Some, None, refl, sym, ap, true≢false}
use Rattle.std.specs.Prelude.{◌&&◌, ◌||◌, codes, is_none, is_some}
use Rattle.std.proofs.lemmas.Bool.{and_parts}
use Rattle.markup.specs.Trees.{Trees}
use Rattle.html_plain.specs.Elements.{is_in_link}
use Rattle.html_plain.specs.Grammar.{is_plain}
use Rattle.html_plain.specs.declared.place.PlainPlace.{PlainPlace}
use Rattle.html_plain.specs.declared.place.PlainPlace.TheVariants.{InFlow, InLine}
use Rattle.html_plain.proofs.Agreement.{computed-cases}
use Rattle.html_rules.specs.Choice.{choose}
use Rattle.html_rules.specs.ForeignContent.{is_html_element}
use Rattle.html_rules.specs.Formatting.{last_named}
use Rattle.html_rules.specs.Reset.{current_template_mode, mode_of_context, mode_of_html, mode_of_open}
use Rattle.html_rules.specs.Stack.{in_scope}
use Rattle.html_rules.specs.State.{Open, State, current_is, is_in}
use Rattle.html_rules.specs.declared.insertion_mode.InsertionMode.{InsertionMode}
use Rattle.html_rules.specs.declared.insertion_mode.InsertionMode.TheVariants as mode
use Rattle.html_rules.specs.declared.tag_set.TagSet.TheVariants as set
use Rattle.html_faithful.specs.Holes.{AreAlike, Hole, Raw, begins_with_text, fits_raw}
use Rattle.html_faithful.specs.Listing.{link_open}
use Rattle.html_faithful.specs.Spots.{Spot, entries_of, hollow}
use Rattle.html_faithful.specs.Walk.{OfCurrent, Parent, walk}
use Rattle.html_faithful_plain.specs.PlainHoles.{holds_plain, is_flow, is_in_current, is_line, is_mode_of, is_plain_hole}
use Rattle.html_faithful_plain.proofs.Stands.{Faces, Stands, flow_mode, is_inner, mode_at, there}
use Rattle.html_faithful_plain.proofs.Stands as stands
use Rattle.html_faithful_plain.proofs.Walks.{trees-walk}

-- THE MODE THAT IS ASKED FOR

-- what an element asks for, by what it stands in
abbrev asked : List InsertionMode → Option ℕ → InsertionMode → Open → InsertionMode → InsertionMode
asked modes head context x before =
    choose (is_in set.TdTh x) (λ _. mode.InCell)
    (λ _. choose (is_in set.Head x) (λ _. mode.InHead)
    (λ _. choose (is_in set.Html x) (λ _. context)
    (λ _. choose (is_in set.Tr x) (λ _. mode.InRow)
    (λ _. choose (is_in set.TbodyTfootThead x) (λ _. mode.InTableBody)
    (λ _. choose (is_in set.Caption x) (λ _. mode.InCaption)
    (λ _. choose (is_in set.Colgroup x) (λ _. mode.InColumnGroup)
    (λ _. choose (is_in set.Table x) (λ _. mode.InTable)
    (λ _. choose (is_in set.Template x) (λ _. current_template_mode modes)
    (λ _. choose (is_in set.Body x) (λ _. mode.InBody)
    (λ _. choose (is_in set.Frameset x) (λ _. mode.InFrameset)
    (λ _. choose (is_in set.Html x) (λ _. mode_of_html head) (λ _. before))))))))))))

open-asked : (s : State) (x : Open) (xs : List Open)
    → mode_of_open s (x ∷ xs) ≡ asked s.template_modes s.head_elem (mode_of_context s s.context_elem) x (mode_of_open s xs)
open-asked s x xs = refl

same-context : (s t : State) → s.context_elem ≡ None → t.context_elem ≡ None → s.head_elem ≡ t.head_elem
    → mode_of_context s s.context_elem ≡ mode_of_context t t.context_elem
same-context s t c d h = ap (mode_of_context s) c ∙ (ap mode_of_html h ∙ sym (ap (mode_of_context t) d))

-- it depends on little of a state
open-same : (s t : State) → s.context_elem ≡ None → t.context_elem ≡ None → s.template_modes ≡ t.template_modes
    → s.head_elem ≡ t.head_elem → (xs : List Open) → mode_of_open s xs ≡ mode_of_open t xs
open-same s t c d e h [] = refl
open-same s t c d e h (x ∷ xs) =
    open-asked s x xs
    ∙ ((λ i. asked (e i) (h i) (same-context s t c d h i) x (open-same s t c d e h xs i)) ∙ sym (open-asked t x xs))

-- THE SPOT

no : {A : Type 0} → false ≡ true → A
no h = absurd (true≢false (sym h))

not-so : (b : Bool) → not b ≡ true → b ≡ false
not-so true h = absurd (true≢false (sym h))
not-so false h = refl

none-there : {A : Type 0} (o : Option A) → is_none o ≡ true → o ≡ None
none-there None h = refl
none-there (Some x) h = no h

-- the second holds where the first does not
or-so : (a b : Bool) → (a || b) ≡ true → a ≡ false → b ≡ true
or-so true b h e = no (sym e)
or-so false b h e = h

abbrev is_cell : InsertionMode → Bool
is_cell mode.InCell = true
is_cell m = false

same-mode : (m n : InsertionMode) → is_mode_of m n ≡ true → (m ≡ flow_mode (is_cell m)) × (n ≡ flow_mode (is_cell m))
same-mode mode.InBody mode.InBody h = (refl, refl)
same-mode mode.InCell mode.InCell h = (refl, refl)
same-mode m n h = no h

inner-mode : (place : PlainPlace) (cell : Bool) → (is_flow place || is_line place) ≡ true → mode_at place cell ≡ flow_mode cell
inner-mode InFlow cell h = refl
inner-mode (InLine in_link) cell h = refl
inner-mode place cell h = no h

inner-place : (place : PlainPlace) → (is_flow place || is_line place) ≡ true → is_inner place ≡ true
inner-place InFlow h = refl
inner-place (InLine in_link) h = refl
inner-place place h = no h

same-line : (place : PlainPlace) → (is_flow place || is_line place) ≡ true → stands.is_line place ≡ is_line place
same-line InFlow h = refl
same-line (InLine in_link) h = refl
same-line place h = no h

flow-not_line : (place : PlainPlace) → stands.is_flow place ≡ true → is_line place ≡ false
flow-not_line InFlow h = refl
flow-not_line place h = no h

no-list : (place : PlainPlace) → (is_flow place || is_line place) ≡ true → stands.is_list place ≡ false
no-list InFlow h = refl
no-list (InLine in_link) h = refl
no-list place h = no h

no-part : (place : PlainPlace) → (is_flow place || is_line place) ≡ true → stands.is_part place ≡ false
no-part InFlow h = refl
no-part (InLine in_link) h = refl
no-part place h = no h

-- what is known of a spot that holds plain trees
record IsPlainSpot (place : PlainPlace) (p : Spot) : Type 0 where
  cell : Bool
  mode_is : p.mode ≡ flow_mode cell
  original : p.orig_mode ≡ None
  off : p.frameset_ok ≡ false
  stand : Stands p place cell p.path

plain-spot : (place : PlainPlace) (p : Spot) → (is_flow place || is_line place) ≡ true → holds_plain place p ≡ true → IsPlainSpot place p
plain-spot place p w h =
    let own = current_is is_html_element p.path in
    let moded = is_mode_of p.mode (mode_of_open (hollow p) p.path) in
    let original = is_none p.orig_mode in
    let off = not p.frameset_ok in
    let outside = is_line place || not (in_scope set.ButtonScope (is_in set.P) p.path) in
    let plain_text = is_line place || not (current_is (is_in set.HeadingTag) p.path) in
    let listed = is_some (last_named (codes "a") (entries_of p.path)) in
    let linked = link_open p.path in
    let links = is_in_link place || (not listed && not linked) in
    let p₆ = and_parts (own && moded && original && off && outside && plain_text) links h in
    let p₅ = and_parts (own && moded && original && off && outside) plain_text p₆.0 in
    let p₄ = and_parts (own && moded && original && off) outside p₅.0 in
    let p₃ = and_parts (own && moded && original) off p₄.0 in
    let p₂ = and_parts (own && moded) original p₃.0 in
    let p₁ = and_parts own moded p₂.0 in
    let m = same-mode p.mode (mode_of_open (hollow p) p.path) p₁.1 in
    let unlinked = λ (e : is_in_link place ≡ false). and_parts (not listed) (not linked)
    (or-so (is_in_link place) (not listed && not linked) p₆.1 e) in
    record {
      cell = is_cell p.mode;
      mode_is = m.0;
      original = none-there p.orig_mode p₂.1;
      off = not-so p.frameset_ok p₃.1;
      stand = record {
        own = p₁.0;
        again = λ s f. open-same s (hollow p) f.context refl f.template_modes f.head p.path
            ∙ (m.1 ∙ sym (inner-mode place (is_cell p.mode) w));
        paragraph = λ e. not-so _ (or-so (is_line place) (not (in_scope set.ButtonScope (is_in set.P) p.path)) p₄.1
            (sym (same-line place w) ∙ e));
        heading = λ e. not-so _ (or-so (is_line place) (not (current_is (is_in set.HeadingTag) p.path)) p₅.1 (flow-not_line place e));
        unlisted = λ e. not-so listed (unlinked e).0;
        unlinked = λ e. not-so linked (unlinked e).1;
        item = λ e. no (sym (no-list place w) ∙ e);
        context = λ e. no (sym (no-part place w) ∙ e);
        foster = λ e. no (sym (no-part place w) ∙ e);
      };
    }

-- plain trees walk there to the same spot
plain-walk : (scripting : Bool) (place : PlainPlace) (p : Spot) → (is_flow place || is_line place) ≡ true → IsPlainSpot place p
    → (trees : Trees) → is_plain place false trees ≡ true → walk scripting OfCurrent false false trees p ≡ Some p
plain-walk scripting place p w is trees plain =
    let done = trees-walk scripting trees p place is.cell p.path false false (inner-place place w) (computed-cases place false trees plain)
    is.stand in
    let moded : p.mode ≡ mode_at place is.cell = is.mode_is ∙ sym (inner-mode place is.cell w) in
    let here : p ≡ there p (mode_at place is.cell) p.path false =
    λ i. record p { mode = moded i; orig_mode = is.original i; frameset_ok = is.off i } in
    ap (walk scripting OfCurrent false false trees) here ∙ (done.ends
    ∙ (ap (λ (ok : Bool). Some (there p (mode_at place is.cell) p.path ok)) (done.stays_off refl)
    ∙ ap (λ (q : Spot). Some q) (sym here)))

in-current : (parent : Parent) → is_in_current parent ≡ true → parent ≡ OfCurrent
in-current OfCurrent h = refl
in-current parent h = no h

no-raw : (hole : Hole) (a b : Trees) → hole.raw ≡ None → fits_raw hole a ≡ fits_raw hole b
no-raw hole a b e =
    ap (λ (r : Option Raw). fits_raw (record hole { raw = r }) a) e
    ∙ sym (ap (λ (r : Option Raw). fits_raw (record hole { raw = r }) b) e)

pub plain-alike : (scripting : Bool) (place : PlainPlace) (hole : Hole) → is_plain_hole place hole ≡ true
    → (a b : Trees) → is_plain place false a ≡ true → is_plain place false b ≡ true → AreAlike scripting hole a b
plain-alike scripting place hole h a b plain₁ plain₂ =
    let kind = is_flow place || is_line place in
    let raw = is_none hole.raw in
    let current = is_in_current hole.parent in
    let before = not hole.after_text in
    let keeps = not hole.drops in
    let apart = not (begins_with_text hole.behind) in
    let p₆ = and_parts (kind && raw && current && before && keeps && apart) (holds_plain place hole.spot) h in
    let p₅ = and_parts (kind && raw && current && before && keeps) apart p₆.0 in
    let p₄ = and_parts (kind && raw && current && before) keeps p₅.0 in
    let p₃ = and_parts (kind && raw && current) before p₄.0 in
    let p₂ = and_parts (kind && raw) current p₃.0 in
    let p₁ = and_parts kind raw p₂.0 in
    let is = plain-spot place hole.spot p₁.0 p₆.1 in
    let one : (trees : Trees) → is_plain place false trees ≡ true
    → walk scripting hole.parent hole.after_text hole.drops trees hole.spot ≡ Some hole.spot = λ trees plain.
    (λ i. walk scripting (in-current hole.parent p₂.1 i) (not-so hole.after_text p₃.1 i) (not-so hole.drops p₄.1 i) trees hole.spot)
    ∙ plain-walk scripting place hole.spot p₁.0 is trees plain in
    record {
      walked = one a plain₁ ∙ sym (one b plain₂);
      raw = no-raw hole a b (none-there hole.raw p₁.1);
      ends = λ e. no (sym (not-so (begins_with_text hole.behind) p₅.1) ∙ e);
      drops = λ e. no (sym (not-so (begins_with_text hole.behind) p₅.1) ∙ e);
    }
