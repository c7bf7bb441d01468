-- Any text is like any other in a hole for text.
use Rattle.std.proofs.Common.{◌≡◌, ◌∙◌, ℕ, Bool, true, false, not, List, [], ◌∷◌, Option, Some, None, refl, sym, ap, subst, true≢false}
use Rattle.std.specs.Prelude.{◌&&◌, cond, is_none}
use Rattle.std.proofs.lemmas.Bool.{and_parts}
use Rattle.std.specs.Str.{bytes_eq}
use Rattle.markup.specs.Trees.{Trees, Nothing, Text, Comment, ProcessingInstruction, Doctype, Element}
use Rattle.html_tokens.specs.declared.token.Token.TheVariants.{CharacterTokens}
use Rattle.html_rules.specs.Choice.{choose}
use Rattle.html_rules.specs.ForeignContent.{is_foreign, is_foreign_at, is_html_element}
use Rattle.html_rules.specs.Modes.Foreign.{in_foreign_content}
use Rattle.html_rules.specs.Rules.{rows}
use Rattle.html_rules.specs.State.{Open, adjusted_by, current_is, is_in}
use Rattle.html_rules.specs.declared.insertion_mode.InsertionMode.{InsertionMode}
use Rattle.html_rules.specs.declared.insertion_mode.InsertionMode.TheVariants as mode
use Rattle.html_rules.specs.declared.tag_set.TagSet.TheVariants as set
use Rattle.html_faithful.specs.Forms.{is_kept, is_raw_text, lowered}
use Rattle.html_faithful.specs.Harmless.{TextHere, by_rows, made_of, nothing_yet}
use Rattle.html_faithful.specs.Holes.{AreAlike, Hole, Raw, begins_with_text, fits_raw, is_flow_mode, is_text_fit, is_text_hole}
use Rattle.html_faithful.specs.Holes.{is_text_mode}
use Rattle.html_faithful.specs.Holes.{joined, text_value}
use Rattle.html_faithful.specs.Spots.{Spot, hollow}
use Rattle.html_faithful.specs.Walk.{Parent, are_none, is_current, is_raw_inside, is_table_mode, text_walked, waits_at, walk}
use Rattle.html_faithful.proofs.Waiting.{at-html}

-- ONE CHARACTER

own-by : (p : Spot) (c : ℕ) (xs : List Open) → current_is is_html_element xs ≡ true
    → is_foreign_at (hollow p) (adjusted_by None xs) (CharacterTokens (c ∷ [])) ≡ false
own-by p c [] h = absurd (true≢false (sym h))
own-by p c (x ∷ xs) h = at-html (hollow p) x (CharacterTokens (c ∷ [])) h

own-text : (p : Spot) (c : ℕ) → current_is is_html_element p.path ≡ true → is_foreign (hollow p) (CharacterTokens (c ∷ [])) ≡ false
unfolding is_foreign
own-text p c h = own-by p c p.path h

-- a spot in a mode, after what rules out a frameset
abbrev in_flow : InsertionMode → Spot → Spot
in_flow m p = record p { mode = m; frameset_ok = false }

abbrev in_text : Spot → Spot
in_text p = record p { mode = mode.Text }

abbrev Stays : InsertionMode → Spot → Type 0
Stays m p = (c : ℕ) → by_rows 4 (rows m) (CharacterTokens (c ∷ [])) (nothing_yet p) ≡ Some (record (nothing_yet p) { put = Some TextHere })

flow-stays : (m : InsertionMode) (p : Spot) → is_flow_mode m ≡ true → Stays m (in_flow m p)
unfolding by_rows rows
flow-stays mode.InBody p h c = refl
flow-stays mode.InCell p h c = refl
flow-stays m p h c = absurd (true≢false (sym h))

text-stays : (p : Spot) → Stays mode.Text (in_text p)
unfolding by_rows rows
text-stays p c = refl

character-made : (p : Spot) (c : ℕ) → current_is is_html_element p.path ≡ true → Stays p.mode p
    → made_of (CharacterTokens (c ∷ [])) p ≡ Some (record (nothing_yet p) { put = Some TextHere })
unfolding made_of
character-made p c own stays =
    ap (λ b. by_rows 4 (choose b (λ _. in_foreign_content) (λ _. rows p.mode)) (CharacterTokens (c ∷ [])) (nothing_yet p))
    (own-text p c own)
    ∙ stays c

-- A TEXT

text-walks : (p : Spot) → current_is is_html_element p.path ≡ true → Stays p.mode p → (text : List ℕ) → text_walked text p ≡ Some p
text-walks p own stays [] = refl
text-walks p own stays (c ∷ cs) = rw (character-made p c own stays) (text-walks p own stays cs)

value-walks : (scripting : Bool) (parent : Parent) (p : Spot) → current_is is_html_element p.path ≡ true → Stays p.mode p
    → waits_at p ≡ false → is_current parent p ≡ true
    → (text : List ℕ) → is_kept text ≡ true → walk scripting parent false false (text_value text) p ≡ Some p
unfolding walk
value-walks scripting parent p own stays still cur [] kept = refl
value-walks scripting parent p own stays still cur (c ∷ cs) kept = rw (kept, cur, still, text-walks p own stays (c ∷ cs)) refl

-- THE HOLE

flow-apart : (m : InsertionMode) → is_flow_mode m ≡ true → is_table_mode m ≡ false
flow-apart mode.InBody h = refl
flow-apart mode.InCell h = refl
flow-apart m h = absurd (true≢false (sym h))

text-apart : (m : InsertionMode) → is_text_mode m ≡ true → is_table_mode m ≡ false
text-apart mode.Text h = refl
text-apart m h = absurd (true≢false (sym h))

still : (p : Spot) → is_table_mode p.mode ≡ false → waits_at p ≡ false
still p e = ap (λ b. b && current_is (is_in set.FosterTarget) p.path) e

text-mode : (m : InsertionMode) → is_text_mode m ≡ true → m ≡ mode.Text
text-mode mode.Text h = refl
text-mode m h = absurd (true≢false (sym h))

not-so : (b : Bool) → not b ≡ true → b ≡ false
not-so true h = absurd (true≢false (sym h))
not-so false h = refl

-- in flow, after what rules out a frameset
flow-here : (p : Spot) → is_flow_mode p.mode ≡ true → p.frameset_ok ≡ false → Stays p.mode p
flow-here p h ok = subst (λ q. Stays p.mode q) (λ i. record p { frameset_ok = sym ok i }) (flow-stays p.mode p h)

-- in the text of an element
text-here : (p : Spot) → is_text_mode p.mode ≡ true → Stays p.mode p
text-here p h =
    let e = text-mode p.mode h in
    subst (λ m. Stays m p) (sym e) (subst (λ q. Stays mode.Text q) (λ i. record p { mode = sym e i }) (text-stays p))

-- what a hole for text has, in raw text or not
record HasText (hole : Hole) (raw : Option Raw) : Type 0 where
  stays : Stays hole.spot.mode hole.spot
  waits_not : waits_at hole.spot ≡ false
  last : is_none raw ≡ false → hole.behind ≡ Nothing

nothing-there : (trees : Trees) → are_none trees ≡ true → trees ≡ Nothing
nothing-there Nothing h = refl
nothing-there (Text text rest) h = absurd (true≢false (sym h))
nothing-there (Comment text rest) h = absurd (true≢false (sym h))
nothing-there (ProcessingInstruction target text rest) h = absurd (true≢false (sym h))
nothing-there (Doctype name public_id system_id rest) h = absurd (true≢false (sym h))
nothing-there (Element name attributes template kids rest) h = absurd (true≢false (sym h))

has-text : (hole : Hole) (raw : Option Raw) → cond (is_none raw) (is_flow_mode hole.spot.mode && not hole.spot.frameset_ok)
    (is_text_mode hole.spot.mode && are_none hole.behind) ≡ true → HasText hole raw
has-text hole None h =
    let p = and_parts (is_flow_mode hole.spot.mode) (not hole.spot.frameset_ok) h in
    record {
      stays = flow-here hole.spot p.0 (not-so hole.spot.frameset_ok p.1);
      waits_not = still hole.spot (flow-apart hole.spot.mode p.0);
      last = λ e. absurd (true≢false e);
    }
has-text hole (Some raw) h =
    let p = and_parts (is_text_mode hole.spot.mode) (are_none hole.behind) h in
    record {
      stays = text-here hole.spot p.0;
      waits_not = still hole.spot (text-apart hole.spot.mode p.0);
      last = λ e. nothing-there hole.behind p.1;
    }

-- a text by itself fits raw text as its characters do
alone : (raw : Raw) (text : List ℕ) → is_raw_inside raw.kind raw.name (joined (text_value text) Nothing)
    ≡ is_raw_text raw.kind raw.name text
alone raw [] = refl
alone raw (c ∷ cs) = refl

fits-text : (hole : Hole) (raw : Option Raw) (a b : List ℕ) → hole.raw ≡ raw → (is_none raw ≡ false → hole.behind ≡ Nothing)
    → is_text_fit hole a ≡ is_text_fit hole b → fits_raw hole (text_value a) ≡ fits_raw hole (text_value b)
fits-text hole None a b e last h =
    ap (λ (r : Option Raw). fits_raw (record hole { raw = r }) (text_value a)) e
    ∙ sym (ap (λ (r : Option Raw). fits_raw (record hole { raw = r }) (text_value b)) e)
fits-text hole (Some raw) a b e last h =
    let fit = λ (t : Trees) (behind : Trees). bytes_eq (lowered raw.name) raw.name && is_raw_inside raw.kind raw.name (joined t behind) in
    let same : is_raw_text raw.kind raw.name a ≡ is_raw_text raw.kind raw.name b =
    sym (ap (λ (r : Option Raw). is_text_fit (record hole { raw = r }) a) e) ∙ (h
    ∙ ap (λ (r : Option Raw). is_text_fit (record hole { raw = r }) b) e) in
    let one : (t : List ℕ) → fits_raw hole (text_value t) ≡ (bytes_eq (lowered raw.name) raw.name && is_raw_text raw.kind raw.name t) = λ t.
    ap (λ (r : Option Raw). fits_raw (record hole { raw = r }) (text_value t)) e
    ∙ (ap (fit (text_value t)) (last refl) ∙ ap (λ f. bytes_eq (lowered raw.name) raw.name && f) (alone raw t)) in
    one a ∙ (ap (λ f. bytes_eq (lowered raw.name) raw.name && f) same ∙ sym (one b))

pub texts-alike : (scripting : Bool) (hole : Hole) → is_text_hole hole ≡ true → (a b : List ℕ) → is_kept a ≡ true → is_kept b ≡ true
    → is_text_fit hole a ≡ is_text_fit hole b → AreAlike scripting hole (text_value a) (text_value b)
texts-alike scripting hole is a b kept₁ kept₂ fit =
    let before = not hole.after_text in
    let keeps = not hole.drops in
    let apart = not (begins_with_text hole.behind) in
    let own = current_is is_html_element hole.spot.path in
    let cur = is_current hole.parent hole.spot in
    let kind = cond (is_none hole.raw) (is_flow_mode hole.spot.mode && not hole.spot.frameset_ok)
    (is_text_mode hole.spot.mode && are_none hole.behind) in
    let p₅ = and_parts (before && keeps && apart && own && cur) kind is in
    let p₄ = and_parts (before && keeps && apart && own) cur p₅.0 in
    let p₃ = and_parts (before && keeps && apart) own p₄.0 in
    let p₂ = and_parts (before && keeps) apart p₃.0 in
    let p₁ = and_parts before keeps p₂.0 in
    let has = has-text hole hole.raw p₅.1 in
    let one : (text : List ℕ) → is_kept text ≡ true
    → walk scripting hole.parent hole.after_text hole.drops (text_value text) hole.spot ≡ Some hole.spot = λ text kept.
    (λ i. walk scripting hole.parent (not-so hole.after_text p₁.0 i) (not-so hole.drops p₁.1 i) (text_value text) hole.spot)
    ∙ value-walks scripting hole.parent hole.spot p₃.1 has.stays has.waits_not p₄.1 text kept in
    record {
      walked = one a kept₁ ∙ sym (one b kept₂);
      raw = fits-text hole hole.raw a b refl has.last fit;
      ends = λ e. absurd (true≢false (sym e ∙ not-so (begins_with_text hole.behind) p₂.1));
      drops = λ e. absurd (true≢false (sym e ∙ not-so (begins_with_text hole.behind) p₂.1));
    }
