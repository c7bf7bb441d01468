-- The forms of flow and lines are read as their subtrees.
use Rattle.std.proofs.Common.{◌≡◌, ◌∙◌, ℕ, ◌≤◌, ◌<◌, Bool, true, false, List, [], ◌∷◌, ◌++◌, Option, Some, inl, inr, refl, ap, arith}
use Rattle.std.specs.Prelude.{◌&&◌}
use Rattle.markup.specs.Escape.{end_tag, escape, start_tag, written_comment}
use Rattle.markup.specs.Forest.{Forest, node_count, put_new, put_text}
use Rattle.markup.specs.Forest.Place.{Last}
use Rattle.markup.specs.Trees.{Trees, Nothing as NoTrees}
use Rattle.markup.specs.declared.attributes.Attribute.{Attribute}
use Rattle.html_plain.specs.Elements.{spelled}
use Rattle.html_plain.specs.Grammar.{are_plain_attributes, is_plain_comment}
use Rattle.html_plain.specs.Laws.{text_of}
use Rattle.html_plain.specs.declared.elements.Format.TheVariants.{Bold, Italic, Emphasis, Code}
use Rattle.html_plain.specs.declared.elements.Level.{Level}
use Rattle.html_plain.specs.declared.elements.ListKind.TheVariants.{Unordered, Ordered}
use Rattle.html_plain.specs.declared.elements.PlainElement.{PlainElement}
use Rattle.html_plain.specs.declared.elements.PlainElement.TheVariants.{Heading, Division, List as ListElement, Item, Break}
use Rattle.html_plain.specs.declared.elements.PlainElement.TheVariants.{Formatted, Link}
use Rattle.html_plain.specs.declared.place.PlainPlace.{PlainPlace}
use Rattle.html_plain.specs.declared.place.PlainPlace.TheVariants.{InFlow, InLine, InList}
use Rattle.html_round_trip.specs.Planting.Planted.{ArePlantable, planted}
use Rattle.html_rules.specs.Actions.{frameset_not_ok, frameset_not_ok_unless_white}
use Rattle.html_rules.specs.Formatting.{create_formatting_element_for, reconstruct_active_formatting_elements, with_room}
use Rattle.html_rules.specs.Names as names
use Rattle.html_rules.specs.Places.{append_text, insert_element, put_element}
use Rattle.html_rules.specs.Rules.{Finished, turn_of}
use Rattle.html_rules.specs.Sets.{names_of}
use Rattle.html_rules.specs.Stack.{close_p_element_in_button_scope}
use Rattle.html_rules.specs.State.{Entry, Element, Marker, Open, State}
use Rattle.html_rules.specs.Tokens.{is_white}
use Rattle.html_round_trip.specs.Slices.Forms.{Data as InData, end_token, start_token}
use Rattle.html_round_trip.proofs.Slices.Comments.{comment-spelled}
use Rattle.html_round_trip.proofs.Slices.PlainForms.{attributes-read, comments-read, names-of_tags}
use Rattle.html_round_trip.proofs.Slices.SpelledForms.{end-spelled, start-spelled}
use Rattle.html_tokens.specs.Laws.{ReadsEscapes, has_no_null, in_data}
use Rattle.html_tokens.specs.Table.{Row as TableRow}
use Rattle.html_tokens.specs.declared.replies.TokenSinkResult.TheVariants.{Continue}
use Rattle.html_tokens.specs.declared.token.Token.TheVariants.{CharacterTokens, CommentToken}
use Rattle.html_round_trip.specs.ReadBack.Forms.{AreReadInFlow, IsReadInFlow}
use Rattle.html_round_trip.specs.ReadBack.Laws.{ReadsInFlow}
use Rattle.html_round_trip.specs.ReadBack.Places.{AreBelow, AreOpen, Drops, Fits, HasNoLink, IsBare, IsGood, IsHome, ListsThere}
use Rattle.html_round_trip.specs.ReadBack.Places.{TakesBlocks, TakesThere}
use Rattle.html_round_trip.specs.ReadBack.Runs.{Reads, TakesQuietly}
use Rattle.html_round_trip.specs.ReadBack.States.{Around, Home, at, comment_node, element_node, mode_in, opened, tag_of}
use Rattle.html_round_trip.proofs.ReadBack.Entries.{all-open_more, bare-stays, below-left, below-more, drops-none, drops-room}
use Rattle.html_round_trip.proofs.ReadBack.Entries.{drops-then, link-left, none-listed, open-left}
use Rattle.html_round_trip.proofs.ReadBack.Goods.{element-more, good-around, good-element, good-planted, good-text}
use Rattle.html_round_trip.proofs.ReadBack.Runs.{reads-both, reads-one}
use Rattle.html_round_trip.proofs.ReadBack.Stacks.{home-more, home-ready, is_in_flow, same}
use Rattle.html_round_trip.proofs.ReadBack.Taking.{character-once, comment-once, tag-once}
use Rattle.html_round_trip.proofs.ReadBack.Texts.{every, flag_after, text-reads}
use Rattle.html_round_trip.proofs.ReadBack.Turns.Flow.{after_heading, character-there, comment-there, end-formatting}
use Rattle.html_round_trip.proofs.ReadBack.Turns.Flow.{end-simple, is_format, is_formatting, is_simple_block, is_simply_ended}
use Rattle.html_round_trip.proofs.ReadBack.Turns.Flow.{start-block, start-break, start-format, start-heading, start-item}
use Rattle.html_round_trip.proofs.ReadBack.Turns.Flow.{start-link}
use Rattle.html_round_trip.proofs.ReadBack.Words.{adopted, appended, commented, formatted, inserted, no-heading, no-item_closed}
use Rattle.html_round_trip.proofs.ReadBack.Words.{no-link, none-closed, popped, put-alone, reconstructed}

-- PLACES

pub bare-no_link : (es : List Entry) → IsBare es → HasNoLink es
bare-no_link [] bare = refl
bare-no_link (Marker ∷ es) bare = refl
bare-no_link (Element n tag ∷ es) bare = absurd bare

-- entries that left are none of which more is asked
lists-left : (place : PlainPlace) (es left : List Entry) → Drops es left → ListsThere place es → ListsThere place left
lists-left (InLine true) es left h lists = tt
lists-left (InLine false) es left h lists = link-left es left h lists
lists-left InFlow es left h lists = rw (bare-stays es left lists h) lists
lists-left InList es left h lists = rw (bare-stays es left lists h) lists
lists-left place es left h lists = rw (bare-stays es left lists h) lists

-- after a subtree the place is as before
pub fits-after : (place : PlainPlace) (b : Home) (f g : Forest) (stack : List Open) (es left : List Entry)
    → node_count f ≤ node_count g → Drops es left → Fits place b f stack es → Fits place b g stack left
fits-after place b f g stack es left more h fits = record {
  home = fits.home;
  takes = fits.takes;
  below = below-left (node_count g) es left h (below-more (node_count f) (node_count g) es more fits.below);
  all_open = open-left stack es left h fits.all_open;
  lists = lists-left place es left h fits.lists;
}

-- in an element that is not listed
fits-inside : (k : PlainElement) → is_in_flow k ≡ true → (place other : PlainPlace) (b : Home) (f g : Forest)
    (stack : List Open) (es : List Entry) → node_count f < node_count g → Fits place b f stack es
    → TakesThere other b (opened (node_count f) k ∷ stack) → ListsThere other es → Fits other b g (opened (node_count f) k ∷ stack) es
fits-inside k flows place other b f g stack es more fits takes lists = record {
  home = home-more k flows b (node_count f) stack fits.home;
  takes = takes;
  below = below-more (node_count f) (node_count g) es (omega arith) fits.below;
  all_open = all-open_more (node_count f) k stack es fits.all_open;
  lists = lists;
}

is-open_first : (n : ℕ) (k : PlainElement) (stack : List Open) (tag : _) (es : List Entry) → AreOpen stack es
    → AreOpen (opened n k ∷ stack) (Element n tag ∷ es)
is-open_first n k stack tag es are = ((rw (same n) refl), all-open_more n k stack es are)

-- in one that is
fits-listed : (k : PlainElement) (attrs : List Attribute) → is_in_flow k ≡ true → (place other : PlainPlace)
    (b : Home) (f g : Forest) (stack : List Open) (es : List Entry) → node_count f < node_count g → Fits place b f stack es
    → let entries = Element (node_count f) (tag_of k attrs) ∷ with_room (tag_of k attrs) es in TakesThere other b
    (opened (node_count f) k ∷ stack) → ListsThere other entries → Fits other b g (opened (node_count f) k ∷ stack) entries
fits-listed k attrs flows place other b f g stack es more fits takes lists =
    let room = with_room (tag_of k attrs) es in
    let less = drops-room (tag_of k attrs) es in
    record {
      home = home-more k flows b (node_count f) stack fits.home;
      takes = takes;
      below = (more, below-more (node_count f) (node_count g) room (omega arith) (below-left (node_count f) es room less fits.below));
      all_open = is-open_first (node_count f) k stack (tag_of k attrs) room (open-left stack es room less fits.all_open);
      lists = lists;
    }

pub takes-division : (b : Home) (n : ℕ) (stack : List Open) → TakesBlocks b stack → TakesThere InFlow b (opened n Division ∷ stack)
unfolding names_of
takes-division b n stack takes = (record { back = takes.back; no_paragraph = takes.no_paragraph }, refl)

takes-item : (b : Home) (n : ℕ) (stack : List Open) → TakesBlocks b stack → TakesThere InFlow b (opened n Item ∷ stack)
unfolding names_of
takes-item b n stack takes = (record { back = takes.back; no_paragraph = takes.no_paragraph }, refl)

pub takes-list : (kind : _) (b : Home) (n : ℕ) (stack : List Open) → TakesBlocks b stack → TakesThere InList b
    (opened n (ListElement kind) ∷ stack)
unfolding names_of
takes-list Unordered b n stack takes = (record { back = takes.back; no_paragraph = takes.no_paragraph }, refl)
takes-list Ordered b n stack takes = (record { back = takes.back; no_paragraph = takes.no_paragraph }, refl)

module _ (rows : List TableRow) (reads : ReadsEscapes rows) (sc : Bool) (o : Around) (head : Option ℕ) where
  abbrev FlowLaw : PlainPlace → Trees → Type 0
  FlowLaw place trees = AreReadInFlow rows sc o head place trees

  abbrev FlowElement : PlainPlace → PlainElement → List Attribute → Trees → Type 0
  FlowElement place k attrs kids = IsReadInFlow rows sc o head place k attrs kids

  -- an element, from what is read of its tags and of its children
  pub around : (k : PlainElement) (attrs : List Attribute) → are_plain_attributes attrs ≡ true
      → (last left : Option (List ℕ)) (s inner end new : State) (t : List ℕ)
      → TakesQuietly rows s (start_token (spelled k) attrs) inner Continue → Reads rows (in_data (Some (spelled k)))
      inner t (in_data left) end → TakesQuietly rows end (end_token (spelled k)) new Continue
      → Reads rows (in_data last) s (start_tag (spelled k) attrs ++ (t ++ end_tag (spelled k))) (in_data left) new
  around k attrs plain last left s inner end new t opens within closes =
      reads-both rows (in_data last) (in_data (Some (spelled k))) (in_data left) s inner new
      (start_tag (spelled k) attrs) (t ++ end_tag (spelled k))
      (reads-one rows (in_data last) (in_data (Some (spelled k))) s inner (start_tag (spelled k) attrs)
      (start_token (spelled k) attrs) Continue
      (start-spelled rows reads last (spelled k) attrs (names-of_tags k) (attributes-read attrs plain)) opens)
      (reads-both rows (in_data (Some (spelled k))) (in_data left) (in_data left) inner end new t (end_tag (spelled k)) within
      (reads-one rows (in_data left) (in_data left) end new (end_tag (spelled k)) (end_token (spelled k)) Continue
      (end-spelled rows left (spelled k) (names-of_tags k)) closes))

  -- TEXT

  character-takes : (b : Home) (n : ℕ) (top : PlainElement) (os : List Open) (es : List Entry)
      → IsHome b (opened n top ∷ os) → AreOpen (opened n top ∷ os) es → (f : Forest) (ok : Bool) (c : ℕ) → IsGood f n
      → TakesQuietly rows (at o head (mode_in b) f (opened n top ∷ os) es ok) (CharacterTokens (c ∷ []))
      (at o head (mode_in b) (put_text f (Last n) (c ∷ [])) (opened n top ∷ os) es (ok && is_white (c ∷ []))) Continue
  unfolding frameset_not_ok_unless_white
  character-takes b n top os es home are f ok c good =
      let stack = opened n top ∷ os in
      character-once rows _ _ c false (home-ready o head b f stack es ok (CharacterTokens (c ∷ [])) home good.silent)
      (character-there o head n top f os es ok [] c b
      ∙ (ap (λ s. turn_of (append_text (c ∷ []) (frameset_not_ok_unless_white (c ∷ []) s)) (Finished false))
      (reconstructed o head (mode_in b) f stack es ok are)
      ∙ ap (λ s. turn_of s (Finished false)) (appended o head (mode_in b) (c ∷ []) n top f os es (ok && is_white (c ∷ [])))))
      (good-text f n (c ∷ []) good).silent

  pub text-flows : (place : PlainPlace) (b : Home) (n : ℕ) (top : PlainElement) (os : List Open)
      (last : Option (List ℕ)) (f : Forest) (es : List Entry) (ok : Bool) (cs : List ℕ) → has_no_null cs ≡ true
      → IsGood f n → Fits place b f (opened n top ∷ os) es
      → ReadsInFlow rows o head b n top os last f es ok (escape cs) (put_text f (Last n) cs)
  text-flows place b n top os last f es ok cs shown good fits = record {
    last_tag = last;
    entries = es;
    frameset_ok = flag_after (λ c ok. ok && is_white (c ∷ [])) cs ok;
    drops = drops-none es;
    reads =
        text-reads rows reads InData last n (λ f ok. at o head (mode_in b) f (opened n top ∷ os) es ok)
        (λ c ok. ok && is_white (c ∷ [])) (λ c. true)
        (λ f ok c good tested. character-takes b n top os es fits.home fits.all_open f ok c good) cs shown (every cs) f ok good;
  }

  -- A COMMENT

  comment-takes : (b : Home) (n : ℕ) (top : PlainElement) (os : List Open) (f : Forest) (es : List Entry)
      (ok : Bool) (text : List ℕ) → IsGood f n → IsHome b (opened n top ∷ os)
      → TakesQuietly rows (at o head (mode_in b) f (opened n top ∷ os) es ok) (CommentToken text)
      (at o head (mode_in b) (put_new f (Last n) (comment_node text)) (opened n top ∷ os) es ok) Continue
  comment-takes b n top os f es ok text good home =
      comment-once rows _ _ text false (home-ready o head b f (opened n top ∷ os) es ok (CommentToken text) home good.silent)
      (comment-there o head n top f os es ok [] text b ∙ ap (λ s. turn_of s (Finished false))
      (commented o head (mode_in b) text n top f os es ok)) good.silent

  pub comment-reads : (b : Home) (n : ℕ) (top : PlainElement) (os : List Open) (last : Option (List ℕ)) (f : Forest)
      (es : List Entry) (ok : Bool) (text : List ℕ) → is_plain_comment text ≡ true → IsGood f n → IsHome b (opened n top ∷ os)
      → Reads rows (in_data last) (at o head (mode_in b) f (opened n top ∷ os) es ok) (written_comment text)
      (in_data last) (at o head (mode_in b) (put_new f (Last n) (comment_node text)) (opened n top ∷ os) es ok)
  comment-reads b n top os last f es ok text plain good home =
      reads-one rows (in_data last) (in_data last) _ _ (written_comment text) (CommentToken text) Continue
      (comment-spelled rows last text (comments-read text plain).0) (comment-takes b n top os f es ok text good home)

  pub comment-flows : (place : PlainPlace) (b : Home) (n : ℕ) (top : PlainElement) (os : List Open)
      (last : Option (List ℕ)) (f : Forest) (es : List Entry) (ok : Bool) (text : List ℕ)
      → is_plain_comment text ≡ true → IsGood f n → Fits place b f (opened n top ∷ os) es
      → ReadsInFlow rows o head b n top os last f es ok (written_comment text) (put_new f (Last n) (comment_node text))
  comment-flows place b n top os last f es ok text plain good fits = record {
    last_tag = last;
    entries = es;
    frameset_ok = ok;
    drops = drops-none es;
    reads = comment-reads b n top os last f es ok text plain good fits.home;
  }

  -- ELEMENTS

  -- the children of an element that was opened are read, and it is closed
  wrapped : (k : PlainElement) (attrs : List Attribute) → are_plain_attributes attrs ≡ true → (b : Home) (n : ℕ)
      (top : PlainElement) (os : List Open) (last : Option (List ℕ)) (f g h : Forest) (m : ℕ)
      (es inner : List Entry) (ok opens_ok : Bool) (t : List ℕ)
      → TakesQuietly rows (at o head (mode_in b) f (opened n top ∷ os) es ok) (start_token (spelled k) attrs)
      (at o head (mode_in b) g (opened m k ∷ opened n top ∷ os) inner opens_ok) Continue
      → (within : ReadsInFlow rows o head b m k (opened n top ∷ os) (Some (spelled k)) g inner opens_ok t h)
      → (left : List Entry) → Drops es left
      → TakesQuietly rows (at o head (mode_in b) h (opened m k ∷ opened n top ∷ os) within.entries
      within.frameset_ok) (end_token (spelled k)) (at o head (mode_in b) h (opened n top ∷ os) left within.frameset_ok) Continue
      → ReadsInFlow rows o head b n top os last f es ok (start_tag (spelled k) attrs ++ (t ++ end_tag (spelled k))) h
  wrapped k attrs plain b n top os last f g h m es inner ok opens_ok t opens within left drops closes = record {
    last_tag = within.last_tag;
    entries = left;
    frameset_ok = within.frameset_ok;
    drops = drops;
    reads = around k attrs plain last within.last_tag _ _ _ _ t opens within.reads closes;
  }

  -- its tag closes it
  closes-simply : (k : PlainElement) → is_simply_ended k ≡ true → is_in_flow k ≡ true → (b : Home) (n : ℕ)
      (stack : List Open) (f : Forest) (es : List Entry) (ok : Bool) → IsHome b stack → f.errors ≡ 0
      → TakesQuietly rows (at o head (mode_in b) f (opened n k ∷ stack) es ok) (end_token (spelled k))
      (at o head (mode_in b) f stack es ok) Continue
  closes-simply k ends flows b n stack f es ok home silent =
      tag-once rows _ _ _ false
      (home-ready o head b f (opened n k ∷ stack) es ok _ (home-more k flows b n stack home) silent) refl
      (end-simple o head n f stack es ok k ends b) silent

  -- an element that is not listed
  module _ (k : PlainElement) (attrs : List Attribute) (plain : are_plain_attributes attrs ≡ true) (kids : Trees)
      (can : ArePlantable false kids) (ends : is_simply_ended k ≡ true) (flows : is_in_flow k ≡ true)
      (place other : PlainPlace) (law : FlowLaw other kids) where
    simply : (b : Home) (n : ℕ) (top : PlainElement) (os : List Open) (last : Option (List ℕ)) (f : Forest)
        (es : List Entry) (ok opens_ok : Bool) → IsGood f n → Fits place b f (opened n top ∷ os) es
        → let g = put_new f (Last n) (element_node k attrs) in
        TakesQuietly rows (at o head (mode_in b) f (opened n top ∷ os) es ok) (start_token (spelled k) attrs)
        (at o head (mode_in b) g (opened (node_count f) k ∷ opened n top ∷ os) es opens_ok) Continue
        → TakesThere other b (opened (node_count f) k ∷ opened n top ∷ os) → ListsThere other es
        → ReadsInFlow rows o head b n top os last f es ok
        (start_tag (spelled k) attrs ++ (text_of sc kids ++ end_tag (spelled k))) (planted kids (node_count f) g)
    simply b n top os last f es ok opens_ok good fits opens takes lists =
        let g = put_new f (Last n) (element_node k attrs) in
        let stack = opened n top ∷ os in
        let inner = good-element f n k attrs good in
        let around_it = good-around f n k attrs good in
        let within = law b (node_count f) k stack (Some (spelled k)) g es opens_ok inner
        (fits-inside k flows place other b f g stack es (element-more f n k attrs good) fits takes lists) in
        let left = good-planted kids (node_count f) n g false can inner around_it.parent in
        wrapped k attrs plain b n top os last f g (planted kids (node_count f) g) (node_count f) es es ok opens_ok
        (text_of sc kids) opens within within.entries within.drops
        (closes-simply k ends flows b (node_count f) stack (planted kids (node_count f) g) within.entries
        within.frameset_ok fits.home left.silent)

  -- a paragraph, a division or a list
  pub block-law : (k : PlainElement) → is_simple_block k ≡ true → is_simply_ended k ≡ true → is_in_flow k ≡ true
      → (attrs : List Attribute) → are_plain_attributes attrs ≡ true → (kids : Trees) → ArePlantable false kids
      → (other : PlainPlace) → ((b : Home) (n : ℕ) (stack : List Open) → TakesBlocks b stack → TakesThere other b
      (opened n k ∷ stack)) → ((es : List Entry) → IsBare es → ListsThere other es)
      → FlowLaw other kids → (b : Home) (n : ℕ) (top : PlainElement) (os : List Open) (last : Option (List ℕ))
      (f : Forest) (es : List Entry) (ok : Bool) → IsGood f n → Fits InFlow b f (opened n top ∷ os) es
      → ReadsInFlow rows o head b n top os last f es ok
      (start_tag (spelled k) attrs ++ (text_of sc kids ++ end_tag (spelled k)))
      (planted kids (node_count f) (put_new f (Last n) (element_node k attrs)))
  block-law k block ends flows attrs plain kids can other takes lists law b n top os last f es ok good fits =
      let stack = opened n top ∷ os in
      simply k attrs plain kids can ends flows InFlow other law b n top os last f es ok ok good fits
      (tag-once rows _ _ (tag_of k attrs) false (home-ready o head b f stack es ok _ fits.home good.silent) refl
      (start-block o head n top f os es ok attrs k block b
      ∙ (ap (λ s. turn_of (insert_element names.Html (spelled k) attrs false s) (Finished false))
      (none-closed o head (mode_in b) f stack es ok fits.takes.0.no_paragraph)
      ∙ ap (λ s. turn_of s (Finished false)) (inserted o head (mode_in b) k attrs n top f os es ok)))
      good.silent)
      (takes b (node_count f) stack fits.takes.0) (lists es fits.lists)

  pub heading-law : (level : Level) (attrs : List Attribute) → are_plain_attributes attrs ≡ true → (kids : Trees)
      → ArePlantable false kids → FlowLaw (InLine false) kids → FlowElement InFlow (Heading level) attrs kids
  heading-law level attrs plain kids can law b n top os last f es ok good fits =
      let k = Heading level in
      let stack = opened n top ∷ os in
      simply k attrs plain kids can refl refl InFlow (InLine false) law b n top os last f es ok ok good fits
      (tag-once rows _ _ (tag_of k attrs) false (home-ready o head b f stack es ok _ fits.home good.silent) refl
      (start-heading o head n top f os es ok attrs level b
      ∙ (ap (λ s. turn_of (insert_element names.Html (spelled k) attrs false (after_heading s)) (Finished false))
      (none-closed o head (mode_in b) f stack es ok fits.takes.0.no_paragraph)
      ∙ (ap (λ s. turn_of (insert_element names.Html (spelled k) attrs false s) (Finished false))
      (no-heading o head (mode_in b) f stack es ok fits.takes.1)
      ∙ ap (λ s. turn_of s (Finished false)) (inserted o head (mode_in b) k attrs n top f os es ok))))
      good.silent)
      tt (bare-no_link es fits.lists)

  pub item-law : (attrs : List Attribute) → are_plain_attributes attrs ≡ true → (kids : Trees)
      → ArePlantable false kids → FlowLaw InFlow kids → FlowElement InList Item attrs kids
  unfolding frameset_not_ok
  item-law attrs plain kids can law b n top os last f es ok good fits =
      let k = Item in
      let stack = opened n top ∷ os in
      simply k attrs plain kids can refl refl InList InFlow law b n top os last f es ok false good fits
      (tag-once rows _ _ (tag_of k attrs) false (home-ready o head b f stack es ok _ fits.home good.silent) refl
      (start-item o head n top f os es ok attrs b
      ∙ (ap (λ s. turn_of (insert_element names.Html (spelled k) attrs false (close_p_element_in_button_scope s))
      (Finished false)) (no-item_closed o head (mode_in b) f stack es false fits.takes.1)
      ∙ (ap (λ s. turn_of (insert_element names.Html (spelled k) attrs false s) (Finished false))
      (none-closed o head (mode_in b) f stack es false fits.takes.0.no_paragraph)
      ∙ ap (λ s. turn_of s (Finished false)) (inserted o head (mode_in b) k attrs n top f os es false))))
      good.silent)
      (takes-item b (node_count f) stack fits.takes.0) fits.lists

  -- a break
  pub break-law : (place : PlainPlace) (attrs : List Attribute) → are_plain_attributes attrs ≡ true → (kids : Trees)
      → kids ≡ NoTrees → FlowElement place Break attrs kids
  unfolding frameset_not_ok
  break-law place attrs plain kids none b n top os last f es ok good fits =
      let stack = opened n top ∷ os in
      let g = put_new f (Last n) (element_node Break attrs) in
      rw none record {
        last_tag = Some (spelled Break);
        entries = es;
        frameset_ok = false;
        drops = drops-none es;
        reads =
            reads-one rows (in_data last) (in_data (Some (spelled Break))) (at o head (mode_in b) f stack es ok)
            (at o head (mode_in b) g stack es false) (start_tag (spelled Break) attrs) (start_token (spelled Break) attrs) Continue
            (start-spelled rows reads last (spelled Break) attrs (names-of_tags Break) (attributes-read attrs plain))
            (tag-once rows _ _ (tag_of Break attrs) true (home-ready o head b f stack es ok _ fits.home good.silent) refl
            (start-break o head n top f os es ok attrs b
            ∙ (ap (λ s. turn_of (frameset_not_ok (put_element names.Html (spelled Break) attrs false s))
            (Finished true)) (reconstructed o head (mode_in b) f stack es ok fits.all_open)
            ∙ ap (λ s. turn_of (frameset_not_ok s) (Finished true)) (put-alone o head (mode_in b) Break attrs n top f os es ok)))
            good.silent);
      }

  -- FORMATTING ELEMENTS AND LINKS

  -- what is left once such an element is closed
  record Closes (k : PlainElement) (b : Home) (m : ℕ) (stack : List Open) (f : Forest) (room inner : List Entry) (ok : Bool) : Type 0 where
    left : List Entry
    drops : Drops room left
    takes : TakesQuietly rows (at o head (mode_in b) f (opened m k ∷ stack) inner ok) (end_token (spelled k))
        (at o head (mode_in b) f stack left ok) Continue

  closes-listed : (k : PlainElement) → is_formatting k ≡ true → is_in_flow k ≡ true → (attrs : List Attribute)
      (b : Home) (m : ℕ) (stack : List Open) (f : Forest) (room inner : List Entry) (ok : Bool) → IsHome b stack
      → f.errors ≡ 0 → AreBelow m room → Drops (Element m (tag_of k attrs) ∷ room) inner → Closes k b m stack f room inner ok
  closes-listed k formats flows attrs b m stack f room inner ok home silent below (inl less) = record {
    left = inner;
    drops = less;
    takes =
        tag-once rows _ _ _ false (home-ready o head b f (opened m k ∷ stack) inner ok _ (home-more k flows b m stack home) silent) refl
        (end-formatting o head m f stack inner ok k formats b ∙ ap (λ s. turn_of s (Finished false))
        (popped o head (mode_in b) attrs m f stack inner ok k formats
        (none-listed m inner (below-left m room inner less below)))) silent;
  }
  closes-listed k formats flows attrs b m stack f room inner ok home silent below (inr kept) =
      rw kept.1.0 record {
        left = kept.0;
        drops = kept.1.1;
        takes =
            tag-once rows _ _ _ false
            (home-ready o head b f (opened m k ∷ stack) (Element m (tag_of k attrs) ∷ kept.0) ok _
            (home-more k flows b m stack home) silent) refl
            (end-formatting o head m f stack (Element m (tag_of k attrs) ∷ kept.0) ok k formats b
            ∙ ap (λ s. turn_of s (Finished false)) (adopted o head (mode_in b) attrs m f stack kept.0 ok k formats)) silent;
      }

  -- an element that is listed, once its tag opens it
  listed-law : (k : PlainElement) → is_formatting k ≡ true → is_in_flow k ≡ true → (attrs : List Attribute)
      → are_plain_attributes attrs ≡ true → (kids : Trees) → ArePlantable false kids → (place : PlainPlace)
      (in_link : Bool) → FlowLaw (InLine in_link) kids
      → (b : Home) (n : ℕ) (top : PlainElement) (os : List Open) (last : Option (List ℕ)) (f : Forest)
      (es : List Entry) (ok : Bool) → IsGood f n → Fits place b f (opened n top ∷ os) es
      → let g = put_new f (Last n) (element_node k attrs) in
      let entries = Element (node_count f) (tag_of k attrs) ∷ with_room (tag_of k attrs) es in
      TakesQuietly rows (at o head (mode_in b) f (opened n top ∷ os) es ok) (start_token (spelled k) attrs)
      (at o head (mode_in b) g (opened (node_count f) k ∷ opened n top ∷ os) entries ok) Continue
      → ListsThere (InLine in_link) entries
      → ReadsInFlow rows o head b n top os last f es ok
      (start_tag (spelled k) attrs ++ (text_of sc kids ++ end_tag (spelled k))) (planted kids (node_count f) g)
  listed-law k formats flows attrs plain kids can place in_link law b n top os last f es ok good fits opens lists =
      let g = put_new f (Last n) (element_node k attrs) in
      let m = node_count f in
      let stack = opened n top ∷ os in
      let room = with_room (tag_of k attrs) es in
      let less = drops-room (tag_of k attrs) es in
      let entries = Element m (tag_of k attrs) ∷ room in
      let inner = good-element f n k attrs good in
      let around_it = good-around f n k attrs good in
      let within = law b m k stack (Some (spelled k)) g entries ok inner
      (fits-listed k attrs flows place (InLine in_link) b f g stack es (element-more f n k attrs good) fits tt lists) in
      let left = good-planted kids m n g false can inner around_it.parent in
      let closes = closes-listed k formats flows attrs b m stack (planted kids m g) room within.entries
      within.frameset_ok fits.home left.silent (below-left m es room less fits.below) within.drops in
      wrapped k attrs plain b n top os last f g (planted kids m g) m es entries ok ok (text_of sc kids) opens within
      closes.left (drops-then es room closes.left less closes.drops) closes.takes

  pub format-law : (k : PlainElement) → is_format k ≡ true → is_formatting k ≡ true → is_in_flow k ≡ true
      → (attrs : List Attribute) → are_plain_attributes attrs ≡ true → (kids : Trees) → ArePlantable false kids
      → (place : PlainPlace) (in_link : Bool) → FlowLaw (InLine in_link) kids
      → ((m : ℕ) (es room : List Entry) → Drops es room → ListsThere place es → ListsThere (InLine in_link)
      (Element m (tag_of k attrs) ∷ room))
      → (b : Home) (n : ℕ) (top : PlainElement) (os : List Open) (last : Option (List ℕ)) (f : Forest)
      (es : List Entry) (ok : Bool) → IsGood f n → Fits place b f (opened n top ∷ os) es
      → ReadsInFlow rows o head b n top os last f es ok
      (start_tag (spelled k) attrs ++ (text_of sc kids ++ end_tag (spelled k)))
      (planted kids (node_count f) (put_new f (Last n) (element_node k attrs)))
  format-law k format formats flows attrs plain kids can place in_link law lists b n top os last f es ok good fits =
      let stack = opened n top ∷ os in
      listed-law k formats flows attrs plain kids can place in_link law b n top os last f es ok good fits
      (tag-once rows _ _ (tag_of k attrs) false (home-ready o head b f stack es ok _ fits.home good.silent) refl
      (start-format o head n top f os es ok attrs k format b
      ∙ (ap (λ s. turn_of (create_formatting_element_for (tag_of k attrs) s) (Finished false))
      (reconstructed o head (mode_in b) f stack es ok fits.all_open)
      ∙ ap (λ s. turn_of s (Finished false)) (formatted o head (mode_in b) k attrs n top f os es ok)))
      good.silent)
      (lists (node_count f) es (with_room (tag_of k attrs) es) (drops-room (tag_of k attrs) es) fits.lists)

  pub link-law : (attrs : List Attribute) → are_plain_attributes attrs ≡ true → (kids : Trees)
      → ArePlantable false kids → (place : PlainPlace) → FlowLaw (InLine true) kids
      → ((es : List Entry) → ListsThere place es → HasNoLink es) → FlowElement place Link attrs kids
  link-law attrs plain kids can place law none b n top os last f es ok good fits =
      let k = Link in
      let stack = opened n top ∷ os in
      listed-law k refl refl attrs plain kids can place true law b n top os last f es ok good fits
      (tag-once rows _ _ (tag_of k attrs) false (home-ready o head b f stack es ok _ fits.home good.silent) refl
      (start-link o head n top f os es ok attrs b
      ∙ (ap (λ s. turn_of (create_formatting_element_for (tag_of k attrs)
      (reconstruct_active_formatting_elements s)) (Finished false))
      (no-link o head (mode_in b) f stack es ok (none es fits.lists))
      ∙ (ap (λ s. turn_of (create_formatting_element_for (tag_of k attrs) s) (Finished false))
      (reconstructed o head (mode_in b) f stack es ok fits.all_open)
      ∙ ap (λ s. turn_of s (Finished false)) (formatted o head (mode_in b) k attrs n top f os es ok))))
      good.silent)
      tt

  -- EACH ELEMENT OF FLOW, BUT TABLES

  pub lists-formatted : (k : PlainElement) → is_format k ≡ true → (attrs : List Attribute) (m : ℕ)
      (room : List Entry) → HasNoLink room → HasNoLink (Element m (tag_of k attrs) ∷ room)
  lists-formatted (Formatted Bold) h attrs m room none = none
  lists-formatted (Formatted Italic) h attrs m room none = none
  lists-formatted (Formatted Emphasis) h attrs m room none = none
  lists-formatted (Formatted Code) h attrs m room none = none
  lists-formatted k h attrs m room none = absurd (cc)
