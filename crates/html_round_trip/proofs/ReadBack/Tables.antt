-- Tables and their parts are read as their subtrees. White space beside their elements waits for the next tag.
use Rattle.std.proofs.Common.{◌≡◌, ◌∙◌, ℕ, ◌≤◌, Bool, true, false, List, [], ◌∷◌, ◌++◌, Option, Some, refl, sym, ap, arith}
use Rattle.std.proofs.Common.{subst, append_assoc, append-nil}
use Rattle.std.specs.Prelude.{◌||◌, nat_eq}
use Rattle.std.specs.List.{list_all}
use Rattle.std.proofs.lemmas.Bool.{and_from, and_parts}
use Rattle.markup.specs.Escape.{end_tag, escape, escaped, start_tag}
use Rattle.markup.specs.Forest.{Forest, node_count, put_new, put_text}
use Rattle.markup.specs.Forest.Place.{Last}
use Rattle.markup.specs.Trees.{Trees}
use Rattle.markup.specs.declared.attributes.Attribute.{Attribute}
use Rattle.markup.proofs.TextPieces.{put_text-append}
use Rattle.html_plain.specs.Elements.{spelled}
use Rattle.html_plain.specs.Grammar as plain
use Rattle.html_plain.specs.Grammar.{are_plain_attributes}
use Rattle.html_plain.specs.Laws.{text_of}
use Rattle.html_plain.specs.declared.elements.CellKind.{CellKind}
use Rattle.html_plain.specs.declared.elements.CellKind.TheVariants.{Data, Header}
use Rattle.html_plain.specs.declared.elements.PlainElement.{PlainElement}
use Rattle.html_plain.specs.declared.elements.PlainElement.TheVariants.{Table, TableBody, Row, Cell}
use Rattle.html_plain.specs.declared.place.PlainPlace.TheVariants.{InFlow}
use Rattle.html_round_trip.specs.Planting.Planted.{ArePlantable, planted}
use Rattle.html_rules.specs.Actions.{restore_mode, frameset_not_ok, set_mode, insert_pending_text}
use Rattle.html_rules.specs.Encodings.{is_space}
use Rattle.html_rules.specs.Formatting.{push_marker}
use Rattle.html_rules.specs.Names as names
use Rattle.html_rules.specs.Places.{append_text, insert_element}
use Rattle.html_rules.specs.Rules.{Again, Finished, is_self_closing, turn, turn_of}
use Rattle.html_rules.specs.Sets.{names_of}
use Rattle.html_rules.specs.State.{Entry, Marker, Open, State}
use Rattle.html_rules.specs.Tokens.{is_white}
use Rattle.html_rules.specs.declared.insertion_mode.InsertionMode.{InsertionMode}
use Rattle.html_rules.specs.declared.insertion_mode.InsertionMode.TheVariants as mode
use Rattle.html_round_trip.specs.Slices.Forms.{Data as InData, end_token, start_token}
use Rattle.html_round_trip.proofs.Slices.SpelledForms.{character-spelled}
use Rattle.html_tokens.specs.Laws.{ReadsEscapes, has_no_null, in_data, is_not_null}
use Rattle.html_tokens.specs.Table.{Row as TableRow}
use Rattle.html_tokens.specs.Tags.{named}
use Rattle.html_tokens.specs.declared.replies.TokenSinkResult.TheVariants.{Continue}
use Rattle.html_tokens.specs.declared.tags.Tag.{Tag}
use Rattle.html_tokens.specs.declared.tags.TagKind.TheVariants.{EndTag}
use Rattle.html_tokens.specs.declared.token.Token.TheVariants.{CharacterTokens, TagToken}
use Rattle.html_round_trip.specs.ReadBack.Forms.{AreReadInFlow, AreReadInPart}
use Rattle.html_round_trip.specs.ReadBack.Laws.{ReadsElementInPart, ReadsInFlow, ReadsInPart, held}
use Rattle.html_round_trip.specs.ReadBack.Places.{AreBelow, Fits, IsGood, IsHome, IsRooted, TakesThere}
use Rattle.html_round_trip.specs.ReadBack.Runs.{NoText, Reads, TakesQuietly}
use Rattle.html_round_trip.specs.ReadBack.States.{Around, Home, OfCell, Part, OfTable, OfBodies, OfRow, at, element_node}
use Rattle.html_round_trip.specs.ReadBack.States.{mode_in, mode_of_part, opened, part_element, tag_of, waiting_at}
use Rattle.html_round_trip.proofs.ReadBack.Entries.{below-more, drops-none}
use Rattle.html_round_trip.proofs.ReadBack.Flow.{around}
use Rattle.html_round_trip.proofs.ReadBack.Goods.{element-more, good-around, good-element, good-planted, good-text, text-more}
use Rattle.html_round_trip.proofs.ReadBack.Runs.{reads-both, reads-one}
use Rattle.html_round_trip.proofs.ReadBack.Stacks.{home-ready, no-template_open, part-ready, waiting-ready}
use Rattle.html_round_trip.proofs.ReadBack.Taking.{character-once, character-twice, tag-once, tag-twice}
use Rattle.html_round_trip.proofs.ReadBack.Turns.Flow.{start-table}
use Rattle.html_round_trip.proofs.ReadBack.Turns.Tables.{end-cell, end-row, end-table, end-table_body, first-character}
use Rattle.html_round_trip.proofs.ReadBack.Turns.Tables.{next-character, start-cell, start-row, start-table_body}
use Rattle.html_round_trip.proofs.ReadBack.Turns.Tables.{tag-place_after_text}
use Rattle.html_round_trip.proofs.ReadBack.Words.{inserted, none-closed, reset-to}

-- white space of the grammar is that of the rules
space-by : (a b c d e : Bool) → (a || b || c || d) ≡ true → (a || b || c || e || d) ≡ true
space-by true b c d e h = refl
space-by false true c d e h = refl
space-by false false true d e h = refl
space-by false false false true true h = refl
space-by false false false true false h = refl
space-by false false false false e h = absurd (cc)

pub space-of : (c : ℕ) → plain.is_white c ≡ true → is_space c ≡ true
space-of c h = space-by (nat_eq c 9) (nat_eq c 10) (nat_eq c 12) (nat_eq c 32) (nat_eq c 13) h

pub white-of : (text : List ℕ) → list_all plain.is_white text ≡ true → is_white text ≡ true
white-of [] h = refl
white-of (c ∷ text) h = let p = and_parts (plain.is_white c) (list_all plain.is_white text) h in
    and_from (is_space c) (is_white text) (space-of c p.0) (white-of text p.1)

white-both : (w text : List ℕ) → list_all plain.is_white w ≡ true → list_all plain.is_white text ≡ true
    → list_all plain.is_white (w ++ text) ≡ true
white-both [] text h k = k
white-both (c ∷ w) text h k = let p = and_parts (plain.is_white c) (list_all plain.is_white w) h in
    and_from (plain.is_white c) (list_all plain.is_white (w ++ text)) p.0 (white-both w text p.1 k)

-- what waits is told
told : (o : Around) (head : Option ℕ) (m : InsertionMode) (n : ℕ) (k : PlainElement) (f : Forest) (os : List Open)
    (es : List Entry) (ok : Bool) (text : List ℕ) → is_white text ≡ true
    → restore_mode (insert_pending_text (waiting_at o head m f (opened n k ∷ os) es ok text)) ≡ at o head m
    (put_text f (Last n) text) (opened n k ∷ os) es ok
unfolding restore_mode insert_pending_text append_text
told o head m n k f os es ok text white = rw (white, no-template_open n k) refl

module _ (rows : List TableRow) (reads : ReadsEscapes rows) (sc : Bool) (o : Around) (head : Option ℕ) where
  abbrev PartLaw : Part → Trees → Type 0
  PartLaw part trees = AreReadInPart rows sc o head part trees

  -- a tag is taken where text waits as where that was told
  held-takes : (part : Part) (n : ℕ) (os : List Open) (f : Forest) (es : List Entry) (ok : Bool) (waiting : List ℕ)
      (tag : Tag) (new : State) (b : Bool) → IsGood f n → IsRooted (opened n (part_element part) ∷ os)
      → list_all plain.is_white waiting ≡ true
      → is_self_closing (TagToken tag) ≡ false → turn (TagToken tag)
      (at o head (mode_of_part part) (put_text f (Last n) waiting) (opened n (part_element part) ∷ os) es ok) ≡
      turn_of new (Finished b) → new.forest.errors ≡ 0
      → TakesQuietly rows (held o head part f (opened n (part_element part) ∷ os) es ok waiting) (TagToken tag) new Continue
  held-takes part n os f es ok [] tag new b good rooted white plain e silent =
      tag-once rows _ new tag b (part-ready o head part f (opened n (part_element part) ∷ os) es ok
      (TagToken tag) rooted good.silent) plain e silent
  held-takes part n os f es ok (c ∷ waiting) tag new b good rooted white plain e silent =
      tag-twice rows _ _ new tag b (waiting-ready o head part f (opened n (part_element part) ∷ os) es ok
      (c ∷ waiting) (TagToken tag) rooted good.silent) plain
      (tag-place_after_text o head n f os es ok tag part (c ∷ waiting) ∙ ap (λ s. turn_of s Again)
      (told o head (mode_of_part part) n (part_element part) f os es ok (c ∷ waiting) (white-of (c ∷ waiting) white)))
      e silent

  -- TEXT

  one-waits : (part : Part) (n : ℕ) (os : List Open) (f : Forest) (es : List Entry) (ok : Bool) (waiting : List ℕ)
      (c : ℕ) → IsGood f n → IsRooted (opened n (part_element part) ∷ os)
      → TakesQuietly rows (held o head part f (opened n (part_element part) ∷ os) es ok waiting)
      (CharacterTokens (c ∷ [])) (held o head part f (opened n (part_element part) ∷ os) es ok (waiting ++ c ∷ [])) Continue
  one-waits part n os f es ok [] c good rooted =
      character-twice rows _ _ _ c false (part-ready o head part f (opened n (part_element part) ∷ os) es ok
      (CharacterTokens (c ∷ [])) rooted good.silent)
      (first-character o head n f os es ok c part) (next-character o head n f os es ok c part []) good.silent
  one-waits part n os f es ok (d ∷ waiting) c good rooted =
      character-once rows _ _ c false (waiting-ready o head part f (opened n (part_element part) ∷ os) es ok
      (d ∷ waiting) (CharacterTokens (c ∷ [])) rooted good.silent)
      (next-character o head n f os es ok c part (d ∷ waiting)) good.silent

  text-waits : (part : Part) (n : ℕ) (os : List Open) (last : Option (List ℕ)) (f : Forest) (es : List Entry)
      (ok : Bool) (waiting cs : List ℕ) → has_no_null cs ≡ true → IsGood f n → IsRooted (opened n (part_element part) ∷ os)
      → Reads rows (in_data last) (held o head part f (opened n (part_element part) ∷ os) es ok waiting) (escape cs)
      (in_data last) (held o head part f (opened n (part_element part) ∷ os) es ok (waiting ++ cs))
  text-waits part n os last f es ok waiting [] shown good rooted = rw append-nil NoText
  text-waits part n os last f es ok waiting (c ∷ cs) shown good rooted =
      let p = and_parts (is_not_null c) (has_no_null cs) shown in
      let st = in_data last in
      let here = λ (w : List ℕ). held o head part f (opened n (part_element part) ∷ os) es ok w in
      let more = text-waits part n os last f es ok (waiting ++ c ∷ []) cs p.1 good rooted in
      reads-both rows st st st (here waiting) (here (waiting ++ c ∷ [])) (here (waiting ++ (c ∷ cs))) (escaped c) (escape cs)
      (reads-one rows st st (here waiting) (here (waiting ++ c ∷ [])) (escaped c) (CharacterTokens (c ∷ []))
      Continue (character-spelled rows reads InData last c p.0) (one-waits part n os f es ok waiting c good rooted))
      (rw append_assoc at more)

  -- white space in a part of a table waits
  pub text-part : (part : Part) (n : ℕ) (os : List Open) (last : Option (List ℕ)) (f : Forest) (es : List Entry)
      (ok : Bool) (waiting cs : List ℕ) → has_no_null cs ≡ true → IsGood f n
      → IsRooted (opened n (part_element part) ∷ os) → list_all plain.is_white waiting ≡ true → list_all plain.is_white cs ≡ true
      → ReadsInPart rows o head part n os last f es ok waiting (escape cs) (put_text (put_text f (Last n) waiting) (Last n) cs)
  text-part part n os last f es ok waiting cs shown good rooted white more = record {
    last_tag = last;
    frameset_ok = ok;
    forest = f;
    still_waiting = waiting ++ cs;
    white = white-both waiting cs white more;
    good = good;
    more = omega arith;
    whole = sym (put_text-append f (Last n) waiting cs good.tree.forest good.parent);
    reads = text-waits part n os last f es ok waiting cs shown good rooted;
  }

  -- ELEMENTS

  abbrev PartElement : Part → PlainElement → List Attribute → Trees → Type 0
  PartElement part k attrs kids =
      (n : ℕ) (os : List Open) (last : Option (List ℕ)) (f : Forest) (es : List Entry) (ok : Bool)
      (waiting : List ℕ) → IsGood f n → IsRooted (opened n (part_element part) ∷ os)
      → AreBelow (node_count f) es → list_all plain.is_white waiting ≡ true
      → let g = put_text f (Last n) waiting in
      ReadsElementInPart rows o head part n os last f es ok waiting
      (start_tag (spelled k) attrs ++ (text_of sc kids ++ end_tag (spelled k)))
      (planted kids (node_count g) (put_new g (Last n) (element_node k attrs)))

  rooted-more : (part : Part) (n : ℕ) (stack : List Open) → IsRooted stack → IsRooted (opened n (part_element part) ∷ stack)
  unfolding names_of
  rooted-more OfTable n stack rooted = record { root = rooted.root; templates = rooted.templates }
  rooted-more OfBodies n stack rooted = record { root = rooted.root; templates = rooted.templates }
  rooted-more OfRow n stack rooted = record { root = rooted.root; templates = rooted.templates }

  -- a part in another
  nested : (part inner : Part) (attrs : List Attribute) → are_plain_attributes attrs ≡ true → (kids : Trees)
      → ArePlantable false kids → PartLaw inner kids
      → ((n : ℕ) (f : Forest) (os : List Open) (es : List Entry) (ok : Bool)
      → turn (start_token (spelled (part_element inner)) attrs)
      (at o head (mode_of_part part) f (opened n (part_element part) ∷ os) es ok)
      ≡ turn_of (at o head (mode_of_part inner) (put_new f (Last n) (element_node (part_element inner) attrs))
      (opened (node_count f) (part_element inner) ∷ opened n (part_element part) ∷ os) es ok) (Finished false))
      → ((n : ℕ) (f : Forest) (os : List Open) (es : List Entry) (ok : Bool)
      → turn (end_token (spelled (part_element inner)))
      (at o head (mode_of_part inner) f (opened n (part_element inner) ∷ os) es ok) ≡ turn_of
      (at o head (mode_of_part part) f os es ok) (Finished false))
      → PartElement part (part_element inner) attrs kids
  nested part inner attrs plain kids can law starts ends n os last f es ok waiting good rooted below white =
      let k = part_element inner in
      let stack = opened n (part_element part) ∷ os in
      let f' = put_text f (Last n) waiting in
      let good' = good-text f n waiting good in
      let g = put_new f' (Last n) (element_node k attrs) in
      let m = node_count f' in
      let good_inner = good-element f' n k attrs good' in
      let around_it = good-around f' n k attrs good' in
      let l₁ = text-more f n waiting good in
      let l₂ = element-more f' n k attrs good' in
      let le : node_count f ≤ node_count g = omega arith in
      let rooted' = rooted-more inner m stack rooted in
      let within = law m stack (Some (spelled k)) g es ok [] good_inner rooted'
      (below-more (node_count f) (node_count g) es le below) refl in
      let h = planted kids m g in
      let left = good-planted kids m n g false can good_inner around_it.parent in
      let text_there = put_text within.forest (Last m) within.still_waiting in
      let closed : turn (end_token (spelled k))
      (at o head (mode_of_part inner) text_there (opened m k ∷ stack) es within.frameset_ok) ≡ turn_of
      (at o head (mode_of_part part) h stack es within.frameset_ok) (Finished false) =
      subst (λ f. turn (end_token (spelled k))
      (at o head (mode_of_part inner) text_there (opened m k ∷ stack) es within.frameset_ok) ≡ turn_of
      (at o head (mode_of_part part) f stack es within.frameset_ok) (Finished false)) {x = text_there}
      within.whole (ends m text_there stack es within.frameset_ok) in
      record {
        last_tag = within.last_tag;
        frameset_ok = within.frameset_ok;
        reads =
            around rows reads sc o head k attrs plain last within.last_tag (held o head part f stack es ok waiting)
            (at o head (mode_of_part inner) g (opened m k ∷ stack) es ok)
            (held o head inner within.forest (opened m k ∷ stack) es within.frameset_ok within.still_waiting)
            (at o head (mode_of_part part) h stack es within.frameset_ok) (text_of sc kids)
            (held-takes part n os f es ok waiting (tag_of k attrs) _ false good rooted white refl (starts n f' os es ok) good'.silent)
            within.reads
            (held-takes inner m stack within.forest es within.frameset_ok within.still_waiting
            (named EndTag (spelled k)) _ false within.good rooted' within.white refl
            closed left.silent);
      }

  pub table_body-law : (attrs : List Attribute) → are_plain_attributes attrs ≡ true → (kids : Trees)
      → ArePlantable false kids → PartLaw OfBodies kids → PartElement OfTable TableBody attrs kids
  unfolding set_mode
  table_body-law attrs plain kids can law =
      nested OfTable OfBodies attrs plain kids can law
      (λ n f os es ok. start-table_body o head n f os es ok attrs
      ∙ ap (λ s. turn_of (set_mode mode.InTableBody s) (Finished false))
      (inserted o head mode.InTable TableBody attrs n Table f os es ok))
      (λ n f os es ok. end-table_body o head n f os es ok)

  pub row-law : (attrs : List Attribute) → are_plain_attributes attrs ≡ true → (kids : Trees)
      → ArePlantable false kids → PartLaw OfRow kids → PartElement OfBodies Row attrs kids
  unfolding set_mode
  row-law attrs plain kids can law =
      nested OfBodies OfRow attrs plain kids can law
      (λ n f os es ok. start-row o head n f os es ok attrs
      ∙ ap (λ s. turn_of (set_mode mode.InRow s) (Finished false))
      (inserted o head mode.InTableBody Row attrs n TableBody f os es ok))
      (λ n f os es ok. end-row o head n f os es ok)

  -- a cell begins new flow
  cell-home : (kind : CellKind) (n : ℕ) (stack : List Open) → IsRooted stack → IsHome OfCell (opened n (Cell kind) ∷ stack)
  unfolding names_of
  cell-home Data n stack rooted = record { root = rooted.root; templates = rooted.templates; cell = refl }
  cell-home Header n stack rooted = record { root = rooted.root; templates = rooted.templates; cell = refl }

  cell-takes : (kind : CellKind) (n : ℕ) (stack : List Open) → TakesThere InFlow OfCell (opened n (Cell kind) ∷ stack)
  unfolding names_of
  cell-takes Data n stack = (record { back = λ s. refl; no_paragraph = refl }, refl)
  cell-takes Header n stack = (record { back = λ s. refl; no_paragraph = refl }, refl)

  pub cell-law : (kind : CellKind) (attrs : List Attribute) → are_plain_attributes attrs ≡ true → (kids : Trees)
      → ArePlantable false kids → AreReadInFlow rows sc o head InFlow kids → PartElement OfRow (Cell kind) attrs kids
  unfolding set_mode push_marker
  cell-law kind attrs plain kids can law n os last f es ok waiting good rooted below white =
      let k = Cell kind in
      let stack = opened n Row ∷ os in
      let f' = put_text f (Last n) waiting in
      let good' = good-text f n waiting good in
      let g = put_new f' (Last n) (element_node k attrs) in
      let m = node_count f' in
      let good_inner = good-element f' n k attrs good' in
      let around_it = good-around f' n k attrs good' in
      let l₁ = text-more f n waiting good in
      let l₂ = element-more f' n k attrs good' in
      let le : node_count f ≤ node_count g = omega arith in
      let home = cell-home kind m stack rooted in
      let within = law OfCell m k stack (Some (spelled k)) g (Marker ∷ es) ok good_inner
      (record {
        home = home;
        takes = cell-takes kind m stack;
        below = below-more (node_count f) (node_count g) es le below;
        all_open = tt;
        lists = tt;
      }) in
      let h = planted kids m g in
      let left = good-planted kids m n g false can good_inner around_it.parent in
      record {
        last_tag = within.last_tag;
        frameset_ok = within.frameset_ok;
        reads =
            around rows reads sc o head k attrs plain last within.last_tag (held o head OfRow f stack es ok waiting)
            (at o head mode.InCell g (opened m k ∷ stack) (Marker ∷ es) ok)
            (at o head mode.InCell h (opened m k ∷ stack) within.entries within.frameset_ok)
            (at o head mode.InRow h stack es within.frameset_ok) (text_of sc kids)
            (held-takes OfRow n os f es ok waiting (tag_of k attrs) _ false good rooted white refl
            (start-cell o head n f' os es ok attrs kind
            ∙ ap (λ s. turn_of (push_marker (set_mode mode.InCell s)) (Finished false))
            (inserted o head mode.InRow k attrs n Row f' os es ok)) good'.silent)
            within.reads
            (rw within.drops
            (tag-once rows _ _ (named EndTag (spelled k)) false
            (home-ready o head OfCell h (opened m k ∷ stack) (Marker ∷ es) within.frameset_ok _ home
            left.silent) refl (end-cell o head m h stack es within.frameset_ok kind) left.silent));
      }

  -- a table in flow
  home-rooted : (b : Home) (n : ℕ) (stack : List Open) → IsHome b stack → IsRooted (opened n Table ∷ stack)
  unfolding names_of
  home-rooted b n stack home = record { root = home.root; templates = home.templates }

  pub table-law : (attrs : List Attribute) → are_plain_attributes attrs ≡ true → (kids : Trees)
      → ArePlantable false kids → PartLaw OfTable kids
      → (b : Home) (n : ℕ) (top : PlainElement) (os : List Open) (last : Option (List ℕ)) (f : Forest)
      (es : List Entry) (ok : Bool) → IsGood f n → Fits InFlow b f (opened n top ∷ os) es
      → ReadsInFlow rows o head b n top os last f es ok
      (start_tag (spelled Table) attrs ++ (text_of sc kids ++ end_tag (spelled Table)))
      (planted kids (node_count f) (put_new f (Last n) (element_node Table attrs)))
  unfolding set_mode frameset_not_ok
  table-law attrs plain kids can law b n top os last f es ok good fits =
      let k = Table in
      let stack = opened n top ∷ os in
      let g = put_new f (Last n) (element_node k attrs) in
      let m = node_count f in
      let good_inner = good-element f n k attrs good in
      let around_it = good-around f n k attrs good in
      let l = element-more f n k attrs good in
      let le : node_count f ≤ node_count g = omega arith in
      let rooted = home-rooted b m stack fits.home in
      let within = law m stack (Some (spelled k)) g es false [] good_inner rooted
      (below-more (node_count f) (node_count g) es le fits.below) refl in
      let h = planted kids m g in
      let left = good-planted kids m n g false can good_inner around_it.parent in
      record {
        last_tag = within.last_tag;
        entries = es;
        frameset_ok = within.frameset_ok;
        drops = drops-none es;
        reads =
            around rows reads sc o head k attrs plain last within.last_tag (at o head (mode_in b) f stack es ok)
            (at o head mode.InTable g (opened m k ∷ stack) es false)
            (held o head OfTable within.forest (opened m k ∷ stack) es within.frameset_ok within.still_waiting)
            (at o head (mode_in b) h stack es within.frameset_ok) (text_of sc kids)
            (tag-once rows _ _ (tag_of k attrs) false (home-ready o head b f stack es ok _ fits.home good.silent) refl
            (start-table o head n top f os es ok attrs b
            ∙ (ap (λ s. turn_of (set_mode mode.InTable
            (frameset_not_ok (insert_element names.Html (spelled k) attrs false s))) (Finished false))
            (none-closed o head (mode_in b) f stack es ok fits.takes.0.no_paragraph)
            ∙ ap (λ s. turn_of (set_mode mode.InTable (frameset_not_ok s)) (Finished false))
            (inserted o head (mode_in b) k attrs n top f os es ok)))
            good.silent)
            within.reads
            (held-takes OfTable m stack within.forest es within.frameset_ok within.still_waiting
            (named EndTag (spelled k)) _ false within.good rooted within.white refl
            (end-table o head m (put_text within.forest (Last m) within.still_waiting) stack es within.frameset_ok
            ∙ (ap (λ s. turn_of s (Finished false))
            (reset-to o head mode.InTable (mode_in b) (put_text within.forest (Last m) within.still_waiting)
            stack es within.frameset_ok fits.takes.0.back)
            ∙ ap (λ f. turn_of (at o head (mode_in b) f stack es within.frameset_ok) (Finished false)) within.whole))
            left.silent);
      }
