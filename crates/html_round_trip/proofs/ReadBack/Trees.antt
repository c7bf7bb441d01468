-- Plain trees are read as they are, by induction over them.
use Rattle.std.proofs.Common.{◌≡◌, ◌∙◌, ℕ, ◌≤◌, Bool, true, false, List, [], ◌∷◌, ◌++◌, Option, refl, sym, ap, arith, append_assoc, subst}
use Rattle.std.specs.List.{list_all}
use Rattle.markup.specs.Escape.{end_tag, escape, start_tag, written_comment}
use Rattle.markup.specs.Forest.{Forest, node_count, put_new, put_text}
use Rattle.markup.specs.Forest.Place.{Last}
use Rattle.markup.specs.Trees.{Trees, Nothing, Text, Comment, ProcessingInstruction, Doctype, Element, written}
use Rattle.markup.specs.declared.attributes.Attribute.{Attribute}
use Rattle.html_plain.specs.Elements.{place_after_element, place_after_text, html_name, inside, spelled, takes_comments, text_kind}
use Rattle.html_plain.specs.Grammar.{IsPlain, is_plain_comment, is_plain_text, is_white, takes_text}
use Rattle.html_plain.specs.Laws.{text_of}
use Rattle.html_plain.specs.declared.elements.PlainElement.{PlainElement}
use Rattle.html_plain.specs.declared.elements.PlainElement.TheVariants.{Break}
use Rattle.html_plain.specs.declared.place.PlainPlace.{PlainPlace}
use Rattle.html_plain.specs.declared.place.PlainPlace.TheVariants.{InFlow, InLine, InList, InRow, InTable, InTableBody}
use Rattle.html_plain.proofs.WrittenForms.{break-written, element-written}
use Rattle.html_round_trip.specs.Planting.Planted.{planted}
use Rattle.html_round_trip.proofs.Planting.PlainTrees.{plain-plantable}
use Rattle.html_rules.specs.State.{Entry, Open}
use Rattle.html_round_trip.proofs.Slices.PlainForms.{texts-read}
use Rattle.html_tokens.specs.Laws.{ReadsEscapes, in_data}
use Rattle.html_tokens.specs.Table.{Row as TableRow}
use Rattle.html_round_trip.specs.ReadBack.Forms.{AreRead, AreReadInFlow, AreReadInPart, IsRead, IsReadInFlow, IsReadInPart}
use Rattle.html_round_trip.proofs.ReadBack.Forms.{form, nothing-in_break}
use Rattle.html_round_trip.specs.ReadBack.Laws.{ReadsElementInPart, ReadsInFlow, ReadsInPart, element_text}
use Rattle.html_round_trip.specs.ReadBack.Places.{AreBelow, Fits, IsGood, IsRooted}
use Rattle.html_round_trip.specs.ReadBack.Runs as runs
use Rattle.html_round_trip.specs.ReadBack.States.{Around, Home, Part, OfTable, OfBodies, OfRow, comment_node, element_node}
use Rattle.html_round_trip.specs.ReadBack.States.{opened, part_element}
use Rattle.html_round_trip.proofs.ReadBack.Entries.{below-more, drops-none, drops-then}
use Rattle.html_round_trip.proofs.ReadBack.Flow.{comment-flows, fits-after, text-flows}
use Rattle.html_round_trip.proofs.ReadBack.Goods.{comment-more, element-more, good-comment, good-around, good-element}
use Rattle.html_round_trip.proofs.ReadBack.Goods.{good-planted, good-text, planted-more, text-more}
use Rattle.html_round_trip.proofs.ReadBack.Runs.{reads-both}
use Rattle.html_round_trip.proofs.ReadBack.Tables.{text-part}

module _ (rows : List TableRow) (reads : ReadsEscapes rows) (sc : Bool) (o : Around) (head : Option ℕ) where
  abbrev flow : PlainPlace → Trees → Type 0
  flow place trees = AreReadInFlow rows sc o head place trees

  abbrev part : Part → Trees → Type 0
  part p trees = AreReadInPart rows sc o head p trees

  abbrev Law : PlainPlace → Trees → Type 0
  Law place trees = AreRead rows sc o head place trees

  -- ONE AFTER THE OTHER

  flow-both : (place : PlainPlace) (b : Home) (n : ℕ) (top : PlainElement) (os : List Open) (last : Option (List ℕ))
      (f g : Forest) (es : List Entry) (ok : Bool) (t : List ℕ) (rest : Trees)
      → Fits place b f (opened n top ∷ os) es → IsGood g n → node_count f ≤ node_count g
      → ReadsInFlow rows o head b n top os last f es ok t g → flow place rest
      → ReadsInFlow rows o head b n top os last f es ok (t ++ text_of sc rest) (planted rest n g)
  flow-both place b n top os last f g es ok t rest fits good more first law =
      let stack = opened n top ∷ os in
      let second = law b n top os first.last_tag g first.entries first.frameset_ok good
      (fits-after place b f g stack es first.entries more first.drops fits) in
      record {
        last_tag = second.last_tag;
        entries = second.entries;
        frameset_ok = second.frameset_ok;
        drops = drops-then es first.entries second.entries first.drops second.drops;
        reads = reads-both rows (in_data last) (in_data first.last_tag) (in_data second.last_tag) _ _ _ t
            (text_of sc rest) first.reads second.reads;
      }

  part-both : (p : Part) (n : ℕ) (os : List Open) (last : Option (List ℕ)) (f g : Forest) (es : List Entry)
      (ok : Bool) (waiting t : List ℕ) (rest : Trees)
      → IsRooted (opened n (part_element p) ∷ os) → AreBelow (node_count f) es → ReadsInPart rows o head p n os last
      f es ok waiting t g → part p rest
      → ReadsInPart rows o head p n os last f es ok waiting (t ++ text_of sc rest) (planted rest n g)
  part-both p n os last f g es ok waiting t rest rooted below first law =
      let second = law n os first.last_tag first.forest es first.frameset_ok first.still_waiting first.good rooted
      (below-more (node_count f) (node_count first.forest) es first.more below) first.white in
      record {
        last_tag = second.last_tag;
        frameset_ok = second.frameset_ok;
        forest = second.forest;
        still_waiting = second.still_waiting;
        white = second.white;
        good = second.good;
        more = (let l₁ = first.more in let l₂ = second.more in omega arith);
        whole = second.whole ∙ ap (planted rest n) first.whole;
        reads = reads-both rows (in_data last) (in_data first.last_tag) (in_data second.last_tag) _ _ _ t
            (text_of sc rest) first.reads second.reads;
      }

  -- an element that left no text waiting
  part-element : (p : Part) (n : ℕ) (os : List Open) (last : Option (List ℕ)) (f g : Forest) (es : List Entry)
      (ok : Bool) (waiting t : List ℕ) → IsGood g n → node_count f ≤ node_count g
      → ReadsElementInPart rows o head p n os last f es ok waiting t g → ReadsInPart rows o head p n os last f es ok waiting t g
  part-element p n os last f g es ok waiting t good more first = record {
    last_tag = first.last_tag;
    frameset_ok = first.frameset_ok;
    forest = g;
    still_waiting = [];
    white = refl;
    good = good;
    more = more;
    whole = refl;
    reads = first.reads;
  }

  -- NOTHING

  flow-nothing : (place : PlainPlace) → flow place Nothing
  unfolding written
  flow-nothing place b n top os last f es ok good fits = record {
    last_tag = last;
    entries = es;
    frameset_ok = ok;
    drops = drops-none es;
    reads = runs.NoText;
  }

  part-nothing : (p : Part) → part p Nothing
  unfolding written
  part-nothing p n os last f es ok waiting good rooted below white = record {
    last_tag = last;
    frameset_ok = ok;
    forest = f;
    still_waiting = waiting;
    white = white;
    good = good;
    more = omega arith;
    whole = refl;
    reads = runs.NoText;
  }

  nothing-law : (place : PlainPlace) → Law place Nothing
  nothing-law InFlow = flow-nothing InFlow
  nothing-law (InLine in_link) = flow-nothing (InLine in_link)
  nothing-law InList = flow-nothing InList
  nothing-law InTable = part-nothing OfTable
  nothing-law InTableBody = part-nothing OfBodies
  nothing-law InRow = part-nothing OfRow
  nothing-law place = tt

  -- TEXT

  flow-text : (place : PlainPlace) (text : List ℕ) (rest : Trees) → is_plain_text text ≡ true → flow place rest
      → flow place (Text text rest)
  unfolding written
  flow-text place text rest plain law b n top os last f es ok good fits =
      flow-both place b n top os last f (put_text f (Last n) text) es ok (escape text) rest fits
      (good-text f n text good) (text-more f n text good)
      (text-flows rows reads sc o head place b n top os last f es ok text (texts-read text plain).0 good fits) law

  part-text : (p : Part) (text : List ℕ) (rest : Trees) → is_plain_text text ≡ true → list_all is_white text ≡ true
      → part p rest → part p (Text text rest)
  unfolding written
  part-text p text rest plain white law n os last f es ok waiting good rooted below waits =
      part-both p n os last f (put_text (put_text f (Last n) waiting) (Last n) text) es ok waiting (escape text) rest rooted below
      (text-part rows reads sc o head p n os last f es ok waiting text (texts-read text plain).0 good rooted waits white) law

  text-law : (place : PlainPlace) (text : List ℕ) (rest : Trees) → is_plain_text text ≡ true
      → takes_text (text_kind place) text ≡ true → Law (place_after_text place) rest → Law place (Text text rest)
  text-law InFlow text rest plain takes law = flow-text InFlow text rest plain law
  text-law (InLine in_link) text rest plain takes law = flow-text (InLine in_link) text rest plain law
  text-law InList text rest plain takes law = flow-text InList text rest plain law
  text-law InTable text rest plain takes law = part-text OfTable text rest plain takes law
  text-law InTableBody text rest plain takes law = part-text OfBodies text rest plain takes law
  text-law InRow text rest plain takes law = part-text OfRow text rest plain takes law
  text-law place text rest plain takes law = tt

  -- A COMMENT

  flow-comment : (text : List ℕ) (rest : Trees) → is_plain_comment text ≡ true → flow InFlow rest → flow InFlow (Comment text rest)
  unfolding written
  flow-comment text rest plain law b n top os last f es ok good fits =
      flow-both InFlow b n top os last f (put_new f (Last n) (comment_node text)) es ok (written_comment text) rest
      fits (good-comment f n text good) (comment-more f n text good)
      (comment-flows rows reads sc o head InFlow b n top os last f es ok text plain good fits) law

  comment-law : (place : PlainPlace) (text : List ℕ) (rest : Trees) → takes_comments place ≡ true
      → is_plain_comment text ≡ true → Law place rest → Law place (Comment text rest)
  comment-law InFlow text rest takes plain law = flow-comment text rest plain law
  comment-law place text rest takes plain law = absurd (cc)

  -- ELEMENTS

  around-shape : (a b c d : List ℕ) → a ++ (b ++ (c ++ d)) ≡ (a ++ (b ++ c)) ++ d
  around-shape a b c d = simp append_assoc

  element-shape : (place : PlainPlace) (k : PlainElement) (attrs : List Attribute) (kids rest : Trees) → IsPlain (inside place k) false kids
      → text_of sc (Element (html_name (spelled k)) attrs false kids rest) ≡ element_text k attrs (text_of sc kids) ++ text_of sc rest
  element-shape place Break attrs kids rest is =
      ap (λ kids. text_of sc (Element (html_name (spelled Break)) attrs false kids rest))
      (nothing-in_break false kids is) ∙ break-written sc attrs rest
  element-shape place k attrs kids rest is =
      element-written k refl sc attrs kids rest ∙ around-shape (start_tag (spelled k) attrs) (text_of sc kids)
      (end_tag (spelled k)) (text_of sc rest)

  -- an element, and what follows it
  flow-first : (place : PlainPlace) (k : PlainElement) (attrs : List Attribute) (kids rest : Trees)
      → IsPlain (inside place k) false kids → IsReadInFlow rows sc o head place k attrs kids → flow place rest
      → flow place (Element (html_name (spelled k)) attrs false kids rest)
  flow-first place k attrs kids rest is there law b n top os last f es ok good fits =
      let can = plain-plantable (inside place k) false kids is in
      let g = put_new f (Last n) (element_node k attrs) in
      let m = node_count f in
      let inner = good-element f n k attrs good in
      let around_it = good-around f n k attrs good in
      let l₁ = element-more f n k attrs good in
      let l₂ = planted-more kids m g false can inner in
      let t = element_text k attrs (text_of sc kids) in
      let both = flow-both place b n top os last f (planted kids m g) es ok t rest fits
      (good-planted kids m n g false can inner around_it.parent) (omega arith) (there b n top os last f es ok good fits) law in
      rw (element-shape place k attrs kids rest is) both

  part-first : (p : Part) (place : PlainPlace) (k : PlainElement) (attrs : List Attribute) (kids rest : Trees)
      → IsPlain (inside place k) false kids → IsReadInPart rows sc o head p k attrs kids → part p rest
      → part p (Element (html_name (spelled k)) attrs false kids rest)
  part-first p place k attrs kids rest is there law n os last f es ok waiting good rooted below white =
      let can = plain-plantable (inside place k) false kids is in
      let f' = put_text f (Last n) waiting in
      let good' = good-text f n waiting good in
      let g = put_new f' (Last n) (element_node k attrs) in
      let m = node_count f' in
      let inner = good-element f' n k attrs good' in
      let around_it = good-around f' n k attrs good' in
      let l₀ = text-more f n waiting good in
      let l₁ = element-more f' n k attrs good' in
      let l₂ = planted-more kids m g false can inner in
      let t = element_text k attrs (text_of sc kids) in
      let first = part-element p n os last f (planted kids m g) es ok waiting t
      (good-planted kids m n g false can inner around_it.parent) (omega arith)
      (there n os last f es ok waiting good rooted below white) in
      let both = part-both p n os last f (planted kids m g) es ok waiting t rest rooted below first law in
      rw (element-shape place k attrs kids rest is) both

  element-law : (place : PlainPlace) (k : PlainElement) (attrs : List Attribute) (kids rest : Trees)
      → IsPlain (inside place k) false kids → IsRead rows sc o head place k attrs kids
      → Law (place_after_element place) rest → Law place (Element (html_name (spelled k)) attrs false kids rest)
  element-law InFlow k attrs kids rest is there more = flow-first InFlow k attrs kids rest is there more
  element-law (InLine in_link) k attrs kids rest is there more = flow-first (InLine in_link) k attrs kids rest is there more
  element-law InList k attrs kids rest is there more = flow-first InList k attrs kids rest is there more
  element-law InTable k attrs kids rest is there more = part-first OfTable InTable k attrs kids rest is there more
  element-law InTableBody k attrs kids rest is there more = part-first OfBodies InTableBody k attrs kids rest is there more
  element-law InRow k attrs kids rest is there more = part-first OfRow InRow k attrs kids rest is there more
  element-law place k attrs kids rest is there more = tt

  -- THE INDUCTION

  pub law : (trees : Trees) (place : PlainPlace) (after_text : Bool) → IsPlain place after_text trees → Law place trees
  law Nothing place after_text h = nothing-law place
  law (Text text rest) place after_text h = text-law place text rest h.1 h.2 (law rest (place_after_text place) true h.3)
  law (Comment text rest) place after_text h = comment-law place text rest h.0 h.1 (law rest place false h.2)
  law (ProcessingInstruction target text rest) place after_text h = absurd h
  law (Doctype name public_id system_id rest) place after_text h = subst (λ p. Law p (Doctype name public_id system_id rest)) (sym h.0) tt
  law (Element name attributes template kids rest) place after_text h =
      let k = h.0 in
      let w = h.1 in
      subst (λ x. Law place (Element x attributes template kids rest)) (sym w.0)
      (subst (λ x. Law place (Element (html_name (spelled k)) attributes x kids rest)) (sym w.1)
      (element-law place k attributes kids rest w.4 (form rows reads place k w.2 sc o head attributes kids w.3 w.4
      (law kids (inside place k) false w.4)) (law rest (place_after_element place) false w.5)))
