-- The part that an element is, and sets of names.
use Rattle.std.proofs.Common.{◌≡◌, ◌∙◌, ℕ, Bool, true, false, List, [], ◌∷◌, refl, sym, ap, true≢false}
use Rattle.std.specs.Prelude.{◌&&◌, not}
use Rattle.std.proofs.lemmas.Bool.{and_parts}
use Rattle.html_rules.specs.Choice.{choose}
use Rattle.html_rules.specs.Names.{Namespace, Html, MathMl, Svg, Other, is_html}
use Rattle.html_rules.specs.Sets.{is_among, mathml_names_of, names_of, set_by, svg_names_of}
use Rattle.html_rules.specs.State.{Open, is_in}
use Rattle.html_rules.specs.declared.rules.Rules.{Rules}
use Rattle.html_rules.specs.declared.tag_set.TagSet.{TagSet}
use Rattle.html_rules_laws.specs.Nesting.{Part, Root, HeadPart, BodyPart, Frames, Contents, TablePart, Section, RowPart, Cell}
use Rattle.html_rules_laws.specs.Nesting.{CaptionPart, Columns, Loose, Nothing, is_loose, part_among, part_of, parts, set_of}
use Rattle.html_rules_laws.proofs.Names.{disjoint, shares_name}
use Rattle.html_rules_laws.proofs.SetFacts.{apart, in-apart, in-within, within}
use Rattle.html_rules_laws.proofs.Bools.{both, no, not_true}

-- the sets of parts are the same by all rules
pub set_of-by : (rules : Rules) (p : Part) → set_by rules (set_of p) ≡ set_of p
set_of-by rules Root = refl
set_of-by rules HeadPart = refl
set_of-by rules BodyPart = refl
set_of-by rules Frames = refl
set_of-by rules Contents = refl
set_of-by rules TablePart = refl
set_of-by rules Section = refl
set_of-by rules RowPart = refl
set_of-by rules Cell = refl
set_of-by rules CaptionPart = refl
set_of-by rules Columns = refl
set_of-by rules Loose = refl
set_of-by rules Nothing = refl

-- an element that is a part is in the set of the part
among-set : (ps : List Part) (x : Open) (p : Part) → part_among ps x ≡ p → is_loose p ≡ false → is_in (set_of p) x ≡ true
among-set [] x p e l = absurd (true≢false (ap is_loose e ∙ l))
among-set (q ∷ ps) x p e l = by (is_in (set_of q) x) refl e (among-set ps x p) where
  by : (b : Bool) → is_in (set_of q) x ≡ b → choose b (λ _. q) (λ _. part_among ps x) ≡ p
      → (part_among ps x ≡ p → is_loose p ≡ false → is_in (set_of p) x ≡ true) → is_in (set_of p) x ≡ true
  by true is e rest = rw (← e) is
  by false is e rest = rest e l

pub part-set : (x : Open) (p : Part) → part_of x ≡ p → is_loose p ≡ false → is_in (set_of p) x ≡ true
unfolding part_of
part-set x p e l = among-set parts x p e l

-- and the other way
abbrev pub same_part : Part → Part → Bool
same_part Root Root = true
same_part HeadPart HeadPart = true
same_part BodyPart BodyPart = true
same_part Frames Frames = true
same_part Contents Contents = true
same_part TablePart TablePart = true
same_part Section Section = true
same_part RowPart RowPart = true
same_part Cell Cell = true
same_part CaptionPart CaptionPart = true
same_part Columns Columns = true
same_part p q = false

pub same-is : (p q : Part) → same_part p q ≡ true → q ≡ p
same-is Root Root h = refl
same-is HeadPart HeadPart h = refl
same-is BodyPart BodyPart h = refl
same-is Frames Frames h = refl
same-is Contents Contents h = refl
same-is TablePart TablePart h = refl
same-is Section Section h = refl
same-is RowPart RowPart h = refl
same-is Cell Cell h = refl
same-is CaptionPart CaptionPart h = refl
same-is Columns Columns h = refl
same-is p q h = no h

abbrev is_first_of : TagSet → Part → List Part → Bool
is_first_of names p [] = false
is_first_of names p (q ∷ ps) = choose (same_part p q) (λ _. within names (set_of p)) (λ _. apart names (set_of q) && is_first_of names p ps)

among-part : (names : TagSet) (p : Part) (ps : List Part) → is_first_of names p ps ≡ true → (x : Open)
    → is_in names x ≡ true → part_among ps x ≡ p
among-part names p [] h x is = no h
among-part names p (q ∷ ps) h x is = by (same_part p q) refl h (λ h. among-part names p ps h x is) where
  by : (b : Bool) → same_part p q ≡ b → choose b (λ _. within names (set_of p))
      (λ _. apart names (set_of q) && is_first_of names p ps) ≡ true
      → (is_first_of names p ps ≡ true → part_among ps x ≡ p) → choose (is_in (set_of q) x) (λ _. q) (λ _. part_among ps x) ≡ p
  by true e h rest = let same = same-is p q e in rw (same, in-within names (set_of p) h x is) refl
  by false e h rest = let parts = and_parts (apart names (set_of q)) _ h in rw (in-apart names (set_of q) parts.0 x is) (rest parts.1)

-- all that a set has are such parts
abbrev pub has_part : Part → TagSet → Bool
has_part p names = is_first_of names p parts

pub set-part : (names : TagSet) (p : Part) → has_part p names ≡ true → (x : Open) → is_in names x ≡ true → part_of x ≡ p
unfolding part_of
set-part names p h x is = among-part names p parts h x is

-- a set of loose elements
abbrev pub apart_all : TagSet → List Part → Bool
apart_all names [] = true
apart_all names (p ∷ ps) = apart names (set_of p) && apart_all names ps

abbrev pub are_loose : TagSet → Bool
are_loose names = apart_all names parts

among-loose : (names : TagSet) (ps : List Part) → apart_all names ps ≡ true → (x : Open) → is_in names x ≡ true → part_among ps x ≡ Loose
among-loose names [] h x is = refl
among-loose names (p ∷ ps) h x is = let parts = and_parts (apart names (set_of p)) _ h in
    rw (in-apart names (set_of p) parts.0 x is) (among-loose names ps parts.1 x is)

pub set-loose : (names : TagSet) → are_loose names ≡ true → (x : Open) → is_in names x ≡ true → part_of x ≡ Loose
unfolding part_of
set-loose names h x is = among-loose names parts h x is

-- a name that no part has
abbrev pub is_loose_name : List ℕ → List Part → Bool
is_loose_name name [] = true
is_loose_name name (p ∷ ps) = not (is_among name (names_of (set_of p))) && is_loose_name name ps

among-named : (name : List ℕ) (ps : List Part) → is_loose_name name ps ≡ true → (n : ℕ) (rules : Rules)
    → part_among ps (record { number = n; namespace = Html; name = name; rules = rules }) ≡ Loose
among-named name [] h n rules = refl
among-named name (p ∷ ps) h n rules = let parts = and_parts (not (is_among name (names_of (set_of p)))) _ h in
    rw (set_of-by rules p, not_true _ parts.0) (among-named name ps parts.1 n rules)

pub name-loose : (name : List ℕ) → is_loose_name name parts ≡ true → (n : ℕ) (rules : Rules)
    → part_of (record { number = n; namespace = Html; name = name; rules = rules }) ≡ Loose
unfolding part_of
name-loose name h n rules = among-named name parts h n rules

-- names that no part has
abbrev pub share_none : List (List ℕ) → List Part → Bool
share_none names [] = true
share_none names (p ∷ ps) = not (shares_name names (names_of (set_of p))) && share_none names ps

pub among-loose_name : (names : List (List ℕ)) (ps : List Part) → share_none names ps ≡ true → (name : List ℕ)
    → is_among name names ≡ true → is_loose_name name ps ≡ true
among-loose_name names [] h name is = refl
among-loose_name names (p ∷ ps) h name is =
    let parts = and_parts (not (shares_name names (names_of (set_of p)))) _ h in
    both _ _ (ap not (disjoint name names (names_of (set_of p)) (not_true _ parts.0) is)) (among-loose_name names ps parts.1 name is)

-- an element of another namespace is no part
pub foreign-loose : (x : Open) → is_html x.namespace ≡ false → part_of x ≡ Loose
unfolding part_of mathml_names_of svg_names_of
foreign-loose x h = by x.number x.rules x.namespace x.name h where
  by : (n : ℕ) (rules : Rules) (namespace : Namespace) (name : List ℕ) → is_html namespace ≡ false
      → part_among parts (record { number = n; namespace = namespace; name = name; rules = rules }) ≡ Loose
  by n rules Html name h = absurd (true≢false h)
  by n rules MathMl name h = refl
  by n rules Svg name h = refl
  by n rules (Other uri) name h = refl

pub solid-html : (x : Open) → is_loose (part_of x) ≡ false → is_html x.namespace ≡ true
solid-html x h = by (is_html x.namespace) refl where
  by : (b : Bool) → is_html x.namespace ≡ b → is_html x.namespace ≡ true
  by true e = e
  by false e = absurd (true≢false (sym (ap is_loose (foreign-loose x e)) ∙ h))

-- what holds of all that is in a set of a part
pub part-within : (x : Open) (p : Part) (names : TagSet) → is_loose p ≡ false → within (set_of p) names ≡ true
    → part_of x ≡ p → is_in names x ≡ true
part-within x p names l w e = in-within (set_of p) names w x (part-set x p e l)

pub part-apart : (x : Open) (p : Part) (names : TagSet) → is_loose p ≡ false → apart (set_of p) names ≡ true
    → part_of x ≡ p → is_in names x ≡ false
part-apart x p names l w e = in-apart (set_of p) names w x (part-set x p e l)
