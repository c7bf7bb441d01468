-- Sets of names: one has all that another has, or two have none in common. Both are computed from their lists.
use Rattle.std.proofs.Common.{◌≡◌, ℕ, Bool, true, false, List, [], ◌∷◌, refl, sym, true≢false, ◌∙◌, subst}
use Rattle.std.specs.Prelude.{◌||◌, ◌&&◌, not}
use Rattle.std.specs.Str.{bytes_eq}
use Rattle.std.proofs.lemmas.Bool.{and_parts}
use Rattle.std.proofs.lemmas.Slice.Eq.{bytes_eq-Decides}
use Rattle.html_rules.specs.Names.{Namespace, Html, MathMl, Svg, Other}
use Rattle.html_rules.specs.Sets.{is_among, mathml_names_of, names_in, names_of, set_by, svg_names_of}
use Rattle.html_rules.specs.State.{Open, is_in}
use Rattle.html_rules.specs.declared.rules.Rules.{Rules}
use Rattle.html_rules.specs.declared.rules.Rules.TheVariants.{Html5ever, Standard}
use Rattle.html_rules.specs.declared.tag_set.TagSet.{TagSet}
use Rattle.html_rules_laws.proofs.Names.{disjoint, shares_name}
use Rattle.html_rules_laws.proofs.Bools.{not_true}

-- whether all these names are among those
abbrev pub all_among : List (List ℕ) → List (List ℕ) → Bool
all_among [] names = true
all_among (x ∷ xs) names = is_among x names && all_among xs names

pub among-all : (name : List ℕ) (xs names : List (List ℕ)) → all_among xs names ≡ true → is_among name xs ≡ true
    → is_among name names ≡ true
among-all name [] names h k = absurd (true≢false (sym k))
among-all name (x ∷ xs) names h k =
    let parts = and_parts (is_among x names) (all_among xs names) h in
    by (bytes_eq name x) refl k parts.0 (λ k. among-all name xs names parts.1 k)
  where
    by : (b : Bool) → bytes_eq name x ≡ b → (b || is_among name xs) ≡ true → is_among x names ≡ true
        → (is_among name xs ≡ true → is_among name names ≡ true) → is_among name names ≡ true
    by true e k first rest = subst (λ y. is_among y names ≡ true) (sym ((bytes_eq-Decides name x).0 e)) first
    by false e k first rest = rest k

-- whether the names of a set are all in another
abbrev pub within_names : TagSet → TagSet → Bool
within_names a b = all_among (names_of a) (names_of b)
    && (all_among (mathml_names_of a) (mathml_names_of b) && all_among (svg_names_of a) (svg_names_of b))

-- whether an element in a set is in another, whatever the rules
abbrev pub within : TagSet → TagSet → Bool
within a b = within_names (set_by Html5ever a) (set_by Html5ever b) && within_names (set_by Standard a) (set_by Standard b)

-- whether two sets have no name in common
abbrev pub apart_names : TagSet → TagSet → Bool
apart_names a b = not (shares_name (names_of a) (names_of b))
    && (not (shares_name (mathml_names_of a) (mathml_names_of b)) && not (shares_name (svg_names_of a) (svg_names_of b)))

-- whether no element is in both sets, whatever the rules
abbrev pub apart : TagSet → TagSet → Bool
apart a b = apart_names (set_by Html5ever a) (set_by Html5ever b) && apart_names (set_by Standard a) (set_by Standard b)

in_by : (a b : TagSet) → within_names a b ≡ true → (namespace : Namespace) (name : List ℕ)
    → is_among name (names_in namespace a) ≡ true → is_among name (names_in namespace b) ≡ true
in_by a b w namespace name = by namespace where
  html : (all_among (names_of a) (names_of b) ≡ true)
      × ((all_among (mathml_names_of a) (mathml_names_of b) && all_among (svg_names_of a) (svg_names_of b)) ≡ true)
  html = and_parts (all_among (names_of a) (names_of b)) _ w

  others : (all_among (mathml_names_of a) (mathml_names_of b) ≡ true) × (all_among (svg_names_of a) (svg_names_of b) ≡ true)
  others = and_parts (all_among (mathml_names_of a) (mathml_names_of b)) _ html.1

  by : (namespace : Namespace) → is_among name (names_in namespace a) ≡ true → is_among name (names_in namespace b) ≡ true
  by Html h = among-all name (names_of a) (names_of b) html.0 h
  by MathMl h = among-all name (mathml_names_of a) (mathml_names_of b) others.0 h
  by Svg h = among-all name (svg_names_of a) (svg_names_of b) others.1 h
  by (Other uri) h = h

pub in-within : (a b : TagSet) → within a b ≡ true → (x : Open) → is_in a x ≡ true → is_in b x ≡ true
in-within a b w x h = by x.rules h where
  parts : (within_names (set_by Html5ever a) (set_by Html5ever b) ≡ true) × (within_names (set_by Standard a) (set_by Standard b) ≡ true)
  parts = and_parts (within_names (set_by Html5ever a) (set_by Html5ever b)) _ w

  by : (rules : Rules) → is_among x.name (names_in x.namespace (set_by rules a)) ≡ true
      → is_among x.name (names_in x.namespace (set_by rules b)) ≡ true
  by Html5ever h = in_by (set_by Html5ever a) (set_by Html5ever b) parts.0 x.namespace x.name h
  by Standard h = in_by (set_by Standard a) (set_by Standard b) parts.1 x.namespace x.name h

pub out-within : (a b : TagSet) → within a b ≡ true → (x : Open) → is_in b x ≡ false → is_in a x ≡ false
out-within a b w x h = by (is_in a x) refl where
  by : (c : Bool) → is_in a x ≡ c → is_in a x ≡ false
  by true e = absurd (true≢false (sym (in-within a b w x e) ∙ h))
  by false e = e

out_by : (a b : TagSet) → apart_names a b ≡ true → (namespace : Namespace) (name : List ℕ)
    → is_among name (names_in namespace a) ≡ true → is_among name (names_in namespace b) ≡ false
out_by a b w namespace name = by namespace where
  html : (not (shares_name (names_of a) (names_of b)) ≡ true)
      × ((not (shares_name (mathml_names_of a) (mathml_names_of b)) && not (shares_name (svg_names_of a) (svg_names_of b))) ≡ true)
  html = and_parts (not (shares_name (names_of a) (names_of b))) _ w

  others : (not (shares_name (mathml_names_of a) (mathml_names_of b)) ≡ true) × (not (shares_name (svg_names_of a) (svg_names_of b)) ≡ true)
  others = and_parts (not (shares_name (mathml_names_of a) (mathml_names_of b))) _ html.1

  by : (namespace : Namespace) → is_among name (names_in namespace a) ≡ true → is_among name (names_in namespace b) ≡ false
  by Html h = disjoint name (names_of a) (names_of b) (not_true _ html.0) h
  by MathMl h = disjoint name (mathml_names_of a) (mathml_names_of b) (not_true _ others.0) h
  by Svg h = disjoint name (svg_names_of a) (svg_names_of b) (not_true _ others.1) h
  by (Other uri) h = absurd (true≢false (sym h))

pub in-apart : (a b : TagSet) → apart a b ≡ true → (x : Open) → is_in a x ≡ true → is_in b x ≡ false
in-apart a b w x h = by x.rules h where
  parts : (apart_names (set_by Html5ever a) (set_by Html5ever b) ≡ true) × (apart_names (set_by Standard a) (set_by Standard b) ≡ true)
  parts = and_parts (apart_names (set_by Html5ever a) (set_by Html5ever b)) _ w

  by : (rules : Rules) → is_among x.name (names_in x.namespace (set_by rules a)) ≡ true
      → is_among x.name (names_in x.namespace (set_by rules b)) ≡ false
  by Html5ever h = out_by (set_by Html5ever a) (set_by Html5ever b) parts.0 x.namespace x.name h
  by Standard h = out_by (set_by Standard a) (set_by Standard b) parts.1 x.namespace x.name h
