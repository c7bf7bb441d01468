-- Cleaning changes nothing in what is kept.
use Rattle.std.proofs.Common.{◌≡◌, ◌∙◌, ℕ, Bool, true, false, ◌&&◌, ◌||◌, List, [], ◌∷◌, ◌++◌, refl, sym, ap, append_assoc, append-nil}
use Rattle.std.specs.Prelude.{cond, not}
use Rattle.std.specs.List.{list_all}
use Rattle.std.specs.Str.{bytes_eq}
use Rattle.std.proofs.lemmas.Bool.{and_parts}
use Rattle.std.proofs.lemmas.Slice.Eq.{bytes_eq-Decides}
use Rattle.markup.specs.Attributes.{are_distinct, has_local_name}
use Rattle.markup.specs.Trees.{Trees, Nothing, Text, Comment, ProcessingInstruction, Doctype, Element, is_among, is_html}
use Rattle.markup.specs.declared.attributes.Attribute.{Attribute}
use Rattle.markup.specs.declared.names.QualName.{QualName}
use Rattle.html_round_trip.specs.Slices.Forms.{is_no_text}
use Rattle.html_round_trip.proofs.Slices.Names.{has-none}
use Rattle.html_clean.specs.Cleaned.{are_kept, cleaned, cleaned_before, unmarked, unmarked_by, element_before}
use Rattle.html_clean.specs.Cleaned.{are_lawful_attributes, is_lawful_attribute, is_lawful_text, kids_of, text_before}
use Rattle.html_clean.specs.Names.{is_void}
use Rattle.html_clean.specs.Policies.{added_attributes, added_if, fate_by, is_kept_attribute, is_kept_name, is_mark}
use Rattle.html_clean.specs.Policies.{is_plain_character, is_safe_attribute_name, kept_attributes, kept_after, left_attribute, plain_text}
use Rattle.html_clean.specs.Policies.{without_marks}
use Rattle.html_clean.specs.Bases.{absolute}
use Rattle.html_clean.specs.Proxies.{proxied}
use Rattle.html_clean.specs.Values.{allowed_words, allows, is_rule_for, left_of, meets, meets_all, prefixed, value_left}
use Rattle.html_clean.specs.declared.policy.Allowed.{Allowed}
use Rattle.html_clean.specs.declared.policy.Allowed.TheVariants.{OneOf, Words, Number, Schemes, Prefixed, Proxied, Absolute}
use Rattle.html_clean.specs.declared.policy.ValueRule.{ValueRule}
use Rattle.html_clean.specs.declared.elements.Fate.{Fate}
use Rattle.html_clean.specs.declared.elements.Fate.TheVariants.{Kept}
use Rattle.html_clean.specs.declared.policy.Policy.{Policy}
use Rattle.html_clean.proofs.Kept.{all-kept}
use Rattle.html_clean.proofs.Lawful.{and-both, lawful-parts}
use Rattle.html_clean.proofs.KeptTexts.{plain-same}
use Rattle.html_clean.proofs.Pieces.{IsKeptElement, nothing-in, parts}

-- what is left of trees, but for U+FEFF in front
abbrev left : Policy → Trees → Trees
left policy trees = cleaned_before policy trees Nothing

before-same : (text : List ℕ) (after : Trees) → not (is_no_text text) ≡ true → text_before text after ≡ Text text after
before-same [] after h = absurd cc
before-same (c ∷ cs) after h = refl

-- a rule leaves a value that meets it as it is
one-same : (b : Bool) (allowed : Allowed) (value : List ℕ) → (not b || allows allowed value) ≡ true
    → cond b (left_of allowed value) value ≡ value
one-same false allowed value h = refl
one-same true (OneOf texts) value h = refl
one-same true (Words words beginnings) value h =
    let p = and_parts (not (is_no_text value)) (bytes_eq (allowed_words words.items beginnings.items value) value) h in
    (bytes_eq-Decides (allowed_words words.items beginnings.items value) value).0 p.1
one-same true (Number least most) value h = refl
one-same true (Schemes schemes) value h = refl
one-same true (Prefixed form prefix) value h =
    let p = and_parts (not (is_no_text value)) (bytes_eq (prefixed form prefix value) value) h in
    (bytes_eq-Decides (prefixed form prefix value) value).0 p.1
one-same true (Proxied prefix) value h = (bytes_eq-Decides (proxied prefix value) value).0 h
one-same true (Absolute base) value h = (bytes_eq-Decides (absolute base value) value).0 h

value-same : (rules : List ValueRule) (element name value : List ℕ) → meets_all rules element name value ≡ true
    → value_left rules element name value ≡ value
value-same [] element name value h = refl
value-same (rule ∷ rules) element name value h =
    let p = and_parts (meets element name value rule) (meets_all rules element name value) h in
    ap (value_left rules element name) (one-same (is_rule_for element name rule) rule.allowed value p.0)
    ∙ value-same rules element name value p.1

module _ (policy : Policy) (element : List ℕ) where
  attribute-same : (a : Attribute) → is_lawful_attribute policy element a ≡ true → left_attribute policy element a ≡ a
  attribute-same a h =
      let p = and_parts (is_kept_attribute policy element a) (list_all is_plain_character a.value) h in
      let q = and_parts (is_safe_attribute_name a.name) _ p.0 in
      let met = (and_parts _ (meets_all policy.values.items element a.name.local a.value) q.1).1 in
      ap (λ (value : List ℕ). record a { value = value })
      (ap plain_text (value-same policy.values.items element a.name.local a.value met) ∙ plain-same a.value p.1)

  with-by : (b : Bool) (kept : List Attribute) (a x : Attribute) → b ≡ true → x ≡ a → added_if b kept x ≡ kept ++ a ∷ []
  with-by true kept a x h e = ap (λ (x : Attribute). kept ++ x ∷ []) e
  with-by false kept a x h e = absurd cc

  behind-same : (attributes kept : List Attribute) → list_all (is_lawful_attribute policy element) attributes ≡ true
      → are_distinct (kept ++ attributes) ≡ true → kept_after policy element kept attributes ≡ kept ++ attributes
  behind-same [] kept h d = sym (append-nil kept)
  behind-same (a ∷ rest) kept h d =
      let p = and_parts (is_lawful_attribute policy element a) (list_all (is_lawful_attribute policy element) rest) h in
      let q = and_parts (is_kept_attribute policy element a) (list_all is_plain_character a.value) p.0 in
      let same = attribute-same a p.0 in
      let test : (is_kept_attribute policy element (left_attribute policy element a) && not (has_local_name a.name.local kept)) ≡ true =
      and-both _ _ (ap (is_kept_attribute policy element) same ∙ q.0) (ap not (has-none kept a rest d)) in
      let all : (kept ++ a ∷ []) ++ rest ≡ kept ++ a ∷ rest = append_assoc kept (a ∷ []) rest in
      ap (λ kept. kept_after policy element kept rest) (with-by _ kept a (left_attribute policy element a) test same)
      ∙ (behind-same rest (kept ++ a ∷ []) p.1 (ap are_distinct all ∙ d) ∙ all)

  no-more : (k h : Bool) (kept : List Attribute) (a : Attribute) → h ≡ true → added_if (k && not h) kept a ≡ kept
  no-more k false kept a e = absurd cc
  no-more true true kept a e = refl
  no-more false true kept a e = refl

  -- attributes whose names are there already are not kept again
  passed-over : (xs rest kept : List Attribute) → list_all (λ x. has_local_name x.name.local kept) xs ≡ true
      → kept_after policy element kept (xs ++ rest) ≡ kept_after policy element kept rest
  passed-over [] rest kept h = refl
  passed-over (x ∷ xs) rest kept h =
      let p = and_parts (has_local_name x.name.local kept) (list_all (λ x. has_local_name x.name.local kept) xs) h in
      ap (λ kept. kept_after policy element kept (xs ++ rest))
      (no-more (is_kept_attribute policy element (left_attribute policy element x)) (has_local_name x.name.local kept) kept _ p.0)
      ∙ passed-over xs rest kept p.1

or-right : (a b : Bool) → b ≡ true → (a || b) ≡ true
or-right true b h = refl
or-right false b h = h

or-left : (a b : Bool) → a ≡ true → (a || b) ≡ true
or-left true b h = refl
or-left false b h = absurd cc

named-more : (y : Attribute) (ys xs : List Attribute) → list_all (λ x. has_local_name x.name.local ys) xs ≡ true
    → list_all (λ x. has_local_name x.name.local (y ∷ ys)) xs ≡ true
named-more y ys [] h = refl
named-more y ys (x ∷ xs) h =
    let p = and_parts (has_local_name x.name.local ys) (list_all (λ x. has_local_name x.name.local ys) xs) h in
    and-both _ _ (or-right (bytes_eq x.name.local y.name.local) _ p.0) (named-more y ys xs p.1)

-- each of some attributes has the name of one of them
all-named : (xs : List Attribute) → list_all (λ x. has_local_name x.name.local xs) xs ≡ true
all-named [] = refl
all-named (x ∷ xs) = and-both _ _ (or-left (bytes_eq x.name.local x.name.local) _ ((bytes_eq-Decides x.name.local x.name.local).1 refl))
    (named-more x xs xs (all-named xs))

attributes-same : (policy : Policy) (element : List ℕ) (attributes : List Attribute)
    → are_lawful_attributes policy element attributes ≡ true → kept_attributes policy element attributes ≡ attributes
attributes-same policy element attributes h =
    let parts = lawful-parts policy element attributes h in
    let added = added_attributes policy element in
    ap (kept_after policy element added) parts.is
    ∙ (passed-over policy element added parts.rest added (all-named added)
    ∙ (behind-same policy element parts.rest added parts.each (ap are_distinct (sym parts.is) ∙ parts.distinct) ∙ sym parts.is))

fate-kept : (b d : Bool) → b ≡ true → fate_by b d ≡ Kept
fate-kept true d h = refl
fate-kept false d h = absurd cc

kids-same : (v : Bool) (kids : Trees) → (v ≡ true → kids ≡ Nothing) → kids_of v kids ≡ kids
kids-same true kids h = sym (h refl)
kids-same false kids h = refl

element-same : (policy : Policy) (name : QualName) (attributes : List Attribute) (template : Bool)
    (kids rest : Trees) → IsKeptElement policy name attributes template kids rest
    → left policy kids ≡ kids → left policy rest ≡ rest → left policy (Element name attributes template kids rest) ≡
    Element name attributes template kids rest
element-same policy name attributes template kids rest p inside behind =
    let kept = fate-kept (is_html name && is_kept_name policy name.local) (is_among name.local policy.dropped.items)
    (and-both _ _ p.html p.named) in
    let kids_same : kids_of (is_void name.local) (left policy kids) ≡ kids = ap (kids_of (is_void name.local))
    inside ∙ kids-same (is_void name.local) kids (λ e. nothing-in (is_void name.local) kids e p.void) in
    ap (λ (f : Fate). element_before f name (kept_attributes policy name.local attributes)
    (cleaned_before policy kids) (left policy rest)) kept
    ∙ (ap (λ (list : List Attribute). Element name list false (kids_of (is_void name.local) (left policy kids))
    (left policy rest)) (attributes-same policy name.local attributes p.lawful)
    ∙ (ap (λ (kids : Trees). Element name attributes false kids (left policy rest)) kids_same
    ∙ (ap (λ (rest : Trees). Element name attributes false kids rest) behind
    ∙ ap (λ (t : Bool). Element name attributes t kids rest) (sym p.own))))

pub kept-same : (policy : Policy) (trees : Trees) → are_kept policy trees ≡ true → left policy trees ≡ trees
kept-same policy Nothing h = refl
kept-same policy (Text text rest) h =
    let p = and_parts (is_lawful_text text) (are_kept policy rest) h in
    let q = and_parts (not (is_no_text text)) (list_all is_plain_character text) p.0 in
    ap (λ text. text_before text (left policy rest)) (plain-same text q.1)
    ∙ (before-same text (left policy rest) q.0 ∙ ap (Text text) (kept-same policy rest p.1))
kept-same policy (Comment text rest) h = absurd cc
kept-same policy (ProcessingInstruction target text rest) h = absurd cc
kept-same policy (Doctype name public_id system_id rest) h = absurd cc
kept-same policy (Element name attributes template kids rest) h =
    let p = parts policy name attributes template kids rest h in
    element-same policy name attributes template kids rest p (kept-same policy kids p.kids_kept) (kept-same policy rest p.rest_kept)

-- IN FRONT

marks-by : (c : ℕ) (cs : List ℕ) (b : Bool) → is_mark c ≡ b → without_marks (without_marks cs) ≡ without_marks cs
    → without_marks (cond b (without_marks cs) (c ∷ cs)) ≡ cond b (without_marks cs) (c ∷ cs)
marks-by c cs true h k = k
marks-by c cs false h k = rw h refl

marks-again : (cs : List ℕ) → without_marks (without_marks cs) ≡ without_marks cs
marks-again [] = refl
marks-again (c ∷ cs) = marks-by c cs (is_mark c) refl (marks-again cs)

again-by : (m : List ℕ) (rest : Trees) → without_marks m ≡ m → unmarked (unmarked rest) ≡ unmarked rest
    → unmarked (unmarked_by m (unmarked rest) rest) ≡ unmarked_by m (unmarked rest) rest
again-by [] rest h k = k
again-by (c ∷ cs) rest h k = ap (λ m. unmarked_by m (unmarked rest) rest) h

unmarked-again : (trees : Trees) → unmarked (unmarked trees) ≡ unmarked trees
unmarked-again Nothing = refl
unmarked-again (Text text rest) = again-by (without_marks text) rest (marks-again text) (unmarked-again rest)
unmarked-again (Comment text rest) = refl
unmarked-again (ProcessingInstruction target text rest) = refl
unmarked-again (Doctype name public_id system_id rest) = refl
unmarked-again (Element name attributes template kids rest) = refl

pub stays : (policy : Policy) (trees : Trees) → are_kept policy trees ≡ true → cleaned policy trees ≡ unmarked trees
stays policy trees h = ap unmarked (kept-same policy trees h)

pub cleaned-again : (policy : Policy) (trees : Trees) → cleaned policy (cleaned policy trees) ≡ cleaned policy trees
cleaned-again policy trees = stays policy (cleaned policy trees) (all-kept policy trees) ∙ unmarked-again (left policy trees)
