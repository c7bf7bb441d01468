-- What open elements are asked together.
use Rattle.std.specs.Prelude.{ℕ, Bool, true, false, ◌||◌, ◌&&◌, not, List, [], ◌∷◌, ◌++◌, Some, None, codes, length}
use Rattle.std.specs.Str.{bytes_eq}
use Rattle.html_rules.specs.Choice.{choose}
use Rattle.html_rules.specs.State.{Open, is_in}
use Rattle.html_rules.specs.declared.tag_set.TagSet.{TagSet}
use Rattle.html_rules.specs.declared.tag_set.TagSet.TheVariants as set
use Rattle.html_faithful.specs.Spots.{is_marked}
use Rattle.html_faithful_judge.specs.declared.context.Context.{Context}
use Rattle.html_faithful_judge.specs.declared.open.Kept.{Kept}

-- elements of the stack are numbered as they were opened
abbrev pub number_of : ℕ → ℕ
number_of n = n

-- whether an element is listed as an `a`
abbrev pub is_listed_a : Open → Bool
is_listed_a x = is_in set.FormattingEnd x && bytes_eq x.name (codes "a")

-- whether no item before an element would be closed
abbrev pub bars_items : Open → Bool
bars_items x = is_in set.SpecialTag x && not (is_in set.AddressDivP x)

-- whether an item of a set would be closed, with one more element open
abbrev pub closes_with : TagSet → Open → Bool → Bool
closes_with items x below = choose (is_in items x) (λ _. true) (λ _. choose (bars_items x) (λ _. false) (λ _. below))

-- what open elements are asked together, with one more element open
abbrev pub with_element : Open → Context → Context
with_element x c = record {
  form = choose (is_in set.Form x && not c.in_template) (λ _. Some x.number) (λ _. c.form);
  in_template = is_in set.Template x || c.in_template;
  lists_a = choose (is_marked x) (λ _. false)
      (λ _. choose (is_listed_a x) (λ _. true) (λ _. c.lists_a));
  link_open = choose (is_marked x) (λ _. false) (λ _. choose (is_in set.A x) (λ _. true) (λ _. c.link_open));
  ends_with_body = is_in set.BodyEnd x && c.ends_with_body;
  closes_li = closes_with set.Li x c.closes_li;
  closes_dd = closes_with set.DdDt x c.closes_dd;
}

-- what open elements are asked together
abbrev pub context_of : List Open → Context
context_of [] = record {
  form = None;
  in_template = false;
  lists_a = false;
  link_open = false;
  ends_with_body = true;
  closes_li = false;
  closes_dd = false;
}
context_of (x ∷ xs) = with_element x (context_of xs)

-- whether an element changes which form or link is open
abbrev pub is_form_or_link : Open → Bool
is_form_or_link x = is_in set.Form x || is_marked x || is_in set.A x

-- whether an element changes which items would be closed
abbrev pub is_item_or_bar : Open → Bool
is_item_or_bar x = is_in set.Li x || is_in set.DdDt x || bars_items x

-- whether an element changes nothing of it, once one is open that may not be open where the body ends
abbrev pub is_usual : Open → Bool
is_usual x = not (is_form_or_link x) && not (is_item_or_bar x)

-- what is kept of it, the root first: what those up to an element are asked that changes it
abbrev pub kept_of : List Open → List Kept
kept_of [] = []
kept_of (x ∷ xs) = choose (not (context_of xs).ends_with_body && is_usual x) (λ _. kept_of xs)
    (λ _. kept_of xs ++ record { below = length xs; context = context_of (x ∷ xs) } ∷ [])
