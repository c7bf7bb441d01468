-- Items are HTML elements of known names.
use Rattle.std.proofs.Common.{◌≡◌, ◌∙◌, ℕ, ◌<◌, true, false, List, [], Option, Some, None, length, get_or, refl, sym, ap, subst}
use Rattle.std.specs.Prelude.{IfNone, IfSome, MatchOption}
use Rattle.std.specs.List.{list_any}
use Rattle.std.specs.Str.{bytes_eq}
use Rattle.markup.specs.KnownNames.{IsNameAt, names}
use Rattle.markup.specs.declared.known_names.KnownName.{KnownName}
use Rattle.html_rules.specs.Names.{Namespace, Html, MathMl, Svg, Other}
use Rattle.html_rules.specs.Sets.{is_among, names_in}
use Rattle.html_rules.specs.State.{Open, is_in}
use Rattle.html_rules.specs.declared.tag_set.TagSet.{TagSet}
use Rattle.html_names.proofs.UnknownNames.{unknown-among}
use Rattle.html_stack.specs.Wanted.{IsOfHtml}

html-of : (items : TagSet) (namespace : Namespace) (name : List ℕ) → IsOfHtml items
    → is_among name (names_in namespace items) ≡ true → namespace ≡ Html
html-of items Html name of h = refl
html-of items MathMl name of h = absurd (let no : is_among name [] ≡ true = rw of.no_mathml at h in cc)
html-of items Svg name of h = absurd (let no : is_among name [] ≡ true = rw of.no_svg at h in cc)
html-of items (Other uri) name of h = absurd cc

pub item-known : (items : TagSet) (x : Open) (found : Option (List ℕ)) (o : Option KnownName)
    → IfSome o (λ known. (x.namespace ≡ Html) × IsNameAt known.place x.name)
    → IfNone o (x.namespace ≡ Html → list_any (bytes_eq x.name) names ≡ false)
    → IsOfHtml items → is_in items x ≡ true → found ≡ Some x.name
    → MatchOption o (found ≡ None) (λ known. (known.place < length names) × (found ≡ Some (get_or names known.place [])))
item-known items x found (Some known) some none of is e = (some.1.within, e ∙ ap Some (sym some.1.there))
item-known items x found None some none of is e =
    let among : is_among x.name (names_in x.namespace items) ≡ true =
    subst (λ these. is_among x.name (names_in x.namespace these) ≡ true) (of.same x.rules) is in
    let html : x.namespace ≡ Html = html-of items x.namespace x.name of among in
    let out : is_among x.name (names_in x.namespace items) ≡ false = unknown-among x.namespace x.name items (none html) in
    absurd cc
