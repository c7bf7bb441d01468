-- The rules of the ready policies, by their names.
use Rattle.std.specs.Prelude.{ℕ, true, cond, List, [], ◌∷◌, ◌++◌, codes, Option, Some, None}
use Rattle.std.specs.Str.{bytes_eq}
use Rattle.html_clean.specs.Ready.{ready_dropped, ready_rules, ready_schemes, user_additions, user_ids, user_rules, user_values}
use Rattle.html_clean.specs.Limits.{LimitParts}
use Rattle.html_clean.specs.Limits.Limit.{Parts, Schemes, Texts}
use Rattle.html_policy_text.specs.Rules.{Rules, no_rules}
use Rattle.html_policy_text.specs.declared.ready.Ready.{Ready}
use Rattle.html_policy_text.specs.declared.ready.Ready.TheVariants.{TextAlone, TextAndLinks, UserContent, Mail}

abbrev pub ready_named : List ℕ → Option Ready
ready_named name = cond (bytes_eq name (codes "text-alone")) (Some TextAlone)
    (cond (bytes_eq name (codes "text-and-links")) (Some TextAndLinks)
    (cond (bytes_eq name (codes "user-content")) (Some UserContent)
    (cond (bytes_eq name (codes "mail")) (Some Mail) None)))

-- the elements of mails
abbrev pub mail_elements : List (List ℕ × List (List ℕ))
mail_elements =
    (codes "a", codes "href" ∷ []) ∷ (codes "abbr", []) ∷ (codes "acronym", []) ∷ (codes "address", []) ∷ (codes "b", []) ∷
    (codes "bdi", []) ∷ (codes "bdo", []) ∷ (codes "big", []) ∷ (codes "blockquote", codes "cite" ∷ []) ∷ (codes "br", []) ∷
    (codes "caption", codes "align" ∷ []) ∷ (codes "center", []) ∷ (codes "cite", []) ∷ (codes "code", codes "class" ∷ []) ∷
    (codes "col", codes "align" ∷ codes "span" ∷ codes "valign" ∷ codes "width" ∷ []) ∷
    (codes "colgroup", codes "align" ∷ codes "span" ∷ codes "valign" ∷ codes "width" ∷ []) ∷
    (codes "data", codes "value" ∷ []) ∷ (codes "dd", []) ∷ (codes "del", codes "cite" ∷ codes "datetime" ∷ []) ∷
    (codes "details", codes "open" ∷ []) ∷ (codes "dfn", []) ∷ (codes "div", codes "align" ∷ []) ∷ (codes "dl", []) ∷
    (codes "dt", []) ∷ (codes "em", []) ∷ (codes "figcaption", []) ∷ (codes "figure", []) ∷
    (codes "font", codes "color" ∷ codes "face" ∷ codes "size" ∷ []) ∷ (codes "h1", codes "align" ∷ []) ∷
    (codes "h2", codes "align" ∷ []) ∷ (codes "h3", codes "align" ∷ []) ∷ (codes "h4", codes "align" ∷ []) ∷
    (codes "h5", codes "align" ∷ []) ∷ (codes "h6", codes "align" ∷ []) ∷
    (codes "hr", codes "align" ∷ codes "size" ∷ codes "width" ∷ []) ∷ (codes "i", []) ∷ (
      codes "img",
      codes "align" ∷ codes "alt" ∷ codes "border" ∷ codes "height" ∷ codes "hspace" ∷ codes "src" ∷ codes "vspace" ∷
          codes "width" ∷ [],
    ) ∷
    (codes "ins", codes "cite" ∷ codes "datetime" ∷ []) ∷ (codes "kbd", []) ∷
    (codes "li", codes "type" ∷ codes "value" ∷ []) ∷ (codes "mark", []) ∷
    (codes "ol", codes "reversed" ∷ codes "start" ∷ codes "type" ∷ []) ∷ (codes "p", codes "align" ∷ []) ∷
    (codes "pre", []) ∷ (codes "q", codes "cite" ∷ []) ∷ (codes "rp", []) ∷ (codes "rt", []) ∷ (codes "ruby", []) ∷
    (codes "s", []) ∷ (codes "samp", []) ∷ (codes "section", []) ∷ (codes "small", []) ∷ (codes "span", []) ∷
    (codes "strike", []) ∷ (codes "strong", []) ∷ (codes "sub", []) ∷ (codes "summary", []) ∷ (codes "sup", []) ∷ (
      codes "table",
      codes "align" ∷ codes "bgcolor" ∷ codes "border" ∷ codes "cellpadding" ∷ codes "cellspacing" ∷ codes "height" ∷
          codes "summary" ∷ codes "width" ∷ [],
    ) ∷
    (codes "tbody", codes "align" ∷ codes "valign" ∷ []) ∷ (
      codes "td",
      codes "align" ∷ codes "bgcolor" ∷ codes "colspan" ∷ codes "height" ∷ codes "nowrap" ∷ codes "rowspan" ∷
          codes "valign" ∷ codes "width" ∷ [],
    ) ∷
    (codes "tfoot", codes "align" ∷ codes "valign" ∷ []) ∷ (
      codes "th",
      codes "align" ∷ codes "bgcolor" ∷ codes "colspan" ∷ codes "height" ∷ codes "nowrap" ∷ codes "rowspan" ∷
          codes "scope" ∷ codes "valign" ∷ codes "width" ∷ [],
    ) ∷
    (codes "thead", codes "align" ∷ codes "valign" ∷ []) ∷ (codes "time", codes "datetime" ∷ []) ∷
    (codes "tr", codes "align" ∷ codes "bgcolor" ∷ codes "height" ∷ codes "valign" ∷ []) ∷ (codes "tt", []) ∷
    (codes "u", []) ∷ (codes "ul", codes "type" ∷ []) ∷ (codes "var", []) ∷ (codes "wbr", []) ∷ []

-- mails keep the pictures that come with them
abbrev pub mail_values : List LimitParts
mail_values =
    (Some (codes "code"), (codes "class", Parts [] (codes "language-" ∷ []))) ∷
    (None, (codes "dir", Texts (codes "auto" ∷ codes "ltr" ∷ codes "rtl" ∷ []))) ∷
    (Some (codes "img"), (codes "src", Schemes (codes "cid" ∷ codes "data" ∷ codes "http" ∷ codes "https" ∷ []))) ∷ []

abbrev pub mail_additions : List (List ℕ × (List ℕ × List ℕ))
mail_additions =
    (codes "a", (codes "rel", codes "nofollow noopener noreferrer")) ∷ (codes "a", (codes "target", codes "_blank")) ∷ []

abbrev pub rules_of_ready : Ready → Rules
rules_of_ready TextAlone = record no_rules { dropped = ready_dropped }
rules_of_ready TextAndLinks = record no_rules {
  kept = ready_rules;
  dropped = ready_dropped;
  everywhere = codes "lang" ∷ codes "title" ∷ [];
  schemes = ready_schemes;
  relative = true;
  hosts = true;
}
rules_of_ready UserContent = record no_rules {
  kept = ready_rules ++ user_rules;
  dropped = ready_dropped;
  everywhere = codes "lang" ∷ codes "title" ∷ codes "dir" ∷ codes "id" ∷ [];
  limits = user_values ++ user_ids;
  added = user_additions;
  schemes = ready_schemes;
  relative = true;
  hosts = true;
}
rules_of_ready Mail = record no_rules {
  kept = mail_elements;
  dropped = ready_dropped;
  everywhere = codes "dir" ∷ codes "lang" ∷ codes "title" ∷ [];
  limits = mail_values;
  added = mail_additions;
  schemes = codes "http" ∷ codes "https" ∷ codes "mailto" ∷ codes "tel" ∷ [];
}
