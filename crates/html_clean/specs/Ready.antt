-- The policies that are ready.
use Rattle.std.specs.Prelude.{◌≡◌, ℕ, false, true, List, [], ◌∷◌, ◌++◌, codes, map, Option, Some, None}
use Rattle.html_clean.specs.Limits.{LimitParts, limit_parts}
use Rattle.html_clean.specs.Limits.Limit.{Parts, Prefixed, Texts}
use Rattle.html_clean.specs.declared.policy.Addition.{Addition}
use Rattle.html_clean.specs.declared.policy.Allowed.{Allowed}
use Rattle.html_clean.specs.declared.policy.IdForm.TheVariants.{Name, Names, Link}
use Rattle.html_clean.specs.declared.policy.ValueRule.{ValueRule}
use Rattle.html_clean.specs.declared.policy.Policy.{Policy}
use Rattle.html_clean.specs.declared.policy.Rule.{Rule}

-- the name of a rule's element, and those of its attributes
abbrev pub rule_names : Rule → List ℕ × List (List ℕ)
rule_names rule = (rule.element, rule.attributes.items)

-- the element, the name and the value of an attribute that is added
abbrev pub addition_parts : Addition → List ℕ × (List ℕ × List ℕ)
addition_parts addition = (addition.element, (addition.name, addition.value))

-- the element and the attribute that a rule for values is for, and what it allows
abbrev pub value_rule_parts : ValueRule → Option (List ℕ) × (List ℕ × Allowed)
value_rule_parts rule = (rule.element, (rule.attribute, rule.allowed))

-- what ammonia keeps by default
abbrev pub ready_rules : List (List ℕ × List (List ℕ))
ready_rules =
    (codes "abbr", []) ∷ (codes "acronym", []) ∷ (codes "area", []) ∷ (codes "article", []) ∷ (codes "aside", []) ∷ (codes "b", []) ∷
    (codes "bdi", []) ∷ (codes "br", []) ∷ (codes "caption", []) ∷ (codes "center", []) ∷ (codes "cite", []) ∷ (codes "code", []) ∷
    (codes "data", []) ∷ (codes "dd", []) ∷ (codes "details", []) ∷ (codes "dfn", []) ∷ (codes "div", []) ∷ (codes "dl", []) ∷
    (codes "dt", []) ∷ (codes "em", []) ∷ (codes "figcaption", []) ∷ (codes "figure", []) ∷ (codes "footer", []) ∷ (codes "h1", []) ∷
    (codes "h2", []) ∷ (codes "h3", []) ∷ (codes "h4", []) ∷ (codes "h5", []) ∷ (codes "h6", []) ∷ (codes "header", []) ∷
    (codes "hgroup", []) ∷ (codes "i", []) ∷ (codes "kbd", []) ∷ (codes "li", []) ∷ (codes "map", []) ∷ (codes "mark", []) ∷
    (codes "nav", []) ∷ (codes "p", []) ∷ (codes "pre", []) ∷ (codes "rp", []) ∷ (codes "rt", []) ∷ (codes "rtc", []) ∷
    (codes "ruby", []) ∷ (codes "s", []) ∷ (codes "samp", []) ∷ (codes "small", []) ∷ (codes "span", []) ∷ (codes "strike", []) ∷
    (codes "strong", []) ∷ (codes "sub", []) ∷ (codes "summary", []) ∷ (codes "sup", []) ∷ (codes "time", []) ∷ (codes "tt", []) ∷
    (codes "u", []) ∷ (codes "ul", []) ∷ (codes "var", []) ∷ (codes "wbr", []) ∷ (codes "a", codes "href" ∷ codes "hreflang" ∷ []) ∷
    (codes "bdo", codes "dir" ∷ []) ∷ (codes "blockquote", codes "cite" ∷ []) ∷
    (codes "col", codes "align" ∷ codes "char" ∷ codes "charoff" ∷ codes "span" ∷ []) ∷
    (codes "colgroup", codes "align" ∷ codes "char" ∷ codes "charoff" ∷ codes "span" ∷ []) ∷
    (codes "del", codes "cite" ∷ codes "datetime" ∷ []) ∷ (codes "hr", codes "align" ∷ codes "size" ∷ codes "width" ∷ []) ∷
    (codes "img", codes "align" ∷ codes "alt" ∷ codes "height" ∷ codes "src" ∷ codes "width" ∷ []) ∷
    (codes "ins", codes "cite" ∷ codes "datetime" ∷ []) ∷ (codes "ol", codes "start" ∷ []) ∷ (codes "q", codes "cite" ∷ []) ∷
    (codes "table", codes "align" ∷ codes "char" ∷ codes "charoff" ∷ codes "summary" ∷ []) ∷
    (codes "tbody", codes "align" ∷ codes "char" ∷ codes "charoff" ∷ []) ∷
    (codes "td", codes "align" ∷ codes "char" ∷ codes "charoff" ∷ codes "colspan" ∷ codes "headers" ∷ codes "rowspan" ∷ []) ∷
    (codes "tfoot", codes "align" ∷ codes "char" ∷ codes "charoff" ∷ []) ∷ (
      codes "th",
      codes "align" ∷ codes "char" ∷ codes "charoff" ∷ codes "colspan" ∷ codes "headers" ∷
          codes "rowspan" ∷ codes "scope" ∷ [],
    ) ∷
    (codes "thead", codes "align" ∷ codes "char" ∷ codes "charoff" ∷ []) ∷
    (codes "tr", codes "align" ∷ codes "char" ∷ codes "charoff" ∷ []) ∷ []

abbrev pub ready_dropped : List (List ℕ)
ready_dropped =
    codes "head" ∷ codes "iframe" ∷ codes "noembed" ∷ codes "noframes" ∷ codes "noscript" ∷ codes "script" ∷ codes "style" ∷
    codes "template" ∷ codes "title" ∷ []

abbrev pub ready_schemes : List (List ℕ)
ready_schemes =
    codes "bitcoin" ∷ codes "ftp" ∷ codes "ftps" ∷ codes "geo" ∷ codes "http" ∷ codes "https" ∷ codes "im" ∷ codes "irc" ∷
    codes "ircs" ∷ codes "magnet" ∷ codes "mailto" ∷ codes "mms" ∷ codes "mx" ∷ codes "news" ∷ codes "nntp" ∷ codes "openpgp4fpr" ∷
    codes "sip" ∷ codes "sms" ∷ codes "smsto" ∷ codes "ssh" ∷ codes "tel" ∷ codes "url" ∷ codes "webcal" ∷ codes "wtai" ∷
    codes "xmpp" ∷ []

pub record IsTextAndLinks (policy : Policy) : Type 0 where
  pub kept : map rule_names policy.kept.items ≡ ready_rules
  pub dropped : policy.dropped.items ≡ ready_dropped
  pub everywhere : policy.everywhere.items ≡ codes "lang" ∷ codes "title" ∷ []
  pub beginnings : policy.beginnings.items ≡ []
  pub values : policy.values.items ≡ []
  pub added : policy.added.items ≡ []
  pub urls : policy.urls.items ≡ []
  pub schemes : policy.schemes.items ≡ ready_schemes
  pub relative : policy.allows_relative ≡ true
  pub hosts : policy.allows_hosts ≡ true

pub record IsTextAlone (policy : Policy) : Type 0 where
  pub kept : policy.kept.items ≡ []
  pub dropped : policy.dropped.items ≡ ready_dropped
  pub everywhere : policy.everywhere.items ≡ []
  pub beginnings : policy.beginnings.items ≡ []
  pub values : policy.values.items ≡ []
  pub added : policy.added.items ≡ []
  pub urls : policy.urls.items ≡ []
  pub schemes : policy.schemes.items ≡ []
  pub relative : policy.allows_relative ≡ false
  pub hosts : policy.allows_hosts ≡ false

-- the elements of user content beside those of texts and links
abbrev pub user_rules : List (List ℕ × List (List ℕ))
user_rules =
    (codes "a", codes "name" ∷ []) ∷ (codes "code", codes "class" ∷ []) ∷ (codes "data", codes "value" ∷ []) ∷
    (codes "details", codes "open" ∷ []) ∷ (codes "div", codes "align" ∷ []) ∷ (codes "h1", codes "align" ∷ []) ∷
    (codes "h2", codes "align" ∷ []) ∷ (codes "h3", codes "align" ∷ []) ∷ (codes "h4", codes "align" ∷ []) ∷
    (codes "h5", codes "align" ∷ []) ∷ (codes "h6", codes "align" ∷ []) ∷ (codes "input", codes "checked" ∷ []) ∷
    (codes "li", codes "value" ∷ []) ∷ (codes "ol", codes "reversed" ∷ codes "type" ∷ []) ∷ (codes "p", codes "align" ∷ []) ∷
    (codes "picture", []) ∷ (codes "section", []) ∷
    (codes "source", codes "media" ∷ codes "sizes" ∷ codes "srcset" ∷ codes "type" ∷ []) ∷ (codes "time", codes "datetime" ∷ []) ∷ []

-- the values of attributes of user content
abbrev pub user_values : List LimitParts
user_values =
    (Some (codes "code"), (codes "class", Parts [] (codes "language-" ∷ []))) ∷
    (None, (codes "dir", Texts (codes "auto" ∷ codes "ltr" ∷ codes "rtl" ∷ []))) ∷
    (Some (codes "ol"), (codes "type", Texts (codes "1" ∷ codes "a" ∷ codes "i" ∷ []))) ∷ []

-- the names of its elements, and what refers to them
abbrev pub user_ids : List LimitParts
user_ids =
    (None, (codes "id", Prefixed Name (codes "user-content-"))) ∷
    (Some (codes "a"), (codes "name", Prefixed Name (codes "user-content-"))) ∷
    (None, (codes "href", Prefixed Link (codes "user-content-"))) ∷
    (None, (codes "headers", Prefixed Names (codes "user-content-"))) ∷ []

abbrev pub user_additions : List (List ℕ × (List ℕ × List ℕ))
user_additions =
    (codes "a", (codes "rel", codes "nofollow noopener ugc")) ∷ (codes "input", (codes "type", codes "checkbox")) ∷
    (codes "input", (codes "disabled", [])) ∷ []

pub record IsUserContent (policy : Policy) : Type 0 where
  pub kept : map rule_names policy.kept.items ≡ ready_rules ++ user_rules
  pub dropped : policy.dropped.items ≡ ready_dropped
  pub everywhere : policy.everywhere.items ≡ codes "lang" ∷ codes "title" ∷ codes "dir" ∷ codes "id" ∷ []
  pub beginnings : policy.beginnings.items ≡ []
  pub values : map limit_parts policy.values.items ≡ user_values ++ user_ids
  pub added : map addition_parts policy.added.items ≡ user_additions
  pub urls : policy.urls.items ≡ []
  pub schemes : policy.schemes.items ≡ ready_schemes
  pub relative : policy.allows_relative ≡ true
  pub hosts : policy.allows_hosts ≡ true
