-- Which values the attributes that a policy keeps may have.
use Rattle.std.specs.Prelude.{ℕ, ◌+◌, ◌-◌, ◌*◌, ◌^◌, min, Bool, true, false, cond, ◌&&◌, ◌||◌, not, nat_eq, nat_le}
use Rattle.std.specs.Prelude.{List, [], ◌∷◌, ◌++◌, map, Option, Some, None}
use Rattle.std.specs.Char.{is_ascii_digit, is_ascii_whitespace, to_ascii_lowercase}
use Rattle.std.specs.List.{filter, fold, list_all}
use Rattle.std.specs.Str.{bytes_eq}
use Rattle.markup.specs.Trees.{is_among}
use Rattle.html_round_trip.specs.Slices.Forms.{is_no_text}
use Rattle.html_clean.specs.Bases.{absolute}
use Rattle.html_clean.specs.Beginnings.{begins_with, begins_with_one}
use Rattle.html_clean.specs.Proxies.{proxied}
use Rattle.html_clean.specs.Urls.{url_text}
use Rattle.html_clean.specs.declared.policy.Allowed.{Allowed}
use Rattle.html_clean.specs.declared.policy.Allowed.TheVariants.{OneOf, Words, Number, Schemes, Prefixed, Proxied, Absolute}
use Rattle.html_clean.specs.declared.policy.IdForm.{IdForm}
use Rattle.html_clean.specs.declared.policy.IdForm.TheVariants.{Name, Names, Link}
use Rattle.html_clean.specs.declared.policy.ValueRule.{ValueRule}

-- WORDS

-- a word, if it is not empty
abbrev pub word_if : List ℕ → List (List ℕ)
word_if [] = []
word_if (c ∷ cs) = (c ∷ cs) ∷ []

-- the words of a text, where a word has begun before it
abbrev pub words_from : List ℕ → List ℕ → List (List ℕ)
words_from word [] = word_if word
words_from word (c ∷ cs) = cond (is_ascii_whitespace c) (word_if word ++ words_from [] cs) (words_from (word ++ c ∷ []) cs)

-- the words of a text (Infra Standard, section 4.6, "split a string on ASCII whitespace")
abbrev pub words_of : List ℕ → List (List ℕ)
words_of text = words_from [] text

-- a text with a word more, and a space between the two
abbrev pub with_word : List ℕ → List ℕ → List ℕ
with_word [] word = word
with_word (c ∷ cs) word = (c ∷ cs) ++ 32 ∷ word

-- a text with words more
abbrev pub joined_after : List ℕ → List (List ℕ) → List ℕ
joined_after text [] = text
joined_after text (word ∷ words) = joined_after (with_word text word) words

-- whether a word is one of these, or begins with one of those
abbrev pub is_allowed_word : List (List ℕ) → List (List ℕ) → List ℕ → Bool
is_allowed_word words beginnings word = is_among word words || begins_with_one beginnings word

-- the words of a text that are allowed, with a space between each two
abbrev pub allowed_words : List (List ℕ) → List (List ℕ) → List ℕ → List ℕ
allowed_words words beginnings text = joined_after [] (filter (is_allowed_word words beginnings) (words_of text))

-- NUMBERS

-- the greatest number of 32 bits
abbrev pub greatest : ℕ
greatest = 2 ^ 32 - 1

-- a number and a digit after it, as far as 32 bits go
abbrev pub with_digit : ℕ → ℕ → ℕ
with_digit n c = min (min (n * 10) greatest + (c - 48)) greatest

-- whether a text is a number in digits, from the least to the most
abbrev pub is_number_within : ℕ → ℕ → List ℕ → Bool
is_number_within least most text = (not (is_no_text text) && list_all is_ascii_digit text)
    && (nat_le least (fold with_digit 0 text) && nat_le (fold with_digit 0 text) most)

-- NAMES WITH A PREFIX

-- a name that begins with a prefix, or is empty, as it is; another one after the prefix
abbrev pub with_prefix : List ℕ → List ℕ → List ℕ
with_prefix prefix [] = []
with_prefix prefix (c ∷ cs) = cond (begins_with prefix (c ∷ cs)) (c ∷ cs) (prefix ++ c ∷ cs)

-- what follows a sign in front of a text
abbrev pub after_sign : ℕ → List ℕ → Option (List ℕ)
after_sign sign [] = None
after_sign sign (c ∷ cs) = cond (nat_eq c sign) (Some cs) None

-- a URL, or "#" and a name with a prefix
abbrev pub link_by : List ℕ → List ℕ → Option (List ℕ) → List ℕ
link_by prefix url None = url
link_by prefix url (Some name) = 35 ∷ with_prefix prefix name

-- names of elements with a prefix: a value that is a name; one of names between white space; and a URL of "#" and a name alone, as the
-- URL parser takes it (URL Standard, section 4.4, "fragment state")
abbrev pub prefixed : IdForm → List ℕ → List ℕ → List ℕ
prefixed Name prefix value = with_prefix prefix value
prefixed Names prefix value = joined_after [] (map (with_prefix prefix) (words_of value))
prefixed Link prefix value = link_by prefix value (after_sign 35 (url_text value))

-- RULES

-- whether a value is allowed; the schemes of URLs are judged where URLs are
abbrev pub allows : Allowed → List ℕ → Bool
allows (OneOf texts) value = is_among (map to_ascii_lowercase value) texts.items
allows (Words words beginnings) value = not (is_no_text value) && bytes_eq (allowed_words words.items beginnings.items value) value
allows (Number least most) value = is_number_within least most value
allows (Schemes schemes) value = true
allows (Prefixed form prefix) value = not (is_no_text value) && bytes_eq (prefixed form prefix value) value
allows (Proxied prefix) value = bytes_eq (proxied prefix value) value
allows (Absolute base) value = bytes_eq (absolute base value) value

-- what is left of a value
abbrev pub left_of : Allowed → List ℕ → List ℕ
left_of (OneOf texts) value = value
left_of (Words words beginnings) value = allowed_words words.items beginnings.items value
left_of (Number least most) value = value
left_of (Schemes schemes) value = value
left_of (Prefixed form prefix) value = prefixed form prefix value
left_of (Proxied prefix) value = proxied prefix value
left_of (Absolute base) value = absolute base value

-- whether a rule for one element, or for all, is for an element
abbrev pub is_for_element : Option (List ℕ) → List ℕ → Bool
is_for_element None element = true
is_for_element (Some name) element = bytes_eq element name

-- whether a rule is for an attribute of an element
abbrev pub is_rule_for : List ℕ → List ℕ → ValueRule → Bool
is_rule_for element name rule = bytes_eq name rule.attribute && is_for_element rule.element element

-- whether a value meets a rule that is for its attribute
abbrev pub meets : List ℕ → List ℕ → List ℕ → ValueRule → Bool
meets element name value rule = not (is_rule_for element name rule) || allows rule.allowed value

-- whether a value meets each rule that is for its attribute
abbrev pub meets_all : List ValueRule → List ℕ → List ℕ → List ℕ → Bool
meets_all rules element name value = list_all (meets element name value) rules

-- what rules that are for an attribute leave of its value, one after the other
abbrev pub value_left : List ValueRule → List ℕ → List ℕ → List ℕ → List ℕ
value_left [] element name value = value
value_left (rule ∷ rules) element name value =
    value_left rules element name (cond (is_rule_for element name rule) (left_of rule.allowed value) value)

-- SCHEMES OF URLS

-- whether it is schemes that are limited
abbrev pub is_of_schemes : Allowed → Bool
is_of_schemes (OneOf texts) = false
is_of_schemes (Words words beginnings) = false
is_of_schemes (Number least most) = false
is_of_schemes (Schemes schemes) = true
is_of_schemes (Prefixed form prefix) = false
is_of_schemes (Proxied prefix) = false
is_of_schemes (Absolute base) = false

-- whether a rule makes the value that it is for a URL
abbrev pub is_of_urls : Allowed → Bool
is_of_urls (OneOf texts) = false
is_of_urls (Words words beginnings) = false
is_of_urls (Number least most) = false
is_of_urls (Schemes schemes) = true
is_of_urls (Prefixed form prefix) = false
is_of_urls (Proxied prefix) = true
is_of_urls (Absolute base) = true

-- whether a scheme is allowed
abbrev pub allows_scheme : Allowed → List ℕ → Bool
allows_scheme (OneOf texts) scheme = true
allows_scheme (Words words beginnings) scheme = true
allows_scheme (Number least most) scheme = true
allows_scheme (Schemes schemes) scheme = is_among scheme schemes.items
allows_scheme (Prefixed form prefix) scheme = true
allows_scheme (Proxied prefix) scheme = true
allows_scheme (Absolute base) scheme = true

-- whether a rule makes an attribute a URL, on whatever element
abbrev pub makes_url : List ℕ → ValueRule → Bool
makes_url name rule = bytes_eq name rule.attribute && is_of_urls rule.allowed

-- whether a rule limits the schemes of an attribute of an element
abbrev pub limits_schemes : List ℕ → List ℕ → ValueRule → Bool
limits_schemes element name rule = is_rule_for element name rule && is_of_schemes rule.allowed

-- whether a scheme meets a rule that is for its attribute
abbrev pub meets_scheme : List ℕ → List ℕ → List ℕ → ValueRule → Bool
meets_scheme element name scheme rule = not (is_rule_for element name rule) || allows_scheme rule.allowed scheme
