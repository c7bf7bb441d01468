-- What a policy keeps.
use Rattle.std.specs.Prelude.{ℕ, Bool, true, false, cond, ◌&&◌, ◌||◌, not, nat_eq, List, [], ◌∷◌, ◌++◌, None, codes, is_none}
use Rattle.std.specs.List.{filter, list_all, list_any}
use Rattle.std.specs.Str.{bytes_eq}
use Rattle.markup.specs.Attributes.{has_local_name}
use Rattle.markup.specs.Trees.{is_among, is_html}
use Rattle.markup.specs.declared.attributes.Attribute.{Attribute}
use Rattle.markup.specs.declared.names.QualName.{QualName}
use Rattle.html_round_trip.specs.Slices.Forms.{is_no_text}
use Rattle.html_srcset.specs.Srcset.{candidates}
use Rattle.html_clean.specs.Beginnings.{begins_with_one}
use Rattle.html_clean.specs.Names.{is_safe_attribute, is_safe_name, is_url_attribute, unsafe_schemes}
use Rattle.html_clean.specs.Pictures.{is_picture, is_picture_data}
use Rattle.html_clean.specs.Urls.{url_kind}
use Rattle.html_clean.specs.Values.{limits_schemes, makes_url, meets_all, meets_scheme, value_left}
use Rattle.html_clean.specs.declared.elements.Fate.{Fate}
use Rattle.html_clean.specs.declared.elements.Fate.TheVariants.{Kept, Dropped, Unwrapped}
use Rattle.html_clean.specs.declared.kinds.UrlKind.{UrlKind}
use Rattle.html_clean.specs.declared.kinds.UrlKind.TheVariants.{HasHost, HasScheme, IsRelative}
use Rattle.html_clean.specs.declared.policy.Addition.{Addition}
use Rattle.html_clean.specs.declared.policy.Policy.{Policy}
use Rattle.html_clean.specs.declared.policy.Rule.{Rule}

-- ELEMENTS

-- whether one of some rules is for an element
abbrev pub is_ruled : List Rule → List ℕ → Bool
is_ruled rules name = list_any (λ (rule : Rule). bytes_eq name rule.element) rules

-- whether the HTML element of a name is kept
abbrev pub is_kept_name : Policy → List ℕ → Bool
is_kept_name policy name = is_safe_name name && is_ruled policy.kept.items name

-- what becomes of an element, by whether it is kept and whether it is dropped
abbrev pub fate_by : Bool → Bool → Fate
fate_by true drops = Kept
fate_by false true = Dropped
fate_by false false = Unwrapped

-- what becomes of the HTML element of a name
abbrev pub html_fate : Policy → List ℕ → Fate
html_fate policy name = fate_by (is_kept_name policy name) (is_among name policy.dropped.items)

abbrev pub fate : Policy → QualName → Fate
fate policy name = fate_by (is_html name && is_kept_name policy name.local) (is_among name.local policy.dropped.items)

-- TEXTS AND ATTRIBUTES

-- neither U+0000 nor U+000D
abbrev pub is_plain_character : ℕ → Bool
is_plain_character c = not (nat_eq c 0) && not (nat_eq c 13)

abbrev pub plain_text : List ℕ → List ℕ
plain_text text = filter is_plain_character text

-- U+FEFF, which a reader of a whole text drops at its front
abbrev pub is_mark : ℕ → Bool
is_mark c = nat_eq c 0xFEFF

abbrev pub without_marks : List ℕ → List ℕ
without_marks [] = []
without_marks (c ∷ cs) = cond (is_mark c) (without_marks cs) (c ∷ cs)

abbrev pub starts_with_mark : List ℕ → Bool
starts_with_mark [] = false
starts_with_mark (c ∷ cs) = is_mark c

-- what is passed on of a text, in front of which nothing was passed on, or something
abbrev pub text_at : Bool → List ℕ → List ℕ
text_at true text = without_marks (plain_text text)
text_at false text = plain_text text

-- whether the URL of an attribute of an element may have a scheme: rules that limit its schemes are in place of the policy's schemes
abbrev pub is_allowed_scheme : Policy → List ℕ → List ℕ → List ℕ → Bool
is_allowed_scheme policy element name scheme = cond (list_any (limits_schemes element name) policy.values.items)
    (list_all (meets_scheme element name scheme) policy.values.items) (is_among scheme policy.schemes.items)

-- whether a URL of this kind is kept in an attribute of an element
abbrev pub is_kept_kind : Policy → List ℕ → List ℕ → UrlKind → Bool
is_kept_kind policy element name (HasScheme scheme) =
    is_allowed_scheme policy element name scheme && not (is_among scheme unsafe_schemes)
is_kept_kind policy element name HasHost = policy.allows_hosts
is_kept_kind policy element name IsRelative = policy.allows_relative

-- whether the URL of an attribute may be the data of a picture: rules limit its schemes, and each lists `data`
abbrev pub allows_pictures : Policy → List ℕ → List ℕ → Bool
allows_pictures policy element name = is_picture element name
    && (list_any (limits_schemes element name) policy.values.items
    && list_all (meets_scheme element name (codes "data")) policy.values.items)

-- whether a URL is kept in an attribute of an element: by what it begins with, or as the data of a picture
abbrev pub is_kept_url : Policy → List ℕ → List ℕ → List ℕ → Bool
is_kept_url policy element name url = is_kept_kind policy element name (url_kind url)
    || (allows_pictures policy element name && is_picture_data url)

-- the URLs of an attribute's value: the value itself, and of `srcset` those of its list (HTML Standard, section 4.8.4.2.1)
abbrev pub urls_of : List ℕ → List ℕ → List (List ℕ)
urls_of name value = cond (bytes_eq name (codes "srcset")) (candidates value) (value ∷ [])

-- whether each URL of an attribute's value is kept
abbrev pub are_kept_urls : Policy → List ℕ → List ℕ → List ℕ → Bool
are_kept_urls policy element name value = list_all (is_kept_url policy element name) (urls_of name value)

-- whether a rule gives an element an attribute of that name
abbrev pub gives : List ℕ → List ℕ → Rule → Bool
gives element name rule = bytes_eq element rule.element && is_among name rule.attributes.items

-- whether one of some rules gives an element an attribute of that name
abbrev pub is_in_rule : List Rule → List ℕ → List ℕ → Bool
is_in_rule rules element name = list_any (gives element name) rules

-- whether an element may have an attribute of that name
abbrev pub is_named_for : Policy → List ℕ → List ℕ → Bool
is_named_for policy element name =
    is_among name policy.everywhere.items || (is_in_rule policy.kept.items element name || begins_with_one policy.beginnings.items name)

-- a name that may be kept, without prefix and namespace
abbrev pub is_safe_attribute_name : QualName → Bool
is_safe_attribute_name name = is_safe_attribute name.local && (is_none name.prefix && is_no_text name.ns)

-- whether the value of an attribute of that name is a URL
abbrev pub has_url : Policy → List ℕ → Bool
has_url policy name = is_url_attribute name || (is_among name policy.urls.items || list_any (makes_url name) policy.values.items)

-- whether an element may have an attribute
abbrev pub is_kept_attribute : Policy → List ℕ → Attribute → Bool
is_kept_attribute policy element a =
    is_safe_attribute_name a.name
    && ((is_named_for policy element a.name.local
    && (not (has_url policy a.name.local) || are_kept_urls policy element a.name.local a.value))
    && meets_all policy.values.items element a.name.local a.value)

-- an attribute with what the rules for its value leave, without U+0000 and U+000D
abbrev pub left_attribute : Policy → List ℕ → Attribute → Attribute
left_attribute policy element a = record a { value = plain_text (value_left policy.values.items element a.name.local a.value) }

abbrev pub added_if : Bool → List Attribute → Attribute → List Attribute
added_if true kept a = kept ++ a ∷ []
added_if false kept a = kept

-- whether a policy adds an attribute to an element
abbrev pub adds : Policy → List ℕ → Addition → Bool
adds policy element addition =
    bytes_eq element addition.element && (is_safe_attribute addition.name && not (has_url policy addition.name))

abbrev pub attribute_of : Addition → Attribute
attribute_of addition = record { name = record { prefix = None; ns = []; local = addition.name }; value = plain_text addition.value }

-- attributes with one that is added, if it is and none of its name was
abbrev pub with_addition : Policy → List ℕ → List Attribute → Addition → List Attribute
with_addition policy element added addition = added_if (adds policy element addition
    && not (has_local_name addition.name added)) added (attribute_of addition)

abbrev pub with_additions : Policy → List ℕ → List Attribute → List Addition → List Attribute
with_additions policy element added [] = added
with_additions policy element added (addition ∷ rest) = with_additions policy element (with_addition policy element added addition) rest

-- the attributes that a policy adds to an element: of those of one name the first
abbrev pub added_attributes : Policy → List ℕ → List Attribute
added_attributes policy element = with_additions policy element [] policy.added.items

-- attributes with what is left of one more, if it is kept and none of its name was
abbrev pub kept_with : Policy → List ℕ → List Attribute → Attribute → List Attribute
kept_with policy element kept a = added_if (is_kept_attribute policy element (left_attribute policy element a)
    && not (has_local_name a.name.local kept)) kept (left_attribute policy element a)

-- those that are kept after others: of those of one name the first
abbrev pub kept_after : Policy → List ℕ → List Attribute → List Attribute → List Attribute
kept_after policy element kept [] = kept
kept_after policy element kept (a ∷ rest) = kept_after policy element (kept_with policy element kept a) rest

-- those that are added, and those that are kept after them
abbrev pub kept_attributes : Policy → List ℕ → List Attribute → List Attribute
kept_attributes policy element attributes = kept_after policy element (added_attributes policy element) attributes
