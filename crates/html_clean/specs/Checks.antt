-- Which word of a policy is never kept.
use Rattle.std.specs.Prelude.{ℕ, Bool, true, false, cond, ◌&&◌, ◌||◌, not, List, [], ◌∷◌, Option, Some, None, codes}
use Rattle.std.specs.Str.{bytes_eq}
use Rattle.html_clean.specs.Names.{is_fragment_name, is_safe_attribute, is_safe_beginning, is_safe_name, is_safe_scheme}
use Rattle.html_clean.specs.Pictures.{is_picture}
use Rattle.html_clean.specs.Policies.{has_url}
use Rattle.html_clean.specs.declared.policy.Addition.{Addition}
use Rattle.html_clean.specs.declared.policy.Allowed.{Allowed}
use Rattle.html_clean.specs.declared.policy.Allowed.TheVariants.{OneOf, Words, Number, Schemes, Prefixed, Proxied, Absolute}
use Rattle.html_clean.specs.declared.policy.Policy.{Policy}
use Rattle.html_clean.specs.declared.policy.Rule.{Rule}
use Rattle.html_clean.specs.declared.policy.ValueRule.{ValueRule}

abbrev pub or_else : Option (List ℕ) → Option (List ℕ) → Option (List ℕ)
or_else None later = later
or_else (Some name) later = Some name

abbrev pub unsafe_element : List Rule → Option (List ℕ)
unsafe_element [] = None
unsafe_element (rule ∷ rules) = cond (is_safe_name rule.element) (unsafe_element rules) (Some rule.element)

abbrev pub unsafe_attribute : List (List ℕ) → Option (List ℕ)
unsafe_attribute [] = None
unsafe_attribute (name ∷ names) = cond (is_safe_attribute name) (unsafe_attribute names) (Some name)

abbrev pub unsafe_in_rules : List Rule → Option (List ℕ)
unsafe_in_rules [] = None
unsafe_in_rules (rule ∷ rules) = or_else (unsafe_attribute rule.attributes.items) (unsafe_in_rules rules)

-- whether a scheme may be listed: among those of pictures also `data`
abbrev pub may_be_listed : Bool → List ℕ → Bool
may_be_listed pictures scheme = is_safe_scheme scheme || (pictures && bytes_eq scheme (codes "data"))

abbrev pub unsafe_scheme : Bool → List (List ℕ) → Option (List ℕ)
unsafe_scheme pictures [] = None
unsafe_scheme pictures (scheme ∷ schemes) = cond (may_be_listed pictures scheme) (unsafe_scheme pictures schemes) (Some scheme)

abbrev pub unsafe_beginning : List (List ℕ) → Option (List ℕ)
unsafe_beginning [] = None
unsafe_beginning (text ∷ texts) = cond (is_safe_beginning text) (unsafe_beginning texts) (Some text)

-- the same of the schemes that rules for values list, for pictures or for others
abbrev pub unsafe_in_limit : Bool → Allowed → Option (List ℕ)
unsafe_in_limit pictures (OneOf texts) = None
unsafe_in_limit pictures (Words words beginnings) = None
unsafe_in_limit pictures (Number least most) = None
unsafe_in_limit pictures (Schemes schemes) = unsafe_scheme pictures schemes.items
unsafe_in_limit pictures (Prefixed form prefix) = None
unsafe_in_limit pictures (Proxied prefix) = None
unsafe_in_limit pictures (Absolute base) = None

-- whether a rule is for the URLs of pictures alone
abbrev pub is_of_pictures : Option (List ℕ) → List ℕ → Bool
is_of_pictures None attribute = false
is_of_pictures (Some element) attribute = is_picture element attribute

abbrev pub unsafe_in_limits : List ValueRule → Option (List ℕ)
unsafe_in_limits [] = None
unsafe_in_limits (rule ∷ rules) =
    or_else (unsafe_in_limit (is_of_pictures rule.element rule.attribute) rule.allowed) (unsafe_in_limits rules)

-- the first name of an attribute that is never added
abbrev pub unsafe_addition : Policy → List Addition → Option (List ℕ)
unsafe_addition policy [] = None
unsafe_addition policy (addition ∷ rest) =
    cond (is_safe_attribute addition.name && not (has_url policy addition.name)) (unsafe_addition policy rest) (Some addition.name)

-- whether a rule changes a URL, and is for an attribute that has a list of them
abbrev pub changes_url : Allowed → Bool
changes_url (OneOf texts) = false
changes_url (Words words beginnings) = false
changes_url (Number least most) = false
changes_url (Schemes schemes) = false
changes_url (Prefixed form prefix) = false
changes_url (Proxied prefix) = true
changes_url (Absolute base) = true

abbrev pub changes_list : ValueRule → Bool
changes_list rule = bytes_eq rule.attribute (codes "srcset") && changes_url rule.allowed

-- the attribute of the first such rule
abbrev pub changed_list : List ValueRule → Option (List ℕ)
changed_list [] = None
changed_list (rule ∷ rules) = cond (changes_list rule) (Some rule.attribute) (changed_list rules)

-- the first word that is never kept: of elements, then of attributes of rules, of attributes of all, of beginnings of their names, of
-- attributes that are added, of schemes, then of those that rules for values list; or the attribute whose list a rule would change as one
-- URL
abbrev pub never_kept : Policy → Option (List ℕ)
never_kept policy = or_else (unsafe_element policy.kept.items)
    (or_else (unsafe_in_rules policy.kept.items) (or_else (unsafe_attribute policy.everywhere.items)
    (or_else (unsafe_beginning policy.beginnings.items)
    (or_else (unsafe_addition policy policy.added.items)
    (or_else (unsafe_scheme false policy.schemes.items)
    (or_else (unsafe_in_limits policy.values.items) (changed_list policy.values.items)))))))

-- the first rule's element that is one of the page itself
abbrev pub page_element : List Rule → Option (List ℕ)
page_element [] = None
page_element (rule ∷ rules) = cond (is_fragment_name rule.element) (page_element rules) (Some rule.element)

-- the same of a policy for fragments, which keep no element of the page itself
abbrev pub never_kept_in_fragment : Policy → Option (List ℕ)
never_kept_in_fragment policy = or_else (page_element policy.kept.items) (never_kept policy)
