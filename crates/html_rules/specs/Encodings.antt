-- The encoding that a `meta` element names (HTML Standard, section 2.6.6, "extracting a character encoding from a meta element", and
-- section 13.2.6.4.4).
use Rattle.std.specs.Prelude.{ℕ, Bool, false, ◌||◌, not, nat_eq, nat_lt, length, take, drop, List, [], ◌∷◌, Option, Some, None, codes}
use Rattle.markup.specs.declared.attributes.Attribute.{Attribute}
use Rattle.html_tokens.specs.Characters.{run, begins_any_case}
use Rattle.html_tokens.specs.TagEquality.{value_of}
use Rattle.html_rules.specs.Choice.{choose}
use Rattle.html_rules.specs.Names.{equals_any_case}

-- tab, line feed, form feed, carriage return and space
abbrev pub is_space : ℕ → Bool
is_space c = nat_eq c 9 || nat_eq c 10 || nat_eq c 12 || nat_eq c 13 || nat_eq c 32

-- a text after the white space at its front
abbrev pub after_space : List ℕ → List ℕ
after_space t = drop (run (λ c. not (is_space c)) t) t

-- what stands before a quote; nothing where there is none
abbrev pub up_to_quote : ℕ → List ℕ → Option (List ℕ)
up_to_quote quote t =
    let n = run (nat_eq quote) t in
    choose (nat_lt n (length t)) (λ _. Some (take n t)) (λ _. None)

-- after "=" and white space: a value in quotes, or up to white space or ";"
abbrev pub encoding_at : List ℕ → Option (List ℕ)
encoding_at [] = None
encoding_at (c ∷ t) =
    choose (nat_eq c 34 || nat_eq c 39) (λ _. up_to_quote c t)
    (λ _. Some (take (run (λ d. is_space d || nat_eq d 59) (c ∷ t)) (c ∷ t)))

-- what stands after "=", if that is next
abbrev pub after_equals : List ℕ → Option (List ℕ)
after_equals [] = None
after_equals (c ∷ t) = choose (nat_eq c 61) (λ _. Some (after_space t)) (λ _. None)

-- what stands after "charset" and "=", if a text begins so
abbrev pub after_charset : List ℕ → Option (List ℕ)
after_charset t = choose (begins_any_case (codes "charset") t) (λ _. after_equals (after_space (drop 7 t))) (λ _. None)

abbrev pub encoding_by : Option (List ℕ) → (Unit {0} → Option (List ℕ)) → Option (List ℕ)
encoding_by (Some value) go = encoding_at value
encoding_by None go = go tt

-- the encoding that a text names: by the first "charset" in any case that "=" follows
unfoldable pub encoding_of : List ℕ → Option (List ℕ)
encoding_of [] = None
encoding_of (c ∷ t) = encoding_by (after_charset (c ∷ t)) (λ _. encoding_of t)

abbrev pub encoding_of_content : Option (List ℕ) → Option (List ℕ)
encoding_of_content None = None
encoding_of_content (Some content) = encoding_of content

-- whether there is a value, and it is `content-type` in any case
abbrev pub is_content_type : Option (List ℕ) → Bool
is_content_type None = false
is_content_type (Some value) = equals_any_case value (codes "content-type")

abbrev pub hint_by : Option (List ℕ) → List Attribute → Option (List ℕ)
hint_by (Some charset) attributes = Some charset
hint_by None attributes = choose (is_content_type (value_of (codes "http-equiv") attributes))
    (λ _. encoding_of_content (value_of (codes "content") attributes)) (λ _. None)

-- the encoding that a tag names, by `charset` or by `http-equiv` and `content`
unfoldable pub encoding_hint : List Attribute → Option (List ℕ)
encoding_hint attributes = hint_by (value_of (codes "charset") attributes) attributes
