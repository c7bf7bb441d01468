-- Names that lowering leaves as they are.
use Rattle.std.proofs.Common.{◌≡◌, ◌∙◌, ℕ, Bool, true, false, List, [], ◌∷◌, ◌++◌, refl, ap, ap₂}
use Rattle.std.specs.Prelude.{◌&&◌, ◌||◌, not, nat_eq}
use Rattle.std.specs.Char.{to_ascii_lowercase}
use Rattle.std.specs.List.{list_all}
use Rattle.std.specs.Str.{bytes_eq}
use Rattle.std.proofs.lemmas.Bool.{and_parts, eqb-true}
use Rattle.std.proofs.lemmas.Slice.Eq.{bytes_eq-Decides}
use Rattle.markup.specs.Escape.{attribute_prefix, prefix_by}
use Rattle.markup.specs.Namespaces.{known_namespace, name_of}
use Rattle.markup.specs.declared.names.QualName.{QualName}
use Rattle.html_rules.specs.Tokens.{is_white}
use Rattle.html_faithful.specs.Forms.{is_attribute_name, is_error_in_name, is_odd_in_name, lowered}

-- characters that lowering leaves as they are
pub all-low : (cs : List ℕ) → list_all (λ c. nat_eq (to_ascii_lowercase c) c) cs ≡ true → lowered cs ≡ cs
all-low [] h = refl
all-low (c ∷ cs) h =
    let parts = and_parts (nat_eq (to_ascii_lowercase c) c) (list_all (λ c. nat_eq (to_ascii_lowercase c) c) cs) h in
    ap₂ (λ c cs. c ∷ cs) (eqb-true (to_ascii_lowercase c) c parts.0) (all-low cs parts.1)

-- so it does with those that are not odd
not-odd : (a b c d e f : Bool) → not (a || b || c || not d || e || f) ≡ true → d ≡ true
not-odd a b c true e f h = refl
not-odd false false false false e f h = absurd cc
not-odd true b c false e f h = absurd cc
not-odd false true c false e f h = absurd cc
not-odd false false true false e f h = absurd cc

kept-lower : (c : ℕ) → not (is_odd_in_name c) ≡ true → to_ascii_lowercase c ≡ c
kept-lower c h =
    eqb-true (to_ascii_lowercase c) c
    (not-odd (is_white (c ∷ [])) (nat_eq c 0x2F) (nat_eq c 0x3E) (nat_eq (to_ascii_lowercase c) c) (nat_eq c 0) (nat_eq c 13) h)

all-lower : (cs : List ℕ) → list_all (λ c. not (is_odd_in_name c) && not (is_error_in_name c)) cs ≡ true → lowered cs ≡ cs
all-lower [] h = refl
all-lower (c ∷ cs) h =
    let parts = and_parts (not (is_odd_in_name c) && not (is_error_in_name c))
    (list_all (λ c. not (is_odd_in_name c) && not (is_error_in_name c)) cs) h in
    ap₂ (λ c cs. c ∷ cs) (kept-lower c (and_parts (not (is_odd_in_name c)) (not (is_error_in_name c)) parts.0).0)
    (all-lower cs parts.1)

pub name-lower : (name : List ℕ) → is_attribute_name name ≡ true → lowered name ≡ name
name-lower [] h = absurd cc
name-lower (c ∷ cs) h = all-lower (c ∷ cs) h

none-before : (ns : List ℕ) (b : Bool) → ns ≡ [] → prefix_by (known_namespace ns) b ≡ []
unfolding known_namespace name_of
none-before ns b e = ap (λ ns. prefix_by (known_namespace ns) b) e

-- the name of an attribute in no namespace is emitted as it is
pub bare-emitted : (name : QualName) → bytes_eq name.ns [] ≡ true → is_attribute_name name.local ≡ true
    → lowered (attribute_prefix name ++ name.local) ≡ name.local
bare-emitted name h e =
    ap (λ front. lowered (front ++ name.local)) (none-before name.ns _ ((bytes_eq-Decides name.ns []).0 h))
    ∙ name-lower name.local e
