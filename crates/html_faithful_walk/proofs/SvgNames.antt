-- Attributes whose names stand for no others in foreign content.
use Rattle.std.proofs.Common.{◌≡◌, ◌∙◌, Bool, true, false, List, [], ◌∷◌, map, refl}
use Rattle.std.specs.Prelude.{◌||◌}
use Rattle.std.specs.Str.{bytes_eq}
use Rattle.markup.specs.declared.names.QualName.{QualName}
use Rattle.html_rules.specs.Renames.{ForeignName, foreign_named}
use Rattle.html_rules.specs.Sets.{is_among}

pub foreign-other : (xs : List ForeignName) (name : QualName) → is_among name.local (map (λ x. x.written) xs) ≡ false
    → foreign_named xs name ≡ name
foreign-other [] name h = refl
foreign-other (x ∷ xs) name h = by (bytes_eq name.local x.written) (is_among name.local (map (λ x. x.written) xs)) refl refl h
    (foreign-other xs name)
  where
    by : (b c : Bool) → bytes_eq name.local x.written ≡ b → is_among name.local (map (λ x. x.written) xs) ≡ c → (b || c) ≡ false
        → (is_among name.local (map (λ x. x.written) xs) ≡ false → foreign_named xs name ≡ name) → foreign_named (x ∷ xs) name ≡ name
    by true c e f h rest = absurd cc
    by false c e f h rest = rw e (rest (f ∙ h))
