-- How values are compared, as the bytes of UTF-8, with ASCII letters of two cases alike or apart (Selectors Level 4, section 6).
use Rattle.std.specs.Prelude.{ℕ, ◌==◌, ◌&&◌, ◌||◌, ◌-◌, Bool, true, cond, not, List, [], ◌∷◌, length, map}
use Rattle.std.specs.Prelude.{take, drop, nat_le, slice_index_or}
use Rattle.std.specs.Char.{is_ascii_whitespace, to_ascii_lowercase}
use Rattle.std.specs.List.{list_any, slice_split}
use Rattle.std.specs.Str.{bytes_eq}
use Rattle.selectors.specs.declared.selector.Operator.{Operator}
use Rattle.selectors.specs.declared.selector.Operator.TheVariants.{Present, Equal, Word, Hyphen, Prefix, Suffix, Substring}

-- whether two texts are the same
abbrev pub same : Bool → List ℕ → List ℕ → Bool
same alike a b = cond alike (bytes_eq (map to_ascii_lowercase a) (map to_ascii_lowercase b)) (bytes_eq a b)

abbrev pub begins : Bool → List ℕ → List ℕ → Bool
begins alike text wanted = nat_le (length wanted) (length text) && same alike (take (length wanted) text) wanted

abbrev pub ends : Bool → List ℕ → List ℕ → Bool
ends alike text wanted = nat_le (length wanted) (length text) && same alike (drop (length text - length wanted) text) wanted

abbrev pub has : Bool → List ℕ → List ℕ → Bool
has alike [] wanted = length wanted == 0
has alike (b ∷ bs) wanted = begins alike (b ∷ bs) wanted || has alike bs wanted

-- whether a word is among those that ASCII white space parts; no word is empty
abbrev pub has_word : Bool → List ℕ → List ℕ → Bool
has_word alike text word = not (length word == 0) && list_any (λ part. same alike part word) (slice_split is_ascii_whitespace text)

abbrev pub holds : Operator → Bool → List ℕ → List ℕ → Bool
holds Present alike text wanted = true
holds Equal alike text wanted = same alike text wanted
holds Word alike text wanted = has_word alike text wanted
holds Hyphen alike text wanted = same alike text wanted || (begins alike text wanted && slice_index_or text (length wanted) 0 == 45)
holds Prefix alike text wanted = not (length wanted == 0) && begins alike text wanted
holds Suffix alike text wanted = not (length wanted == 0) && ends alike text wanted
holds Substring alike text wanted = not (length wanted == 0) && has alike text wanted
