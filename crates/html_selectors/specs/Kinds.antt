-- Numbers for the names of elements: two elements have the same number where they have the same name, whatever their prefixes are.
use Rattle.std.specs.Prelude.{◌≡◌, ◌==◌, ◌&&◌, ℕ, zero, suc, Bool, true, cond, List, Option, Some, None}
use Rattle.std.specs.Prelude.{filter, length, nat_eq, slice_index_or, unwrap_or}
use Rattle.std.specs.Cmp.Lexicographic.{pointwise, slice_cmp}
use Rattle.std.specs.Ordering.{nat_cmp, ordering_then}
use Rattle.std.specs.declared.cmp.Ordering.{Ordering}
use Rattle.markup.specs.Forest.{Forest, data_of, element_name}
use Rattle.markup.specs.KnownNames.{IsNameAt}
use Rattle.markup.specs.Namespaces.{name_of}
use Rattle.markup.specs.declared.names.QualName.{QualName}
use Rattle.markup.specs.declared.namespaces.KnownNamespace.TheVariants.{Html}
use Rattle.html_selector_matching.specs.Around.{is_element}
use Rattle.html_selector_matching.specs.Simples.{have_same_name}

-- what is compared of a name: its local name, which tells most apart, and its namespace
abbrev pub Key : Type 0
Key = List ℕ × List ℕ

abbrev pub key_of : QualName → Key
key_of name = (name.local, name.ns)

abbrev pub key_cmp : Key → Key → Ordering
key_cmp a b = ordering_then (slice_cmp nat_cmp a.0 b.0) (slice_cmp nat_cmp a.1 b.1)

abbrev pub same_key : Key → Key → Bool
same_key a b = pointwise nat_eq a.0 b.0 && pointwise nat_eq a.1 b.1

abbrev pub name_at : Forest → ℕ → Option QualName
name_at f n = element_name (data_of f n)

-- the number that was written down for a node's name; 0 where it is no element
abbrev pub kind_at : List ℕ → ℕ → ℕ
kind_at kinds n = slice_index_or kinds n 0

-- the numbers tell names apart
abbrev pub AreKinds : Forest → List ℕ → Type 0
AreKinds f kinds = (m n : ℕ) → is_element f m ≡ true
    → (kind_at kinds m == kind_at kinds n) ≡ have_same_name (name_at f m) (name_at f n)

-- a number that was noted, if it is not 0, is the one that was written down
abbrev pub IsNoted : ℕ → Option ℕ → Type 0
IsNoted zero number = Unit {0}
IsNoted (suc k) number = number ≡ Some (suc k)

-- the numbers of HTML's known names are noted by their places
abbrev pub AreNotes : List ℕ → (Key → Option ℕ) → Type 0
AreNotes notes look = (place : ℕ) (name : List ℕ) → IsNameAt place name → IsNoted (slice_index_or notes place 0) (look (name, name_of Html))

-- what is written down of a node, where `look` told which numbers keys had before, and `look'` tells it now
abbrev pub IsNumbered : Option QualName → ℕ → ℕ → (Key → Option ℕ) → (Key → Option ℕ) → Type 0
IsNumbered None n kind look look' = (kind ≡ 0) × ((q : Key) → look' q ≡ look q)
IsNumbered (Some name) n kind look look' =
    (kind ≡ unwrap_or (look (key_of name)) (suc n)) × ((q : Key) → look' q ≡ cond (same_key (key_of name) q) (Some kind) (look q))

-- how many of a list have that number
abbrev pub count_kind : (ℕ → ℕ) → ℕ → List ℕ → ℕ
count_kind kind k ns = length (filter (λ m. k == kind m) ns)

-- how many of a number are counted so far
abbrev pub count_at : List ℕ → ℕ → ℕ
count_at counts k = slice_index_or counts k 0
