-- What is noted of many open elements. Places are counted from the root.
use Rattle.std.specs.Prelude.{◌≡◌, ◌++◌, ◌<◌, ◌≤◌, ℕ, suc, Bool, true, false, ◌||◌, ◌&&◌, not, cond, List, length, map}
use Rattle.std.specs.Prelude.{slice_index_or, unwrap_or}
use Rattle.std.specs.List.{list_any}
use Rattle.std.specs.BTreeMap as tree
use Rattle.std.specs.Char.{to_ascii_lowercase}
use Rattle.std.specs.Cmp.Lexicographic.{slice_cmp}
use Rattle.std.specs.Ordering.{nat_cmp}
use Rattle.std.specs.Str.{bytes_eq}
use Rattle.html_rules.specs.Names.{is_html}
use Rattle.html_rules.specs.Sets.{is_among, names_in, set_by}
use Rattle.html_rules.specs.State.{Open}
use Rattle.html_rules.specs.declared.tag_set.TagSet.{TagSet}
use Rattle.html_rules.specs.declared.tag_set.TagSet.TheVariants as set
use Rattle.html_names.specs.ElementNames.{Named}
use Rattle.html_names.specs.SetBits.{has_set}
use Rattle.html_stack.specs.declared.depths.Depths.{Depths}
use Rattle.html_stack.specs.declared.depths.Note.{Note}
use Rattle.html_stack.specs.declared.entries.OpenElement.{OpenElement}
use Rattle.html_stack.specs.declared.signs.Sign.{Sign}
use Rattle.html_stack.specs.declared.signs.Sign.TheVariants.{In, Html, BarsBodyEnd, BarsItems, AsksMode}
use Rattle.html_stack.specs.declared.signs.Signs.{Signs}
use Rattle.html_stack.specs.declared.tops.Tops.{Tops}

abbrev pub is_of : TagSet → Named → Bool
is_of set x = is_among x.name (names_in x.namespace (set_by x.rules set))

-- whether an element may ask for an insertion mode
abbrev pub asks_mode : Named → Bool
asks_mode x = is_of set.TdTh x || is_of set.Head x || is_of set.Html x || is_of set.Tr x
    || is_of set.TbodyTfootThead x || is_of set.Caption x || is_of set.Colgroup x || is_of set.Table x
    || is_of set.Template x || is_of set.Body x || is_of set.Frameset x

-- whether an element passes a test
abbrev pub bears : Sign → Named → Bool
bears (In set) x = is_of set x
bears Html x = is_html x.namespace
bears BarsBodyEnd x = not (is_of set.BodyEnd x)
bears BarsItems x = is_of set.SpecialTag x && not (is_of set.AddressDivP x)
bears AsksMode x = asks_mode x

-- whether a test is among some
abbrev pub has : Signs → Sign → Bool
has signs (In set) = has_set signs.sets set
has signs Html = signs.is_html
has signs BarsBodyEnd = signs.bars_body_end
has signs BarsItems = signs.bars_items
has signs AsksMode = signs.asks_mode

-- the name that an element is found by
abbrev pub key_of : Named → List ℕ
key_of x = cond (is_html x.namespace) x.name (map to_ascii_lowercase x.name)

-- what a map says of a name
abbrev pub top_in : tree.BTreeMap (List ℕ) ℕ → List ℕ → ℕ
top_in tops name = unwrap_or (tree.get (slice_cmp nat_cmp) tops name) 0

-- what is said of a name of HTML, or of others
abbrev pub said : Tops → Bool → List ℕ → ℕ
said tops true name = top_in tops.html name
said tops false name = top_in tops.foreign name

-- a map says so much of a name from now on, and of others what it did
abbrev pub SaysIn : List ℕ → ℕ → tree.BTreeMap (List ℕ) ℕ → tree.BTreeMap (List ℕ) ℕ → Type 0
SaysIn name top old new = (other : List ℕ) → top_in new other ≡ cond (bytes_eq name other) top (top_in old other)

abbrev pub is_same_space : Bool → Bool → Bool
is_same_space true html = html
is_same_space false html = not html

-- so much is said of a name of HTML, or of another, from now on, and the same as before of all others
abbrev pub Says : Bool → List ℕ → ℕ → Tops → Tops → Type 0
Says html name top old new = (of_html : Bool) (other : List ℕ) → said new of_html other ≡ cond
    (is_same_space html of_html && bytes_eq name other) top (said old of_html other)

-- the same is said of all
abbrev pub SaysSame : Tops → Tops → Type 0
SaysSame old new = (of_html : Bool) (other : List ℕ) → said new of_html other ≡ said old of_html other

-- tests that one of the noted elements from one place up to another passes are among these
abbrev pub Covers : List Note → ℕ → ℕ → Signs → Type 0
Covers notes from to signs = (k : ℕ) (n : Note) (sign : Sign) → from ≤ k → k < to
    → has (slice_index_or notes k n).own sign ≡ true → has signs sign ≡ true

-- a note is of the elements from a place up to and with its own
pub record IsRange (notes : List Note) (i : ℕ) (note : Note) : Type 0 where
  pub from : note.from ≤ i
  pub all : Covers notes note.from (suc i) note.all

abbrev pub AreRanges : List Note → Type 0
AreRanges notes = (i : ℕ) (n : Note) → i < length notes → IsRange notes i (slice_index_or notes i n)

-- a note says of an element which tests it passes, and by which name it is found
pub record IsNoteOf (x : Named) (note : Note) : Type 0 where
  pub own : (sign : Sign) → has note.own sign ≡ bears sign x
  pub name : note.name ≡ key_of x

-- two elements are found by the same name
pub record IsSameKey (one other : Note) : Type 0 where
  pub space : one.own.is_html ≡ other.own.is_html
  pub name : one.name ≡ other.name

-- no noted element of a name stands at the place that is said of it, or above; and none that is below another at what was said before
pub record AreTops (notes : List Note) (tops : Tops) : Type 0 where
  pub top : (j : ℕ) (n : Note) → j < length notes → j < said tops (slice_index_or notes j n).own.is_html (slice_index_or notes j n).name
  pub below : (i j : ℕ) (n : Note) → j < i → i < length notes → IsSameKey (slice_index_or notes i n)
      (slice_index_or notes j n) → j < (slice_index_or notes i n).below

-- no note from a place on is of an element that passes a test
abbrev pub NoneNoted : Sign → List Note → ℕ → Type 0
NoneNoted sign notes from = (k : ℕ) (n : Note) → from ≤ k → k < length notes → has (slice_index_or notes k n).own sign ≡ false

-- the notes are of the elements that were opened first
pub record IsNoted (xs : List Named) (depths : Depths) : Type 0 where
  pub within : length depths.notes.items ≤ length xs
  pub notes : (i : ℕ) (x : Named) (n : Note) → i < length depths.notes.items → IsNoteOf (slice_index_or xs i x)
      (slice_index_or depths.notes.items i n)
  pub ranges : AreRanges depths.notes.items
  pub tops : AreTops depths.notes.items depths.tops

-- an element stands at a place
pub record IsAt (xs : List Named) (i : ℕ) (x : Named) : Type 0 where
  pub within : i < length xs
  pub here : (d : Named) → slice_index_or xs i d ≡ x

-- a note, with its name once more, is of the element after those that are noted
pub record IsNext (xs : List Named) (depths : Depths) (note : Note) (name : List ℕ) : Type 0 where
  pub within : length depths.notes.items < length xs
  pub of : (x : Named) → IsNoteOf (slice_index_or xs (length depths.notes.items) x) note
  pub from : note.from ≤ length depths.notes.items
  pub own : (sign : Sign) → has note.own sign ≡ true → has note.all sign ≡ true
  pub all : Covers depths.notes.items note.from (length depths.notes.items) note.all
  pub below : note.below ≡ said depths.tops note.own.is_html note.name
  pub same : name ≡ note.name

-- the names of elements
abbrev pub named : {H : Type 0} → List (OpenElement H) → List Named
named xs = map (λ x. x.name) xs

-- no element from a place on passes
abbrev pub NoneFrom : (Named → Bool) → List Named → ℕ → Type 0
NoneFrom p xs from = (k : ℕ) (x : Named) → from ≤ k → k < length xs → p (slice_index_or xs k x) ≡ false

-- an element's name in any case
abbrev pub named_any_case : List ℕ → Named → Bool
named_any_case name x = bytes_eq (map to_ascii_lowercase x.name) (map to_ascii_lowercase name)

abbrev pub is_foreign_named : List ℕ → Named → Bool
is_foreign_named name x = not (is_html x.namespace) && named_any_case name x

abbrev pub known_as : Open → Named
known_as x = record { namespace = x.namespace; name = x.name; rules = x.rules }

-- what is left of open elements where some of the newest leave, of which none passes
pub record IsBeyond (p : Named → Bool) (rest xs : List Open) : Type 0 where
  pub newer : List Open
  pub parted : xs ≡ newer ++ rest
  pub none : list_any (λ x. p (known_as x)) newer ≡ false
