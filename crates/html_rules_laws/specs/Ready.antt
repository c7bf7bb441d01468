-- States that text leaves fit.
use Rattle.std.specs.Prelude.{◌≡◌, ℕ, Bool, true, false, ◌&&◌, not, List, [], ◌∷◌, Option}
use Rattle.html_rules.specs.Sets.{is_among, names_of}
use Rattle.html_rules.specs.Shape.{fits_mode, has_template_modes, is_at_root}
use Rattle.html_rules.specs.State.{Open, Entry, Element, Marker, State, is_in}
use Rattle.html_rules.specs.declared.insertion_mode.InsertionMode.{InsertionMode}
use Rattle.html_rules.specs.declared.insertion_mode.InsertionMode.TheVariants.{BeforeHead, InHead, InHeadNoscript}
use Rattle.html_rules.specs.declared.tag_set.TagSet.TheVariants as set

-- every entry was made for a tag of a formatting element
abbrev pub are_formatting : List Entry → Bool
are_formatting [] = true
are_formatting (Marker ∷ entries) = are_formatting entries
are_formatting (Element n tag ∷ entries) = is_among tag.name (names_of set.FormattingEnd) && are_formatting entries

-- the current node is no template, and stands just over the root
abbrev pub is_over_root : List Open → Bool
is_over_root [] = false
is_over_root (x ∷ xs) = not (is_in set.Template x) && is_at_root xs

-- the current node is no template, and stands just over such an element
abbrev pub is_over_head : List Open → Bool
is_over_head [] = false
is_over_head (x ∷ xs) = not (is_in set.Template x) && is_over_root xs

-- before and in the head nothing else is open
abbrev pub fits_head : InsertionMode → List Open → Bool
fits_head BeforeHead xs = is_at_root xs
fits_head InHead xs = is_over_root xs
fits_head InHeadNoscript xs = is_over_head xs
fits_head mode xs = true

-- a state that fits, in which nothing else stands in the head, whose listed elements are formatting elements
pub record IsReady (mode : InsertionMode) (original : Option InsertionMode) (xs : List Open) (head : Option ℕ)
    (modes : List InsertionMode) (entries : List Entry) (context : Option Open) (ignore_lf has_ended : Bool) : Type 0 where
  pub fit : fits_mode mode original xs head modes ≡ true
  pub templates : has_template_modes modes xs context ≡ true
  pub in_head : fits_head mode xs ≡ true
  pub listed : are_formatting entries ≡ true
  pub kept_lf : ignore_lf ≡ false
  pub going : has_ended ≡ false

abbrev pub Ready : State → Type 0
Ready s = IsReady s.mode s.orig_mode s.open_elems s.head_elem s.template_modes s.active_formatting s.context_elem s.ignore_lf s.has_ended
