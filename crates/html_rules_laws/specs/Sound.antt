-- Sound states: text in pieces is taken as in one, and every token leads to a sound state.
use Rattle.std.specs.Prelude.{◌≡◌, ℕ, Bool, true, false, ◌||◌, ◌&&◌, not, List, [], ◌∷◌, Option, Some, None, is_some}
use Rattle.html_rules.specs.Choice.{choose}
use Rattle.html_rules.specs.Conditions.{is_nonempty}
use Rattle.html_rules.specs.ForeignContent.{is_html_element}
use Rattle.html_rules.specs.Shape.{has_template_modes, is_at_root}
use Rattle.html_rules.specs.Stack.{has_open}
use Rattle.html_rules.specs.State.{Open, State, is_in}
use Rattle.html_rules.specs.declared.insertion_mode.InsertionMode.{InsertionMode}
use Rattle.html_rules.specs.declared.insertion_mode.InsertionMode.TheVariants.{Initial, BeforeHtml, BeforeHead, InHead}
use Rattle.html_rules.specs.declared.insertion_mode.InsertionMode.TheVariants.{InHeadNoscript, Text, InTable, InTableText}
use Rattle.html_rules.specs.declared.insertion_mode.InsertionMode.TheVariants.{InTableBody, InRow}
use Rattle.html_rules.specs.declared.tag_set.TagSet.TheVariants as set
use Rattle.html_rules_laws.specs.Placing.{are_general, is_in_head, stand_well}
use Rattle.html_rules_laws.specs.Ready.{are_formatting}
use Rattle.html_rules_laws.specs.Settled.{are_template_modes}

-- an element over others that is HTML's, and neither the root nor a template
abbrev pub is_own : Open → Bool
is_own x = is_html_element x && (not (is_in set.Html x) && not (is_in set.Template x))

-- a head on top of those below an element of its own
abbrev pub is_over_head_element : List Open → Bool
is_over_head_element [] = false
is_over_head_element (x ∷ xs) = is_own x && (is_in_head xs && stand_well xs)

-- what is open in a mode that is no mode of text: nothing before the root, the root alone before the head, a head in the head
abbrev pub are_placed : InsertionMode → List Open → Bool
are_placed Initial xs = not (is_nonempty xs)
are_placed BeforeHtml xs = not (is_nonempty xs)
are_placed BeforeHead xs = is_at_root xs && stand_well xs
are_placed InHead xs = is_in_head xs && stand_well xs
are_placed InHeadNoscript xs = is_over_head_element xs
are_placed Text xs = false
are_placed InTableText xs = false
are_placed mode xs = are_general xs

-- modes after the root, and not before the head
abbrev pub is_later : InsertionMode → Bool
is_later Initial = false
is_later BeforeHtml = false
is_later BeforeHead = false
is_later mode = true

abbrev pub is_table_mode : InsertionMode → Bool
is_table_mode InTable = true
is_table_mode InTableBody = true
is_table_mode InRow = true
is_table_mode mode = false

-- under the element of a text, what is open in the original mode
abbrev pub are_placed_under : Option InsertionMode → List Open → Bool
are_placed_under None xs = false
are_placed_under (Some original) [] = false
are_placed_under (Some original) (x ∷ xs) = is_own x && (is_later original && are_placed original xs)

abbrev pub comes_from_table : Option InsertionMode → Bool
comes_from_table None = false
comes_from_table (Some original) = is_table_mode original

-- in the modes of text, by the original mode
abbrev pub are_placed_in : InsertionMode → Option InsertionMode → List Open → Bool
are_placed_in Text original xs = are_placed_under original xs
are_placed_in InTableText original xs = comes_from_table original && are_general xs
are_placed_in mode original xs = are_placed mode xs

-- whether the mode is reset by the root: in a document, and in a fragment whose context is `html`
abbrev pub asks_root : Option Open → Bool
asks_root None = true
asks_root (Some context) = is_in set.Html context

-- before the head only such a root stands; later it has a head
abbrev pub has_its_head : InsertionMode → Option ℕ → Option Open → Bool
has_its_head mode head context = choose (is_later mode) (λ _. is_some head || not (asks_root context)) (λ _. asks_root context)

-- where text is over, a later mode comes back
abbrev pub is_later_original : Option InsertionMode → Bool
is_later_original None = true
is_later_original (Some original) = is_later original

pub record Sound (s : State) : Type 0 where
  -- only formatting elements are listed
  pub listed : are_formatting s.active_formatting ≡ true
  -- a template has a mode that templates may have
  pub modes : are_template_modes s.template_modes ≡ true
  pub head : has_its_head s.mode s.head_elem s.context_elem ≡ true
  pub original : is_later_original s.orig_mode ≡ true
  -- where each open template has its mode, and there is a root, all elements are where the mode wants them
  pub placed : s.has_ended ≡ false → has_template_modes s.template_modes s.open_elems s.context_elem ≡ true
      → (is_later s.mode ≡ true → has_open set.Html s.open_elems ≡ true) → are_placed_in s.mode s.orig_mode s.open_elems ≡ true
