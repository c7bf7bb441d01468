-- Whether the parts of a state fit one another, as they do wherever the rules themselves lead. A state that was changed by hand may
-- not, and then takes no token.
use Rattle.std.specs.Prelude.{ℕ, ◌+◌, Bool, true, false, ◌&&◌, not, nat_eq, length, List, [], ◌∷◌, Option, Some, None, is_some}
use Rattle.html_rules.specs.Choice.{choose}
use Rattle.html_rules.specs.Conditions.{context_is, is_nonempty}
use Rattle.html_rules.specs.Stack.{in_scope, open_templates, without_current}
use Rattle.html_rules.specs.State.{Open, State, current_is, is_in}
use Rattle.html_rules.specs.declared.insertion_mode.InsertionMode.{InsertionMode}
use Rattle.html_rules.specs.declared.insertion_mode.InsertionMode.TheVariants.{Initial, BeforeHtml, InHead, InHeadNoscript}
use Rattle.html_rules.specs.declared.insertion_mode.InsertionMode.TheVariants.{AfterHead, Text, InTableText, InCell, InTemplate}
use Rattle.html_rules.specs.declared.tag_set.TagSet.TheVariants as set

-- the first element that was opened is `html`, and no other one is
abbrev pub has_root : List Open → Bool
has_root [] = false
has_root (x ∷ xs) = choose (is_in set.Html x) (λ _. not (is_nonempty xs)) (λ _. has_root xs)

-- whether the current node is the root
abbrev pub is_at_root : List Open → Bool
is_at_root xs = current_is (is_in set.Html) xs

-- what each mode asks of the open elements, the head element pointer and the template insertion modes; the two modes of text are asked
-- with their original modes
abbrev pub fits_in : InsertionMode → List Open → Option ℕ → List InsertionMode → Bool
fits_in Initial xs head modes = not (is_nonempty xs)
fits_in BeforeHtml xs head modes = not (is_nonempty xs)
fits_in InHead xs head modes = has_root xs && is_some head && not (is_at_root xs)
fits_in InHeadNoscript xs head modes = has_root xs && is_some head && not (is_at_root xs)
fits_in AfterHead xs head modes = has_root xs && is_some head && is_at_root xs
fits_in InTemplate xs head modes = has_root xs && is_nonempty modes
fits_in InCell xs head modes = has_root xs && in_scope set.TableScope (is_in set.TdTh) xs
fits_in Text xs head modes = false
fits_in InTableText xs head modes = false
fits_in mode xs head modes = has_root xs

abbrev pub fits_in_original : Option InsertionMode → List Open → Option ℕ → List InsertionMode → Bool
fits_in_original None xs head modes = false
fits_in_original (Some original) xs head modes = fits_in original xs head modes

-- the mode "text" has its own element on top
abbrev pub fits_mode : InsertionMode → Option InsertionMode → List Open → Option ℕ → List InsertionMode → Bool
fits_mode Text original xs head modes = has_root xs && not (is_at_root xs) && fits_in_original original (without_current xs) head modes
fits_mode InTableText original xs head modes = fits_in_original original xs head modes
fits_mode mode original xs head modes = fits_in mode xs head modes

abbrev pub one_if : Bool → ℕ
one_if true = 1
one_if false = 0

-- each open template has a template insertion mode, and so has a context that is one
abbrev pub has_template_modes : List InsertionMode → List Open → Option Open → Bool
has_template_modes modes xs context = nat_eq (length modes) (open_templates xs + one_if (context_is set.Template context))

unfoldable pub is_fit : State → Bool
is_fit s = fits_mode s.mode s.orig_mode s.open_elems s.head_elem s.template_modes
    && has_template_modes s.template_modes s.open_elems s.context_elem
