-- The checks of the list of active formatting elements and of the form element pointer, in the code.
use Rattle.std.specs.Prelude.{ℕ, Bool, false, ◌&&◌, ◌||◌, not, List, is_some}
use Rattle.std.specs.Str.{bytes_eq}
use Rattle.html_rules.specs.Conditions.{is_nonempty}
use Rattle.html_rules.specs.Stack.{without_current}
use Rattle.html_rules.specs.State.{Open, current_is, is_in}
use Rattle.html_rules.specs.declared.tag_set.TagSet.TheVariants as set
use Rattle.html_faithful.specs.Harmless.{Change, EntryLeft, EntryPushed, FormChange, FormForgotten, FormKept, FormSet}
use Rattle.html_faithful.specs.Harmless.{MarkerLeft, MarkerPushed, Unchanged}
use Rattle.html_faithful_judge.specs.Contexts.{context_of}
use Rattle.html_faithful_walk.specs.declared.checks.Closing.{Closing}

-- what is asked of the current node
abbrev pub current_marked : List Open → Bool
current_marked path = current_is (is_in set.AppletMarqueeObject) path || current_is (is_in set.TdTh) path
    || current_is (is_in set.Caption) path || current_is (is_in set.Template) path

abbrev pub current_pointed : List Open → Bool
current_pointed path = current_is (is_in set.Form) path && not (context_of (without_current path)).in_template

abbrev pub form_below : List Open → Bool
form_below path = current_pointed path && is_some (context_of (without_current path)).form

abbrev pub closing_of : List Open → Closing
closing_of path = record {
  there = is_nonempty path;
  marked = current_marked path;
  formatting = current_is (is_in set.FormattingEnd) path;
  pointed = current_pointed path;
  form_below = form_below path;
}

-- whether the list and the pointer stay so where the current node is closed
abbrev pub lists_by : Closing → Change → Bool
lists_by c EntryLeft = not c.marked
lists_by c MarkerLeft = c.marked
lists_by c Unchanged = not c.formatting && not c.marked
lists_by c change = false

abbrev pub points_by : Closing → FormChange → Bool
points_by c FormForgotten = c.pointed && not c.form_below
points_by c FormKept = not c.pointed
points_by c FormSet = false

-- whether they do where it was opened
abbrev pub lists_opened_at : List ℕ → List Open → Change → Bool
lists_opened_at name path EntryPushed = (current_is (is_in set.FormattingEnd) path && not (current_marked path))
    && (current_is (λ x. bytes_eq name x.name) path
    && not (current_is (is_in set.A) path && (context_of (without_current path)).link_open))
lists_opened_at name path MarkerPushed = current_marked path
lists_opened_at name path Unchanged = not (current_is (is_in set.FormattingEnd) path) && not (current_marked path)
lists_opened_at name path change = false

abbrev pub points_opened_at : List Open → FormChange → Bool
points_opened_at path FormSet = current_pointed path
points_opened_at path FormKept = not (current_pointed path)
points_opened_at path FormForgotten = false
