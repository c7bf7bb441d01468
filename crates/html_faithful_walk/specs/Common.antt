-- The tags of common elements, where they stand in a body, in a cell, in the parts of a table or in the head.
use Rattle.std.specs.Prelude.{◌≡◌, ℕ, Bool, true, false, cond, ◌&&◌, ◌||◌, not, List, [], ◌∷◌, Option, Some, None, is_none, is_some, codes}
use Rattle.std.specs.List.{list_all}
use Rattle.std.specs.Str.{bytes_eq}
use Rattle.markup.specs.Attributes.{are_distinct}
use Rattle.markup.specs.Trees.{is_html}
use Rattle.markup.specs.declared.attributes.Attribute.{Attribute}
use Rattle.markup.specs.declared.names.QualName.{QualName}
use Rattle.html_tokens.specs.declared.states.RawKind.{RawKind}
use Rattle.html_tokens.specs.declared.states.RawKind.TheVariants.{Rcdata, Rawtext, ScriptData}
use Rattle.html_rules.specs.Actions.{or_mode}
use Rattle.html_rules.specs.ForeignContent.{is_html_element}
use Rattle.html_rules.specs.Formatting.{last_named}
use Rattle.html_rules.specs.Names.{Html, equals_any_case}
use Rattle.html_rules.specs.Reset.{mode_of_open}
use Rattle.html_rules.specs.Stack.{in_scope, item_name, without_current}
use Rattle.html_rules.specs.State.{Open, current_is, is_in, is_named}
use Rattle.html_rules.specs.declared.insertion_mode.InsertionMode.{InsertionMode}
use Rattle.html_rules.specs.declared.insertion_mode.InsertionMode.TheVariants as mode
use Rattle.html_rules.specs.declared.tag_set.TagSet.TheVariants as set
use Rattle.html_faithful.specs.Forms.{is_attribute_name, is_kept}
use Rattle.html_faithful.specs.Harmless.{Made, nothing_yet}
use Rattle.html_faithful.specs.Listing.{link_open}
use Rattle.html_faithful.specs.Spots.{Spot, entries_of, hollow, opened_at}
use Rattle.html_faithful_walk.specs.Kinds.{has_end, is_free_name, is_void_kind}
use Rattle.html_faithful_walk.specs.declared.kinds.Kind.{Kind}
use Rattle.html_faithful_walk.specs.declared.kinds.Kind.TheVariants as kind

-- whether nodes stand as in a body: there, or in a cell
abbrev pub is_flow : InsertionMode → Bool
is_flow mode.InBody = true
is_flow mode.InCell = true
is_flow m = false

abbrev pub is_head : InsertionMode → Bool
is_head mode.InHead = true
is_head m = is_flow m

-- where a start tag of a kind may only put its element: in a body, but for the parts of a table; what belongs to the head in that, too
abbrev pub stands_in : Kind → InsertionMode → Bool
stands_in kind.Head mode.BeforeHead = true
stands_in kind.Head m = false
stands_in kind.Body mode.AfterHead = true
stands_in kind.Body m = false
stands_in kind.Metadata m = is_head m
stands_in kind.Title m = is_head m
stands_in kind.Style m = is_head m
stands_in kind.Script m = is_head m
stands_in kind.Section mode.InTable = true
stands_in kind.Section m = false
stands_in kind.Row mode.InTableBody = true
stands_in kind.Row m = false
stands_in kind.Cell mode.InRow = true
stands_in kind.Cell m = false
stands_in k m = is_flow m

-- where an end tag of a kind may only close its element
abbrev pub ends_in : Kind → InsertionMode → Bool
ends_in kind.Head mode.InHead = true
ends_in kind.Head m = false
ends_in kind.Table mode.InTable = true
ends_in kind.Table m = false
ends_in kind.Title mode.Text = true
ends_in kind.Title m = false
ends_in kind.Style mode.Text = true
ends_in kind.Style m = false
ends_in kind.Script mode.Text = true
ends_in kind.Script m = false
ends_in kind.Section mode.InTableBody = true
ends_in kind.Section m = false
ends_in kind.Row mode.InRow = true
ends_in kind.Row m = false
ends_in kind.Cell mode.InCell = true
ends_in kind.Cell m = false
ends_in k m = is_flow m

-- whether no paragraph is open in button scope
abbrev pub is_outside : List Open → Bool
is_outside path = not (in_scope set.ButtonScope (is_in set.P) path)

-- whether no `select` is open in scope
abbrev pub is_outside_select : List Open → Bool
is_outside_select path = not (in_scope set.DefaultScope (is_in set.Select) path)

abbrev pub lists_a : List Open → Bool
lists_a path = is_some (last_named (codes "a") (entries_of path))

-- whether an element of a kind that is put in some open elements closes none of them
abbrev pub closes_none : Kind → List Open → Bool
closes_none kind.Phrase path = true
closes_none kind.Formatting path = true
closes_none kind.VoidPhrase path = true
closes_none kind.VoidBlock path = is_outside path && is_outside_select path
closes_none kind.Input path = is_outside_select path
closes_none kind.Head path = true
closes_none kind.Body path = true
closes_none kind.Metadata path = true
closes_none kind.Title path = true
closes_none kind.Style path = true
closes_none kind.Script path = true
closes_none kind.Button path = not (in_scope set.DefaultScope (is_in set.Button) path)
closes_none kind.Table path = is_outside path
closes_none kind.Section path = current_is (is_in set.TableScope) path
closes_none kind.Row path = current_is (is_in set.TableBodyContext) path
closes_none kind.Cell path = current_is (is_in set.TableRowContext) path
closes_none kind.Link path = not (lists_a path) && not (link_open path)
closes_none kind.Block path = is_outside path
closes_none kind.Preformatted path = is_outside path
closes_none kind.Heading path = is_outside path && not (current_is (is_in set.HeadingTag) path)
closes_none kind.Item path = is_outside path && not (is_some (item_name set.Li path))
closes_none kind.Description path = is_outside path && not (is_some (item_name set.DdDt path))
closes_none k path = false

-- whether a flag says what a start tag of a kind does, since its attributes are not looked at
abbrev pub is_settled : Kind → Spot → Bool
is_settled kind.Input p = not p.frameset_ok
is_settled k p = true

abbrev pub may_open : Kind → Spot → Bool
may_open k p = (stands_in k p.mode && is_settled k p) && (current_is is_html_element p.path && closes_none k p.path)

abbrev pub drops_line_feed : Kind → Bool
drops_line_feed kind.Preformatted = true
drops_line_feed k = false

abbrev pub keeps_frameset_ok : Kind → Bool
keeps_frameset_ok kind.Preformatted = false
keeps_frameset_ok kind.Item = false
keeps_frameset_ok kind.Description = false
keeps_frameset_ok kind.VoidPhrase = false
keeps_frameset_ok kind.VoidBlock = false
keeps_frameset_ok kind.Body = false
keeps_frameset_ok kind.Button = false
keeps_frameset_ok kind.Table = false
keeps_frameset_ok k = true

-- the mode in an element of a kind, and after its end
abbrev pub mode_in : Kind → InsertionMode → InsertionMode
mode_in kind.Table m = mode.InTable
mode_in kind.Section m = mode.InTableBody
mode_in kind.Row m = mode.InRow
mode_in kind.Cell m = mode.InCell
mode_in kind.Head m = mode.InHead
mode_in kind.Body m = mode.InBody
mode_in kind.Title m = mode.Text
mode_in kind.Style m = mode.Text
mode_in kind.Script m = mode.Text
mode_in k m = m

abbrev pub is_text_kind : Kind → Bool
is_text_kind kind.Title = true
is_text_kind kind.Style = true
is_text_kind kind.Script = true
is_text_kind k = false

abbrev pub mode_after : Kind → Spot → InsertionMode
mode_after kind.Head p = mode.AfterHead
mode_after kind.Table p = mode_of_open (hollow p) p.path
mode_after kind.Section p = mode.InTable
mode_after kind.Row p = mode.InTableBody
mode_after kind.Cell p = mode.InRow
mode_after kind.Title p = or_mode p.orig_mode p.mode
mode_after kind.Style p = or_mode p.orig_mode p.mode
mode_after kind.Script p = or_mode p.orig_mode p.mode
mode_after k p = p.mode

-- the kind of its raw text
abbrev pub raw_in : Kind → Option RawKind
raw_in kind.Title = Some Rcdata
raw_in kind.Style = Some Rawtext
raw_in kind.Script = Some ScriptData
raw_in k = None

-- whether there is a head element, once one of a kind is opened
abbrev pub has_head_in : Kind → Bool → Bool
has_head_in kind.Head has = true
has_head_in k has = has

-- the modes where an element of a kind is opened
abbrev pub entered : Kind → Spot → Spot
entered k p = record p {
  mode = mode_in k p.mode;
  orig_mode = cond (is_text_kind k) (Some p.mode) p.orig_mode;
  has_head = has_head_in k p.has_head;
}

-- the spot in an element of a kind and a name
abbrev pub spot_in : Kind → List ℕ → Spot → Spot
spot_in k name p = record (entered k p) {
  path = cond (is_void_kind k) p.path (opened_at p.rules Html name p.path ∷ p.path);
  frameset_ok = cond (keeps_frameset_ok k) p.frameset_ok false;
}

-- the spot after the end of an element of a kind that is the current node
abbrev pub spot_after : Kind → Spot → Spot
spot_after k p = record p {
  mode = mode_after k (record p { path = without_current p.path });
  orig_mode = cond (is_text_kind k) None p.orig_mode;
  path = without_current p.path;
}

-- what the nodes in an element need of what was made of its start tag
abbrev pub before_kids : Made → Made
before_kids made = record (nothing_yet made.spot) { raw = made.raw; drops_line_feed = made.drops_line_feed }

abbrev pub opened_as : Kind → List ℕ → Spot → Made
opened_as k name p = record (nothing_yet (spot_in k name p)) { raw = raw_in k; drops_line_feed = drops_line_feed k }

-- whether an attribute is in no namespace, and is read with the name and the value that it has
abbrev pub is_bare : QualName → Bool
is_bare name = is_none name.prefix && bytes_eq name.ns []

abbrev pub is_emitted : Attribute → Bool
is_emitted a = is_attribute_name a.name.local && is_kept a.value

abbrev pub is_read_so : Attribute → Bool
is_read_so a = is_bare a.name && is_emitted a

abbrev pub are_read_so : List Attribute → Bool
are_read_so attributes = list_all is_read_so attributes && are_distinct attributes

-- whether no rule looks at an attribute that is read so, wherever it stands: but for its name, a `type` that is not `hidden`
abbrev pub is_plain_type : Attribute → Bool
is_plain_type a = bytes_eq a.name.local (codes "type") && not (equals_any_case a.value (codes "hidden"))

abbrev pub is_free : Attribute → Bool
is_free a = is_read_so a && (is_free_name a.name.local || is_plain_type a)

abbrev pub are_free : List Attribute → Bool
are_free attributes = list_all is_free attributes && are_distinct attributes

-- a common element is only put there by its start tag
pub record IsPut (k : Kind) (name : QualName) (attributes : List Attribute) (p : Spot) : Type 0 where
  pub html : is_html name ≡ true
  pub prefix : is_none name.prefix ≡ true
  pub opens : may_open k p ≡ true
  pub read : are_read_so attributes ≡ true

-- and only closed by its end tag
abbrev pub is_closed_by : Kind → List ℕ → Spot → Bool
is_closed_by k name p = has_end k && (ends_in k p.mode && current_is (is_named name) p.path)

-- where the end tag of the body only says that it ends, and that of the root
abbrev pub is_in_body : InsertionMode → Bool
is_in_body mode.InBody = true
is_in_body m = false

abbrev pub is_body_ended : Spot → Bool
is_body_ended p = is_in_body p.mode && (current_is (is_in set.Body) p.path && list_all (is_in set.BodyEnd) p.path)

abbrev pub is_after_body : InsertionMode → Bool
is_after_body mode.AfterBody = true
is_after_body m = false

abbrev pub is_root_ended : Spot → Bool
is_root_ended p = is_after_body p.mode && current_is is_html_element p.path
