-- What the reasons say of a node.
use Rattle.std.specs.Prelude.{ℕ, Bool, true, false, cond, ◌&&◌, ◌||◌, not, List, [], ◌∷◌, map, Option, Some, None, codes, is_none}
use Rattle.std.specs.List.{list_any}
use Rattle.std.specs.Str.{bytes_eq}
use Rattle.markup.specs.Forest.NodeData.{Comment, Doctype, Element, ProcessingInstruction, Text}
use Rattle.markup.specs.Forest.{Forest, NodeData, data_of, parent_of}
use Rattle.markup.specs.Trees.{is_html, is_raw}
use Rattle.markup.specs.declared.names.QualName.{QualName}
use Rattle.html_tokens.specs.declared.states.RawKind.{RawKind}
use Rattle.html_tokens.specs.declared.states.RawKind.TheVariants.{Rawtext, ScriptData}
use Rattle.html_forest.specs.Links.{previous_under}
use Rattle.html_rules.specs.Conditions.{is_nonempty}
use Rattle.html_faithful.specs.Forms.{are_told, told_attribute, is_comment_text, is_kept, is_raw_text, is_tag_name, lowered}
use Rattle.html_faithful.specs.Walk.{begins_with_line_feed}
use Rattle.html_faithful_walk.specs.declared.reasons.Unfaithful.{Unfaithful}
use Rattle.html_faithful_walk.specs.declared.reasons.Unfaithful.TheVariants as why

-- WHAT A NODE STANDS IN AND AFTER

abbrev pub element_name : NodeData → Option QualName
element_name (Element name attributes template integration_point) = Some name
element_name about = None

abbrev pub is_text_node : NodeData → Bool
is_text_node (Text text) = true
is_text_node about = false

-- the name of the element that a node is in
abbrev pub name_under : Forest → Option ℕ → Option QualName
name_under f None = None
name_under f (Some parent) = element_name (data_of f parent)

abbrev pub name_around : Forest → ℕ → Option QualName
name_around f n = name_under f (parent_of f n)

-- the node just before it
abbrev pub before_of : Forest → ℕ → Option ℕ
before_of f n = previous_under f n (parent_of f n)

abbrev pub is_text_at : Forest → Option ℕ → Bool
is_text_at f None = false
is_text_at f (Some before) = is_text_node (data_of f before)

-- whether a line feed is dropped that comes first in an element (HTML Standard, section 13.2.6.4.7)
abbrev pub drops_first : Option QualName → Bool
drops_first None = false
drops_first (Some name) = is_html name
    && (bytes_eq name.local (codes "pre") || (bytes_eq name.local (codes "listing") || bytes_eq name.local (codes "textarea")))

-- whether a text that is not escaped ends elsewhere than the element that it is in
abbrev pub raw_kind : List ℕ → RawKind
raw_kind name = cond (bytes_eq name (codes "script")) ScriptData Rawtext

abbrev pub ends_elsewhere : Bool → List ℕ → Option QualName → Bool
ends_elsewhere scripting text None = false
ends_elsewhere scripting text (Some name) =
    (is_html name && is_raw scripting name.local) && not (is_raw_text (raw_kind name.local) name.local text)

-- THE REASONS

-- whether a node shows the reason; none shows that something else is read in its place
abbrev pub shows : Bool → Forest → ℕ → Unfaithful → NodeData → Bool
shows scripting f n why.Instruction (ProcessingInstruction target text) = true
shows scripting f n why.Doctype (Doctype name public_id system_id) = not (bytes_eq name (codes "html"))
shows scripting f n why.Name (Element name attributes template integration_point) = not (is_tag_name (lowered name.local))
shows scripting f n why.Attributes (Element name attributes template integration_point) = not (are_told (map told_attribute attributes))
shows scripting f n why.Comment (Comment text) = not (is_comment_text text)
shows scripting f n why.EmptyText (Text text) = not (is_nonempty text)
shows scripting f n why.Characters (Text text) = not (is_kept text)
shows scripting f n why.LineFeed (Text text) =
    begins_with_line_feed text && (is_none (before_of f n) && drops_first (name_around f n))
shows scripting f n why.BesideText (Text text) = is_text_at f (before_of f n)
shows scripting f n why.RawText (Text text) = ends_elsewhere scripting text (name_around f n)
shows scripting f n reason about = false

abbrev pub shown : List Unfaithful
shown = why.Instruction ∷ why.Doctype ∷ why.Name ∷ why.Attributes ∷ why.Comment ∷ why.EmptyText ∷ why.Characters ∷ why.LineFeed
    ∷ why.BesideText ∷ why.RawText ∷ []

-- whether a reason holds of a node: the node shows it; or it shows none, and something else is read in its place
abbrev pub holds_of : Bool → Forest → ℕ → NodeData → Unfaithful → Bool
holds_of scripting f n about why.Place = not (list_any (λ reason. shows scripting f n reason about) shown)
holds_of scripting f n about reason = shows scripting f n reason about

abbrev pub is_reason : Bool → Forest → ℕ → Unfaithful → Bool
is_reason scripting f n reason = holds_of scripting f n (data_of f n) reason
