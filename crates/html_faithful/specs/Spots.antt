-- Where the next node of a tree stands, as the rules of tree construction see it (HTML Standard, section 13.2.4).
use Rattle.std.specs.Prelude.{ℕ, Bool, false, cond, ◌&&◌, ◌||◌, not, length, List, [], ◌∷◌, Option, Some, None}
use Rattle.markup.specs.Forest.{empty_forest}
use Rattle.markup.specs.declared.quirks.QuirksMode.{QuirksMode}
use Rattle.markup.specs.declared.quirks.QuirksMode.TheVariants.{NoQuirks}
use Rattle.html_tokens.specs.Tags.{named}
use Rattle.html_tokens.specs.declared.tags.TagKind.TheVariants.{StartTag}
use Rattle.html_rules.specs.Choice.{choose}
use Rattle.html_rules.specs.Documents.{Setting, before_document}
use Rattle.html_rules.specs.Names.{Namespace}
use Rattle.html_rules.specs.Stack.{has_open}
use Rattle.html_rules.specs.State.{Answers, Entry, Element, Marker, Open, State, is_in}
use Rattle.html_rules.specs.declared.insertion_mode.InsertionMode.{InsertionMode}
use Rattle.html_rules.specs.declared.rules.Rules.{Rules}
use Rattle.html_rules.specs.declared.tag_set.TagSet.TheVariants as set

-- What of a state of the rules rows ask for, in so far as the tree shows it. All of it follows from the way from the root to the node,
-- but for the mode between `head` and `body`, after a body, and in a template.
pub record Spot : Type 0 where
  pub mode : InsertionMode
  -- the mode that comes back after the text of an element
  pub orig_mode : Option InsertionMode
  -- what the node stands in, the nearest first; each is numbered by how many it stands in
  pub path : List Open
  pub template_modes : List InsertionMode
  pub has_head : Bool
  pub frameset_ok : Bool
  pub quirks_mode : QuirksMode
  pub scripting : Bool
  -- whose rules hold
  pub rules : Rules

-- an element that is opened there
abbrev pub opened_at : Rules → Namespace → List ℕ → List Open → Open
opened_at rules namespace name path = record { number = length path; namespace = namespace; name = name; rules = rules }

-- the elements that begin a list of formatting elements of their own (section 13.2.4.3)
abbrev pub is_marked : Open → Bool
is_marked x = is_in set.AppletMarqueeObject x || is_in set.TdTh x || is_in set.Caption x || is_in set.Template x

-- the list of active formatting elements: those of the path (section 13.2.4.3)
abbrev pub entries_of : List Open → List Entry
entries_of [] = []
entries_of (x ∷ xs) =
    choose (is_marked x) (λ _. Marker ∷ entries_of xs)
    (λ _. choose (is_in set.FormattingEnd x) (λ _. Element x.number (named StartTag x.name) ∷ entries_of xs) (λ _. entries_of xs))

-- the form element pointer: a form of the path that stands in no template (section 13.2.4.4)
abbrev pub form_of : List Open → Option ℕ
form_of [] = None
form_of (x ∷ xs) = choose (is_in set.Form x && not (has_open set.Template xs)) (λ _. Some x.number) (λ _. form_of xs)

-- HTML stands in no `annotation-xml`, and no template becomes a shadow root
abbrev pub no_answers : Answers
no_answers = record {
  integration_point = λ f n. false;
  allows_shadow_roots = λ f n. false;
  attaches_shadow = λ f host template attributes. false;
}

-- a page of its own, by those rules and with that scripting flag
abbrev pub setting_of : Rules → Bool → Answers → Setting
setting_of rules scripting answers = record {
  opts = record { scripting_enabled = scripting; iframe_srcdoc = false; drop_doctype = false; rules = rules };
  quirks_mode = NoQuirks;
  answers = answers;
}

-- a state of the rules that stands at a spot, over no tree
abbrev pub hollow : Spot → State
hollow p = record (before_document (setting_of p.rules p.scripting no_answers) empty_forest) {
  open_elems = p.path;
  active_formatting = entries_of p.path;
  template_modes = p.template_modes;
  mode = p.mode;
  orig_mode = p.orig_mode;
  head_elem = cond p.has_head (Some 0) None;
  form_elem = form_of p.path;
  frameset_ok = p.frameset_ok;
  quirks_mode = p.quirks_mode;
}
