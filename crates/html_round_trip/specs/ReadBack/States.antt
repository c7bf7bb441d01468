-- The states of the rules while a plain document is read.
use Rattle.std.specs.Prelude.{ℕ, Bool, false, List, [], Option, Some, None}
use Rattle.markup.specs.Forest as forest
use Rattle.markup.specs.Forest.{Forest, NodeData}
use Rattle.markup.specs.declared.attributes.Attribute.{Attribute}
use Rattle.markup.specs.declared.quirks.QuirksMode.TheVariants.{NoQuirks}
use Rattle.html_tokens.specs.Tags.{named}
use Rattle.html_tokens.specs.declared.tags.Tag.{Tag}
use Rattle.html_tokens.specs.declared.tags.TagKind.TheVariants.{StartTag}
use Rattle.html_plain.specs.Elements.{html_name, spelled}
use Rattle.html_plain.specs.declared.elements.PlainElement.{PlainElement}
use Rattle.html_plain.specs.declared.elements.PlainElement.TheVariants.{Table, TableBody, Row}
use Rattle.html_rules.specs.Names.{Html}
use Rattle.html_rules.specs.State.{Answers, Entry, Open, Options, State}
use Rattle.html_rules.specs.declared.insertion_mode.InsertionMode.{InsertionMode}
use Rattle.html_rules.specs.declared.insertion_mode.InsertionMode.TheVariants as mode
use Rattle.html_rules.specs.declared.rules.Rules.TheVariants.{Html5ever}

-- what does not change: whether scripts run, and what the sink answers
pub record Around : Type 0 where
  pub scripting : Bool
  pub answers : Answers

abbrev pub options_of : Around → Options
options_of around = record { scripting_enabled = around.scripting; iframe_srcdoc = false; drop_doctype = false; rules = Html5ever }

-- what does
pub record Inner : Type 0 where
  pub mode : InsertionMode
  pub original : Option InsertionMode
  pub head : Option ℕ
  pub forest : Forest
  pub stack : List Open
  pub entries : List Entry
  pub frameset_ok : Bool
  -- text in a table that waits for the next token
  pub waiting : List ℕ

abbrev pub state : Around → Inner → State
state around inner = record {
  forest = inner.forest;
  open_elems = inner.stack;
  active_formatting = inner.entries;
  template_modes = [];
  mode = inner.mode;
  orig_mode = inner.original;
  head_elem = inner.head;
  form_elem = None;
  frameset_ok = inner.frameset_ok;
  ignore_lf = false;
  foster_parenting = false;
  pending_table_text = inner.waiting;
  quirks_mode = NoQuirks;
  context_elem = None;
  has_ended = false;
  opts = options_of around;
  answers = around.answers;
}

-- an open element
abbrev pub opened : ℕ → PlainElement → Open
opened n k = record { number = n; namespace = Html; name = spelled k; rules = Html5ever }

-- a state in a mode, where no text waits
abbrev pub at : Around → Option ℕ → InsertionMode → Forest → List Open → List Entry → Bool → State
at around head m f stack entries ok = state around (record {
  mode = m;
  original = None;
  head = head;
  forest = f;
  stack = stack;
  entries = entries;
  frameset_ok = ok;
  waiting = [];
})

-- a state in a table, where text waits; the mode is kept
abbrev pub waiting_at : Around → Option ℕ → InsertionMode → Forest → List Open → List Entry → Bool → List ℕ → State
waiting_at around head m f stack entries ok text =
    state around (record {
      mode = mode.InTableText;
      original = Some m;
      head = head;
      forest = f;
      stack = stack;
      entries = entries;
      frameset_ok = ok;
      waiting = text;
    })

-- what flow stands in: the body, outside of tables, or a cell
pub data Home : Type 0 where
  OfBody : Home
  OfCell : Home

abbrev pub mode_in : Home → InsertionMode
mode_in OfBody = mode.InBody
mode_in OfCell = mode.InCell

-- the parts of a table in which white space alone stands beside elements
pub data Part : Type 0 where
  OfTable : Part
  OfBodies : Part
  OfRow : Part

abbrev pub mode_of_part : Part → InsertionMode
mode_of_part OfTable = mode.InTable
mode_of_part OfBodies = mode.InTableBody
mode_of_part OfRow = mode.InRow

abbrev pub part_element : Part → PlainElement
part_element OfTable = Table
part_element OfBodies = TableBody
part_element OfRow = Row

-- the tag that an element is made for
abbrev pub tag_of : PlainElement → List Attribute → Tag
tag_of k attributes = record (named StartTag (spelled k)) { attrs = attributes }

-- the node of an element
abbrev pub element_node : PlainElement → List Attribute → NodeData
element_node k attributes = forest.NodeData.Element (html_name (spelled k)) attributes false false

-- and of a comment
abbrev pub comment_node : List ℕ → NodeData
comment_node text = forest.NodeData.Comment text
