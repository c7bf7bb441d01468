-- What it means that a text is read as a document, without an error.
use Rattle.std.specs.Prelude.{◌≡◌, ℕ, Bool, true, List, None, Ok, IsUtf8, encode_utf8_all}
use Rattle.std.specs.Str.{chars}
use Rattle.markup.specs.Forest.{Forest, children_of, empty_forest}
use Rattle.markup.specs.Trees.{Trees, trees_of}
use Rattle.markup.specs.declared.quirks.QuirksMode.TheVariants.{NoQuirks}
use Rattle.html_plain.specs.Grammar.{IsPlainDocument, is_plain_forest}
use Rattle.html_plain.specs.Laws.{text_of}
use Rattle.html_rules.specs.Documents.{Setting, before_document, document, is_quiet_text, stand_of}
use Rattle.html_rules.specs.ForeignContent.{asks_cdata}
use Rattle.html_rules.specs.State.{State, hushed}
use Rattle.html_rules.specs.Step.{ended, is_quiet, step}
use Rattle.html_tokens.specs.Laws.{ReadsEscapes}
use Rattle.html_tokens.specs.NormalText.{normal_text}
use Rattle.html_tokens.specs.Notes.{is_quiet_reading, owed}
use Rattle.html_tokens.specs.Table.{Row}
use Rattle.html_tokens.specs.declared.options.TokenizerOpts.{TokenizerOpts}
use Rattle.html_round_trip.specs.ReadBack.States.{Around, options_of}

-- every option as it is by default, but for what control characters are told
abbrev pub default_opts : Bool → TokenizerOpts
default_opts exact = record { exact_errors = exact; discard_bom = true; initial_state = None; last_start_tag_name = None }

abbrev pub default_setting : Around → Setting
default_setting o = record { opts = options_of o; quirks_mode = NoQuirks; answers = o.answers }

-- the trees that stand in a document
abbrev pub document_trees : Forest → Trees
document_trees f = trees_of f (children_of f 0)

-- The document of a text is just these trees, not in quirks mode. The text is clean, every row that was met was met without an
-- error, so it owes none.
pub record IsReadAs (rows : List Row) (exact : Bool) (o : Around) (text : List ℕ) (trees : Trees) : Type 0 where
  pub left : State
  pub gives : document rows (default_opts exact) (default_setting o) empty_forest text ≡ Ok left
  pub shows : document_trees left.forest ≡ trees
  pub no_quirks : left.quirks_mode ≡ NoQuirks
  pub told_no_quirks : left.forest.quirks ≡ NoQuirks
  pub quiet : is_quiet_text rows (stand_of (default_opts exact)) (before_document (default_setting o) empty_forest)
      (normal_text true text) ≡ true
  pub noted_quiet : is_quiet_reading step is_quiet asks_cdata ended rows (stand_of (default_opts exact)) 0
      (hushed (before_document (default_setting o) empty_forest)) (normal_text true text) ≡ true
  pub owes_none : owed step is_quiet asks_cdata ended rows (stand_of (default_opts exact)) 0
      (hushed (before_document (default_setting o) empty_forest)) (normal_text true text) ≡ 0

-- the written text of a plain document is read as that document, by every table that reads what escaping writes
abbrev pub AreDocumentsReadBack : Type 0
AreDocumentsReadBack = (rows : List Row) → ReadsEscapes rows → (exact : Bool) (o : Around) (scripting : Bool)
    (trees : Trees) → IsPlainDocument trees → IsReadAs rows exact o (text_of scripting trees) trees

-- a forest that is judged plain: what is written of it is read as a document that is judged plain and written so again
pub record IsReadAgain (rows : List Row) (exact : Bool) (o : Around) (scripting : Bool) (f : Forest) : Type 0 where
  pub read : IsReadAs rows exact o (text_of scripting (document_trees f)) (document_trees f)
  pub plain : is_plain_forest read.left.forest ≡ true
  pub written : text_of scripting (document_trees read.left.forest) ≡ text_of scripting (document_trees f)

abbrev pub ArePlainForestsReadAgain : Type 0
ArePlainForestsReadAgain = (rows : List Row) → ReadsEscapes rows → (exact : Bool) (o : Around) (scripting : Bool)
    (f : Forest) → is_plain_forest f ≡ true → IsReadAgain rows exact o scripting f

-- The bytes that a plain document is written as: a text in UTF-8, whose document is judged plain, is not in quirks mode, owes no error
-- and is written as the same bytes.
pub record AreBytesReadAgain (rows : List Row) (exact : Bool) (o : Around) (scripting : Bool) (f : Forest) (bytes : List ℕ) : Type 0 where
  pub utf8 : IsUtf8 bytes
  pub read : IsReadAs rows exact o (chars bytes) (document_trees f)
  pub plain : is_plain_forest read.left.forest ≡ true
  pub written : encode_utf8_all (text_of scripting (document_trees read.left.forest)) ≡ bytes

abbrev pub ArePlainBytesReadAgain : Type 0
ArePlainBytesReadAgain =
    (rows : List Row) → ReadsEscapes rows → (exact : Bool) (o : Around) (scripting : Bool) (f : Forest) → is_plain_forest f ≡ true
    → AreBytesReadAgain rows exact o scripting f (encode_utf8_all (text_of scripting (document_trees f)))

-- what a document is once it was written and read: plain and not in quirks mode, with the trees and the bytes of the one before
pub record IsSameAgain (scripting : Bool) (f : Forest) (left : State) : Type 0 where
  pub trees : document_trees left.forest ≡ document_trees f
  pub plain : is_plain_forest left.forest ≡ true
  pub no_quirks : left.forest.quirks ≡ NoQuirks
  pub bytes : encode_utf8_all (text_of scripting (document_trees left.forest)) ≡ encode_utf8_all (text_of scripting (document_trees f))

-- so is every document of the bytes that a plain document is written as
abbrev pub ArePlainBytesStable : Type 0
ArePlainBytesStable =
    (rows : List Row) → ReadsEscapes rows → (exact : Bool) (o : Around) (scripting : Bool) (f : Forest) → is_plain_forest f ≡ true
    → (left : State) → document rows (default_opts exact) (default_setting o) empty_forest
    (chars (encode_utf8_all (text_of scripting (document_trees f)))) ≡ Ok left
    → IsSameAgain scripting f left
