-- A text parsed in an encoding, unless it names another.
use Rattle.std.specs.Prelude.{◌≡◌, ℕ, Bool, List, Option, Some, None}
use Rattle.markup.specs.Forest.{Forest}
use Rattle.markup.specs.declared.tree_sink.TreeSink.{Ghosts as TreeGhosts}
use Rattle.html_tokens.specs.Table.{Row}
use Rattle.html_rules.specs.Documents.{Setting}
use Rattle.html_rules.specs.State.{Answers, State}
use Rattle.html_normal.specs.Document.{default_opts, default_setting}
use Rattle.html_parser.specs.Documents.{IsBuilt, builder, of_document}
use Rattle.html_parser.specs.Read.{Beginning}
use Rattle.html_tree_builder.specs.States.{answers_of}
use Rattle.html_tree_builder.specs.declared.builder.TreeBuilder.{TreeBuilder}
use Rattle.html_encodings.specs.declared.names.Encoding.{Encoding}
use Rattle.html_decoded_pages.specs.Pauses.{settled_by}
use Rattle.html_decoded_pages.specs.declared.parsing.Parsed.{Parsed}
use Rattle.html_decoded_pages.specs.declared.parsing.Parsed.TheVariants.{Other, Whole}

-- the default options, where the tree answers so
abbrev pub setting_with : Answers → Setting
setting_with answers = record default_setting { answers = answers }

module _ {K H O : Type 0} (Sink : TreeGhosts K H O) where
  -- before the text of a document, where the tokenizer tells characters or doesn't
  abbrev pub beginning_of : List Row → Bool → Forest → Beginning State
  beginning_of table exact f = of_document table (record default_opts { exact_errors = exact })
      (setting_with (answers_of Sink.integration_point Sink.allows_shadow_roots Sink.attaches_shadow)) f

  -- What was built is what a text makes that was decoded by this encoding, and is read in it; or it is to be read in another.
  unfoldable pub IsParsed : List Row → Bool → Forest → List ℕ → Encoding → Parsed O → Type 0
  IsParsed table exact f text encoding (Whole built) = IsBuilt Sink (beginning_of table exact f) text built
      × (settled_by (builder Sink) (beginning_of table exact f) text encoding ≡ encoding)
  IsParsed table exact f text encoding (Other other) = settled_by (builder Sink) (beginning_of table exact f) text encoding ≡ other

  -- What was built is what the sink gives where nothing was named, and else the encoding that was.
  abbrev pub IsOutcome : TreeBuilder K H O → Option Encoding → Parsed O → Type 0
  IsOutcome left None (Whole built) = Sink.finish_gives left.sink built
  IsOutcome left None (Other encoding) = ⊥
  IsOutcome left (Some other) (Whole built) = ⊥
  IsOutcome left (Some other) (Other encoding) = encoding ≡ other
