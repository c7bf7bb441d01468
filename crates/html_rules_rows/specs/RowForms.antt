-- How worked rows of tree construction are written down: a text, and the tree that it gives, as it is written.
use Prim.Native.String.{String}
use Rattle.std.specs.Prelude.{◌≡◌, ℕ, true, false, List, ◌++◌, map, codes, None, Result, Ok, Err}
use Rattle.markup.specs.Forest.{Forest, children_of, data_of, empty_forest, integration_point_of}
use Rattle.markup.specs.Trees.{default_entry, trees_of, written}
use Rattle.markup.specs.declared.quirks.QuirksMode.TheVariants.{NoQuirks}
use Rattle.html_tokens.specs.RowForms.{five}
use Rattle.html_tokens.specs.Sink.{Refusal}
use Rattle.html_tokens.specs.declared.options.TokenizerOpts.{TokenizerOpts}
use Rattle.html_rules.specs.Documents.{Setting, document}
use Rattle.html_rules.specs.State.{State}
use Rattle.html_rules.specs.declared.rules.Rules.TheVariants.{Html5ever}

-- the nodes of a forest as they are written
abbrev pub written_nodes : Forest → List ℕ → List ℕ
written_nodes f ns = written true default_entry (trees_of f ns)

abbrev pub written_by : Result State Refusal → List ℕ
written_by (Ok s) = written_nodes s.forest (children_of s.forest 0)
written_by (Err refusal) = codes "refused"

abbrev pub default_options : TokenizerOpts
default_options = record { exact_errors = false; discard_bom = true; initial_state = None; last_start_tag_name = None }

-- every option as it is by default; the sink keeps where HTML may stand in `annotation-xml`, and has no shadow trees
abbrev pub default_setting : Setting
default_setting = record {
  opts = record { scripting_enabled = true; iframe_srcdoc = false; drop_doctype = false; rules = Html5ever };
  quirks_mode = NoQuirks;
  answers = record {
    integration_point = λ f n. integration_point_of (data_of f n);
    allows_shadow_roots = λ f n. true;
    attaches_shadow = λ f host template attributes. false;
  };
}

-- what is written of the document of a text
abbrev pub read_with : Setting → List ℕ → List ℕ
read_with setting text = written_by (document five default_options setting empty_forest text)

abbrev pub Rows : Type 0
Rows = List (List ℕ × List ℕ)

-- a text and what is written of its document
abbrev pub row : String → String → List ℕ × List ℕ
row input output = (codes input, codes output)

-- the same, with characters that are given by their numbers
abbrev pub row_of : List ℕ → List ℕ → List ℕ × List ℕ
row_of input output = (input, output)

abbrev in_body : List ℕ → List ℕ
in_body output = codes "<html><head></head><body>" ++ output ++ codes "</body></html>"

-- a text whose document is a body with that in it
abbrev pub body_row : String → String → List ℕ × List ℕ
body_row input output = (codes input, in_body (codes output))

abbrev pub body_row_of : List ℕ → List ℕ → List ℕ × List ℕ
body_row_of input output = (input, in_body output)

-- the same, after a doctype
abbrev pub page_row : String → String → List ℕ × List ℕ
page_row input output = (codes "<!DOCTYPE html>" ++ codes input, codes "<!DOCTYPE html>" ++ in_body (codes output))

abbrev pub page_row_of : List ℕ → List ℕ → List ℕ × List ℕ
page_row_of input output = (codes "<!DOCTYPE html>" ++ input, codes "<!DOCTYPE html>" ++ in_body output)

-- each text gives the tree that is written so
abbrev pub AreReadWith : Setting → Rows → Type 0
AreReadWith setting rows = map (λ r. read_with setting r.0) rows ≡ map (λ r. r.1) rows

abbrev pub AreRead : Rows → Type 0
AreRead rows = AreReadWith default_setting rows
