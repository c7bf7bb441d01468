-- Faithful pages are read back.
use lib.Utf8.{scalars}
use Rattle.std.proofs.Common.{◌≡◌, ◌∙◌, true, List, refl, sym, ap}
use Rattle.std.specs.Prelude.{cond}
use Rattle.markup.specs.Calls.{calls_of}
use Rattle.markup.specs.Forest.{Forest, NodeData, children_of, data_of, template_of}
use Rattle.markup.specs.Forest.NodeData.{Document}
use Rattle.markup.specs.Trees.{trees_of}
use Rattle.html_tokens.specs.Laws.{ReadsEscapes}
use Rattle.html_tokens.specs.Table.{Row}
use Rattle.html_rules.specs.declared.rules.Rules.{Rules}
use Rattle.html_faithful.specs.Walk.{is_faithful_by}
use Rattle.html_faithful_documents.specs.Documents.{document_trees, text_of, told_quirks}
use Rattle.html_faithful_documents.proofs.Documents.{bytes-read_back}
use Rattle.html_normal.specs.Document.{default_opts, document_by, forest_answers}
use Rattle.html_pages.specs.ReadBack.{IsReadBackBy, told_of}

-- the calls for a document are those for its trees
told-trees : (f : Forest) → data_of f 0 ≡ Document → told_of f ≡ calls_of (document_trees f)
told-trees f e = ap (λ (about : NodeData). calls_of (trees_of f (children_of f (cond (template_of about) 1 0)))) e

pub pages-read_back : (rules : Rules) (table : List Row) → ReadsEscapes table → (f : Forest) → data_of f 0 ≡ Document
    → is_faithful_by rules true (document_trees f) ≡ true → scalars (text_of true (document_trees f)) ≡ true
    → f.quirks ≡ told_quirks (document_trees f) → IsReadBackBy rules table f
pages-read_back rules table reads f top faithful are quirks =
    let r = bytes-read_back table reads default_opts refl rules forest_answers true (document_trees f) faithful are in
    record {
      document = r.read.left.forest;
      input = record { text = r.utf8; state = r.read.left; read = ap (document_by rules table) r.text ∙ r.read.gives; tree = refl };
      told = told-trees r.read.left.forest r.read.tree.forest.document_first ∙ (r.read.told ∙ sym (told-trees f top));
      quirks = r.read.quirks ∙ sym quirks;
    }
