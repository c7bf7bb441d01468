use Rattle.std.proofs.Common.{◌≡◌, ◌∙◌, List, ℕ, ap, sym, encode_utf8_all}
use Rattle.std.specs.Str.{chars}
use Rattle.markup.specs.Calls.{calls_of}
use Rattle.markup.specs.Forest.{data_of}
use Rattle.markup.specs.Forest.NodeData.{Doctype}
use Rattle.markup.specs.declared.serializer.TraversalScope.TheVariants.{IncludeNode}
use Rattle.html_forest.specs.Views.{data_view}
use Rattle.html_forest.specs.Walk.{walked}
use Rattle.html_extracts.specs.Lines.{data_lines, doctype_line}
use Rattle.html_extracts.proofs.Spelled.{bytes_of}
use Rattle.html_extracts.proofs.tree.write_node.Goals as goal

same_line : (name name' public_id public_id' system_id system_id' : List ℕ) → name ≡ name' → public_id ≡ public_id' → system_id ≡ system_id'
    → doctype_line name public_id system_id ≡ doctype_line name' public_id' system_id'
same_line name name' public_id public_id' system_id system_id' n p s = λ i. doctype_line (n i) (p i) (s i)

pub returns-in-Some-Doctype-clause-writes : goal.returns-in-Some-Doctype-clause-writes
returns-in-Some-Doctype-clause-writes g c =
    let f = c.args.forest.now in
    let name = chars c.in-Some-Doctype.name.text.now in
    let public_id = chars c.in-Some-Doctype.public_id.text.now in
    let system_id = chars c.in-Some-Doctype.system_id.text.now in
    let is : Doctype name public_id system_id ≡ data_of f c.args.id =
    sym (ap data_view c.in-Some-Doctype.field-0-is) ∙ c.in-Some-Doctype.ensures.about in
    let lines = same_line c.as_str.result.now (encode_utf8_all name) c.as_str-in-Some-Doctype.result.now
    (encode_utf8_all public_id) c.as_str-in-Some-Doctype-2.result.now (encode_utf8_all system_id)
    (bytes_of c.as_str.result.now name c.as_str.utf8 c.as_str.ensures)
    (bytes_of c.as_str-in-Some-Doctype.result.now public_id c.as_str-in-Some-Doctype.utf8 c.as_str-in-Some-Doctype.ensures)
    (bytes_of c.as_str-in-Some-Doctype-2.result.now system_id c.as_str-in-Some-Doctype-2.utf8 c.as_str-in-Some-Doctype-2.ensures)
    ∙ ap (λ node. data_lines node (calls_of (walked f c.args.id IncludeNode))) is in
    rw lines at c.doctype.ensures.writes
