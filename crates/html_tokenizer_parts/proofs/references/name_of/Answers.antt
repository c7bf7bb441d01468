use Rattle.html_references.proofs.Names.{bytes_of_plain, is_plain-name}
use Rattle.html_tokenizer_parts.proofs.references.name_of.Goals as goal

pub returns : goal.returns
returns c = bytes_of_plain c.as_str.result.now c.args.row.now.name c.as_str.utf8 c.as_str.ensures
    (is_plain-name c.args.row.now.name c.requires)
