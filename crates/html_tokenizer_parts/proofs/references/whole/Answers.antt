use Rattle.html_tokenizer_parts.proofs.WholeNames.{whole-is}
use Rattle.html_tokenizer_parts.proofs.references.whole.Goals as goal

pub returns : goal.returns
returns c = whole-is c.args.table.now c.rows-rows.ensures.table _ c.in_ok-row.row.now c.row_found.result
    c.in_ok-row.ensures.row c.in_ok-row.ensures.name c.in_ok-row.ensures.front c.in_ok-row.ensures.longest c.row_found.ensures
