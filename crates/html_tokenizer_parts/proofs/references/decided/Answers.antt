use Rattle.html_tokenizer_parts.proofs.CharRefs.{found-within}
use Rattle.html_tokenizer_parts.proofs.references.decided.Goals as goal

pub returns-clause-within : goal.returns-clause-within
returns-clause-within c = found-within c.args.in_value c.args.table.now c.args.held.now c.args.follows
    c.find.result.found c.find.ensures.found
