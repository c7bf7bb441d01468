use Rattle.std.proofs.Common.{◌∙◌, Some, ap}
use Rattle.std.specs.Prelude.{cond}
use Rattle.std.specs.BTreeMap.{get}
use Rattle.html_selectors.specs.Kinds.{key_cmp}
use Rattle.html_selectors.proofs.Numbering.{key-at}
use Rattle.html_selectors.proofs.kinds.number_of.Goals as goal

pub returns-clause-table : goal.returns-clause-table
returns-clause-table c = λ q. c.in_ok-insert.ensures.updates.0 q
    ∙ ap (λ b. cond b (Some c.args.next) (get key_cmp c.args.table.now q)) (key-at c.args.key q)
