use Rattle.std.proofs.Common.{lit<}
use Rattle.std.proofs.lemmas.Iterator.Consumers.{map_from_collect}
use Rattle.std.proofs.lemmas.Iterator.Splits.{YieldsList-from_str_split}
use Rattle.html_policy_text.proofs.Lines.{lines-collected}
use Rattle.html_policy_text.proofs.reading.lines_of.Goals as goal

pub returns : goal.returns
returns c =
    lines-collected c.collect.result (λ lines. lines.items) c.args.text.now c.utf8.text
    (map_from_collect c.collect.result c.collect.ensures.ran
    (YieldsList-from_str_split 10 c.args.text.now (lit< tt) c.split.ensures.text c.split.ensures.has_more c.split.ensures.pattern))
