use Rattle.html_input.proofs.Rows.{cut_at-split}
use Rattle.html_input.proofs.lines.cut_at.Goals as goal

pub returns : goal.returns
returns c = cut_at-split c.args.mark c.args.text.now c.split_once.result (c.split_once.ensures.byte c.requires (λ w o found. found))
