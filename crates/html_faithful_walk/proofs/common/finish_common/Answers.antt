use Rattle.std.proofs.Common.{◌∙◌, ap, sym}
use Rattle.std.specs.Prelude.{Some, is_none}
use Rattle.std.proofs.lemmas.Bool.{and_parts}
use Rattle.markup.specs.Trees.{is_html}
use Rattle.html_faithful.specs.Spots.{Spot}
use Rattle.html_faithful_judge.specs.Spots.{spot_of}
use Rattle.html_faithful_walk.proofs.CommonTags.{end-closes}
use Rattle.html_faithful_walk.proofs.common.finish_common.Goals as goal

pub returns-clause-ok : goal.returns-clause-ok
returns-clause-ok c closed =
    let html = and_parts (is_html c.args.name.now) (is_none c.args.name.now.prefix)
    (sym c.is_plain_html.ensures ∙ c.if-not-is_plain_html.false) in
    end-closes c.kind_of-kind.result c.args.name.now (spot_of c.args.made.now.spot) c.kind_of-kind.ensures html.0 html.1
    (c.is_closed.ensures c.if-not-is_closed.false)
    ∙ ap (λ (p : Spot). Some p) (sym c.close.ensures)
