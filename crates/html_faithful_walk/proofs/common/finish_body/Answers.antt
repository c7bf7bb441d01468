use Rattle.std.proofs.Common.{◌∙◌, sym}
use Rattle.std.specs.Prelude.{is_none}
use Rattle.std.proofs.lemmas.Bool.{and_parts}
use Rattle.markup.specs.Trees.{is_html}
use Rattle.html_faithful_judge.specs.Spots.{spot_of}
use Rattle.html_faithful_walk.proofs.StayingTags.{body-ends}
use Rattle.html_faithful_walk.proofs.common.finish_body.Goals as goal

pub returns-clause-ok : goal.returns-clause-ok
returns-clause-ok c closed =
    let html = and_parts (is_html c.args.name.now) (is_none c.args.name.now.prefix)
    (sym c.is_plain_html.ensures ∙ c.if-not-is_plain_html.false) in
    body-ends c.args.name.now (spot_of c.args.made.now.spot) html.0 html.1 (sym c.is.ensures ∙ c.if-not-is.false)
    (c.ends_body.ensures c.if-not-ends_body.false)
