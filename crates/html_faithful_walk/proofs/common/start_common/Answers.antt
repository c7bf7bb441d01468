use Rattle.std.proofs.Common.{◌∙◌, ap, sym}
use Rattle.std.specs.Prelude.{Some, is_none}
use Rattle.std.proofs.lemmas.Bool.{and_parts}
use Rattle.markup.specs.Trees.{is_html}
use Rattle.html_faithful.specs.Harmless.{Made}
use Rattle.html_faithful_judge.specs.Spots.{spot_of}
use Rattle.html_faithful_walk.proofs.CommonTags.{start-put}
use Rattle.html_faithful_walk.proofs.common.start_common.Goals as goal

pub returns-clause-ok : goal.returns-clause-ok
returns-clause-ok c put =
    let html = and_parts (is_html c.args.name.now) (is_none c.args.name.now.prefix)
    (sym c.is_plain_html.ensures ∙ c.if-not-is_plain_html.false) in
    start-put c.kind_of-kind.result c.args.name.now c.args.attributes.now (spot_of c.args.made.now.spot) c.kind_of-kind.ensures record {
      html = html.0;
      prefix = html.1;
      opens = sym c.may_open.ensures ∙ c.if-not-may_open.false;
      read = c.are_read_so.ensures c.if-not-are_read_so.false;
    }
    ∙ ap (λ (made : Made). Some made) (sym c.in_ok-open.ensures.ok)
