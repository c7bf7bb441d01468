use Rattle.std.proofs.Common.{◌∙◌, ap, sym}
use Rattle.std.specs.Prelude.{Some}
use Rattle.html_faithful.specs.Harmless.{Made}
use Rattle.html_faithful_judge.specs.Spots.{spot_of}
use Rattle.html_faithful_walk.proofs.SvgTags.{svg-kind, svg-put}
use Rattle.html_faithful_walk.proofs.svg.start_svg.Goals as goal

pub returns-clause-ok : goal.returns-clause-ok
returns-clause-ok c put =
    svg-put c.args.name.now c.args.attributes.now (spot_of c.args.made.now.spot) record {
      svg = sym c.is_svg.ensures ∙ c.if-not-is_svg.false;
      named = svg-kind c.kind_of-kind.result c.args.name.now.local (sym c.is_svg_kind.ensures ∙ c.if-not-is_svg_kind.false)
          c.kind_of-kind.ensures;
      takes = sym c.takes_svg.ensures ∙ c.if-not-takes_svg.false;
      read = c.are_svg_read.ensures c.if-not-are_svg_read.false;
    }
    ∙ ap (λ (made : Made). Some made) (sym c.in_ok-open.ensures.ok)
