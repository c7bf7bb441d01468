use Rattle.std.proofs.Common.{◌∙◌, ap, sym}
use Rattle.std.specs.Prelude.{Some}
use Rattle.html_faithful.specs.Spots.{Spot}
use Rattle.html_faithful_judge.specs.Spots.{spot_of}
use Rattle.html_faithful_walk.proofs.SvgTags.{svg-closes, svg-kind}
use Rattle.html_faithful_walk.proofs.svg.finish_svg.Goals as goal

pub returns-clause-ok : goal.returns-clause-ok
returns-clause-ok c closed =
    svg-closes c.args.name.now (spot_of c.args.made.now.spot) record {
      svg = sym c.is_svg.ensures ∙ c.if-not-is_svg.false;
      named = svg-kind c.kind_of-kind.result c.args.name.now.local (sym c.is_svg_kind.ensures ∙ c.if-not-is_svg_kind.false)
          c.kind_of-kind.ensures;
      current = sym c.is_current.ensures ∙ c.if-not-is_current.false;
    }
    ∙ ap (λ (p : Spot). Some p) (sym c.close_current.ensures)
