use Rattle.std.proofs.Common.{◌∙◌, ap, sym}
use Rattle.std.specs.Prelude.{Some}
use Rattle.std.proofs.lemmas.Bool.{and_parts}
use Rattle.html_rules.specs.ForeignContent.{is_html_element}
use Rattle.html_rules.specs.State.{current_is}
use Rattle.html_faithful.specs.Harmless.{Made}
use Rattle.html_faithful_judge.specs.Spots.{spot_of}
use Rattle.html_faithful_walk.specs.Common.{is_flow}
use Rattle.html_faithful_walk.proofs.SvgTags.{root-put}
use Rattle.html_faithful_walk.proofs.svg.start_root.Goals as goal

pub returns-clause-ok : goal.returns-clause-ok
returns-clause-ok c put =
    let place = and_parts (is_flow c.args.made.now.spot.mode) (current_is is_html_element c.args.made.now.spot.stack.open_elems)
    (sym c.takes_root.ensures ∙ c.if-not-takes_root.false) in
    root-put c.args.name.now c.args.attributes.now (spot_of c.args.made.now.spot) record {
      svg = sym c.is_svg.ensures ∙ c.if-not-is_svg.false;
      named = sym c.is.ensures ∙ c.if-not-is.false;
      flow = place.0;
      html = place.1;
      read = c.are_svg_read.ensures c.if-not-are_svg_read.false;
    }
    ∙ ap (λ (made : Made). Some made) (sym c.in_ok-open.ensures.ok)
