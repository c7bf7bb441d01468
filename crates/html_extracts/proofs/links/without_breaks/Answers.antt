use Rattle.std.proofs.Common.{◌∙◌, ap, map-id, sym}
use Rattle.std.specs.Prelude.{filter}
use Rattle.std.proofs.lemmas.Iterator.{YieldsList-from_chars}
use Rattle.std.proofs.lemmas.Iterator.Consumers.{YieldsList-end}
use Rattle.html_extracts.specs.Links.{is_in_line}
use Rattle.html_extracts.proofs.links.without_breaks.Goals as goal

pub returns-clause-ok : goal.returns-clause-ok
returns-clause-ok c =
    let all = YieldsList-end (YieldsList-from_chars c.args.url.now c.utf8.url cc) c.loop-character.yielded _
    c.loop-character.yielded_by _ _ c.in-None.is c.next.ensures.steps in
    c.loop-character.invariant ∙ ap (filter is_in_line) (sym (map-id c.loop-character.yielded) ∙ all.0)
