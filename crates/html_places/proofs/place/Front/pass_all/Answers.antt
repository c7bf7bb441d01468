use Rattle.std.proofs.Common.{◌∙◌, ap, map-id, sym}
use Rattle.std.proofs.lemmas.Iterator.{YieldsList-from_chars}
use Rattle.std.proofs.lemmas.Iterator.Consumers.{YieldsList-end}
use Rattle.html_places.specs.Fronts.{passed, passed_all}
use Rattle.html_places.specs.declared.place.Front.{Front}
use Rattle.html_places.proofs.Fronts.{passed-push}
use Rattle.html_places.proofs.place.Front.pass_all.Goals as goal

pub loop-c-preserved : goal.loop-c-preserved
loop-c-preserved c = c.pass.ensures ∙ (ap (λ (f : Front). passed f c.in-Some.c) c.loop-c.invariant
    ∙ sym (passed-push c.args.self.now c.loop-c.yielded c.in-Some.c))

pub returns : goal.returns
returns c =
    let all = YieldsList-end (YieldsList-from_chars c.args.text.now c.utf8.text cc) c.loop-c.yielded _
    c.loop-c.yielded_by _ _ c.in-None.is c.next.ensures.steps in
    c.loop-c.invariant ∙ ap (passed_all c.args.self.now) (sym (map-id c.loop-c.yielded) ∙ all.0)
