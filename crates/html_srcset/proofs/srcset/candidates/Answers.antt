use Rattle.std.proofs.Common.{◌≡◌, ◌∙◌, ◌++◌, [], ap, append-nil, map-id, sym}
use Rattle.std.specs.Str.{chars}
use Rattle.std.proofs.lemmas.Iterator.{YieldsList-from_chars}
use Rattle.std.proofs.lemmas.Iterator.Consumers.{YieldsList-end}
use Rattle.std.proofs.lemmas.Result.{IfOk-weaker}
use Rattle.html_srcset.specs.Srcset.{before, candidates, urls_from}
use Rattle.html_srcset.proofs.srcset.candidates.Goals as goal

pub loop-c-init : goal.loop-c-init
unfolding candidates
loop-c-init c = λ rest. ap (λ found. found ++ urls_from before rest) c.new.ensures.items

pub returns-clause-ok : goal.returns-clause-ok
returns-clause-ok c =
    let all = YieldsList-end (YieldsList-from_chars c.args.value.now c.utf8.value cc) c.loop-c.yielded _
    c.loop-c.yielded_by _ _ c.in-None.is c.next.ensures.steps in
    let same : c.loop-c.yielded ++ [] ≡ chars c.args.value.now =
    append-nil c.loop-c.yielded ∙ (sym (map-id c.loop-c.yielded) ∙ all.0) in
    IfOk-weaker c.finish.result _ _ (λ found is. is ∙ (c.loop-c.invariant [] ∙ ap candidates same)) c.finish.ensures.ok
