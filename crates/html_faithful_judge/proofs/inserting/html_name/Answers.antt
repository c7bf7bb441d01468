use Rattle.std.proofs.Common.{◌∙◌, codes, refl}
use Rattle.std.proofs.lemmas.Result.{IfOk-weaker}
use Rattle.markup.proofs.Plain.{chars-plain}
use Rattle.html_faithful_judge.proofs.inserting.html_name.Goals as goal

pub returns-clause-ok : goal.returns-clause-ok
returns-clause-ok c = IfOk-weaker c.from_str.result _ _ (λ name h. h ∙ chars-plain (codes "html") refl) c.from_str.ensures.ok
