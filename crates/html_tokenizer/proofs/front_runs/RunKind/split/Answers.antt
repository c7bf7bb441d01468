use Rattle.std.proofs.lemmas.Str.{IsUtf8-take}
use Rattle.html_tokenizer.specs.AheadRuns.{ends_run}
use Rattle.html_tokenizer.proofs.Fronts.Kinds.{kind-cut, kind-lacking, kinds-even}
use Rattle.html_tokenizer.proofs.front_runs.RunKind.split.Goals as goal

pub split_at-requires : goal.split_at-requires
split_at-requires c =
    let width = c.width-width.ensures in
    kind-cut (ends_run c.args.self) (kinds-even c.args.self) _ _ c.utf8.text width.within width.before width.at

pub returns-clause-lacking : goal.returns-clause-lacking
returns-clause-lacking c =
    let width = c.width-width.ensures in
    let even = kinds-even c.args.self in
    rw c.split_at.ensures.front (kind-lacking (ends_run c.args.self) even _ _ c.utf8.text width.within width.before
    (kind-cut (ends_run c.args.self) even _ _ c.utf8.text width.within width.before width.at))

pub returns-clause-cut : goal.returns-clause-cut
returns-clause-cut c =
    let width = c.width-width.ensures in
    rw c.split_at.ensures.front
    (IsUtf8-take _ _ c.utf8.text (kind-cut (ends_run c.args.self) (kinds-even c.args.self) _ _ c.utf8.text
    width.within width.before width.at))
