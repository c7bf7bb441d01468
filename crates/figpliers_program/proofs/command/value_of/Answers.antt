use Rattle.std.proofs.Common.{◌∙◌}
use Rattle.std.proofs.lemmas.Result.{IfOk-weaker}
use Rattle.clap.proofs.WalkLemmas.{first_value-rows}
use Rattle.clap.specs.Matches.{found_of}
use Rattle.figpliers_program.proofs.command.value_of.Goals as goal

pub returns-in-Some : goal.returns-in-Some
returns-in-Some c =
    IfOk-weaker c.copied.result _ _ (λ found is. is ∙ c.in-Some.ensures ∙ first_value-rows (found_of c.args.matches.now) c.args.name.now)
    c.copied.ensures

pub returns-in-None : goal.returns-in-None
returns-in-None c = c.in-None.ensures ∙ first_value-rows (found_of c.args.matches.now) c.args.name.now
