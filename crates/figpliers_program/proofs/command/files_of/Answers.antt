use Rattle.std.proofs.Common.{◌∙◌, [], ap, codes, map}
use Rattle.std.proofs.lemmas.Result.{IfOk-weaker}
use Rattle.std.specs.Prelude.{unwrap_or}
use Rattle.std.specs.String.{string_bytes}
use Rattle.clap.proofs.WalkLemmas.{raw_values-rows}
use Rattle.clap.specs.Matches.{found_of}
use Rattle.figpliers_program.proofs.command.files_of.Goals as goal

pub returns-in-Some : goal.returns-in-Some
returns-in-Some c = IfOk-weaker c.copied_all.result _ _ (λ files is. is
    ∙ ap (λ texts. unwrap_or texts []) (c.in-Some.ensures ∙ raw_values-rows (found_of c.args.matches.now) (codes "files")))
    c.copied_all.ensures

pub returns-in-None : goal.returns-in-None
returns-in-None c = ap (map string_bytes) c.new.ensures.items
    ∙ ap (λ texts. unwrap_or texts []) (c.in-None.ensures ∙ raw_values-rows (found_of c.args.matches.now) (codes "files"))
