use Rattle.std.proofs.Common.{◌≡◌, ◌∙◌, Some, ap, false, rules}
use Rattle.std.proofs.lemmas.Result.{IfOk-weaker}
use Rattle.clap.specs.Simple.{app_of_fields}
use Rattle.clap.specs.Walk.{Rule, rule_of}
use Rattle.clap.specs.declared.builder.arg.Arg.{Arg}
use Rattle.figpliers_program.specs.CommandLine.{long_help_rule}
use Rattle.figpliers_program.proofs.Building.{app-after, local-after}
use Rattle.figpliers_program.proofs.command_line.names.Goals as goal

pub returns-clause-app : goal.returns-clause-app
returns-clause-app c =
    let help : rule_of c.help-help.result ≡ long_help_rule = search rules in
    let plain : c.help-help.result.global ≡ false = search rules in
    IfOk-weaker c.arg-3.result _ _ (λ made adds. app-after _ made _ _ _ adds plain
    (app-after _ _ _ _ _ c.in_ok-arg-2.ensures (ap (λ (option : Arg). option.global) c.short-without_names.ensures ∙ c.flag.ensures.plain.0)
    (app-after _ _ _ _ _ c.in_ok-arg.ensures c.with_names.ensures.plain.0 (ap app_of_fields c.disable_help_flag.ensures)
    c.with_names.ensures.rule)
    (ap rule_of c.short-without_names.ensures ∙ ap (λ (rule : Rule). record rule { short = Some 104 }) c.flag.ensures.rule))
    help) c.arg-3.ensures

pub returns-clause-local : goal.returns-clause-local
returns-clause-local c = λ local.
    let plain : c.help-help.result.global ≡ false = search rules in
    IfOk-weaker c.arg-3.result _ _ (λ made adds. local-after _ made _ adds plain
    (local-after _ _ _ c.in_ok-arg-2.ensures (ap (λ (option : Arg). option.global) c.short-without_names.ensures ∙ c.flag.ensures.plain.0)
    (local-after _ _ _ c.in_ok-arg.ensures c.with_names.ensures.plain.0
    (ap (λ fields. fields.has_globals) c.disable_help_flag.ensures ∙ local)))) c.arg-3.ensures
