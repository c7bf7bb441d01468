use Rattle.std.proofs.Common.{◌∙◌, Some, ap}
use Rattle.clap.specs.Walk.{Rule, rule_of}
use Rattle.clap.specs.declared.builder.action.ArgAction.TheVariants.{Append}
use Rattle.figpliers_program.proofs.command_line.several.Goals as goal

pub returns-clause-rule : goal.returns-clause-rule
returns-clause-rule c = ap rule_of c.action.ensures ∙ ap (λ (rule : Rule). record rule { action = Some Append }) c.option.ensures.rule
