-- What a command is after an option or a command was added.
use Rattle.std.proofs.Common.{◌≡◌, ◌∙◌, false, ap, ap₂}
use Rattle.std.specs.Prelude.{◌||◌}
use Rattle.clap.specs.Built.{AddsArg, AddsSubcommand}
use Rattle.clap.specs.Simple.{App, app_of, with_rule, with_subcommand}
use Rattle.clap.specs.Walk.{Rule, rule_of}
use Rattle.clap.specs.declared.builder.arg.Arg.{Arg}
use Rattle.clap.specs.declared.builder.command.Command.{Command}
use Rattle.figpliers_program.specs.CommandLine.{IsLocal}

-- an option more
pub app-after : (old new : Command) (option : Arg) (app : App) (rule : Rule) → AddsArg old option new → option.global ≡ false
    → app_of old ≡ app
    → rule_of option ≡ rule → app_of new ≡ with_rule app rule
app-after old new option app rule adds local e k = adds.shape local ∙ ap₂ with_rule e k

pub local-after : (old new : Command) (option : Arg) → AddsArg old option new → option.global ≡ false → IsLocal old → IsLocal new
local-after old new option adds local e = adds.globals ∙ ap₂ (λ a b. a || b) e local

-- a command more
pub command-after : (old new command : Command) (app other : App) → AddsSubcommand old command new → IsLocal command → app_of old ≡ app
    → app_of command ≡ other → app_of new ≡ with_subcommand app other.top
command-after old new command app other adds local e k = adds.shape local ∙ ap₂ with_subcommand e (ap (λ (a : App). a.top) k)
