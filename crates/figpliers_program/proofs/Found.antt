-- The command that clap entered.
use Rattle.std.proofs.Common.{◌≡◌, List, Option, None, Some, ap, sym}
use Rattle.std.specs.Prelude.{Box, option_map, unwrap_or}
use Rattle.std.specs.Box.{box_value}
use Rattle.clap.specs.Simple.{subcommand_rows}
use Rattle.clap.specs.Walk.{Row, Text}
use Rattle.clap.specs.declared.parser.matches.SubCommand.{SubCommand}
use Rattle.clap.specs.declared.parser.matches.ArgMatches.TheViews.{out-SubCommand}

-- its name and its rows, where both are known
pub entered : {Z : Type 0} (found : Option (Box SubCommand Z)) (name : Text) (rows : List Row)
    → Some name ≡ option_map (λ b. (out-SubCommand (box_value b)).name.now) found
    → Some rows ≡ option_map (λ p. p.1) (subcommand_rows found) → subcommand_rows found ≡ Some (name, rows)
entered None name rows named has = absurd cc
entered (Some b) name rows named has =
    let names = sym (ap (λ found. unwrap_or found name) named) in
    let all = sym (ap (λ found. unwrap_or found rows) has) in
    λ i. Some (names i, all i)
