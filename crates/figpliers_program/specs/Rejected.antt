-- Which words of other commands than `clean` the program rejects, and with which kind of error: those that clap takes for none of its
-- commands with its options, and those that ask for what cannot be done. Requests for help and for the version are among them.
use Rattle.std.specs.Prelude.{◌≡◌, ◌⊎◌, Bool, String, true, false, List, [], ◌∷◌, Option, Some, None, codes}
use Rattle.std.specs.List.{list_any}
use Rattle.std.specs.Str.{bytes_eq}
use Rattle.std.specs.declared.alloc.Global.{Global}
use Rattle.clap.specs.Faults.{fault_of}
use Rattle.clap.specs.Kinds.{IsAmong}
use Rattle.clap.specs.Simple.{subcommand_of}
use Rattle.clap.specs.Walk.{Row, Text}
use Rattle.clap.specs.declared.error.kind.ErrorKind.{ErrorKind}
use Rattle.clap.specs.declared.error.kind.ErrorKind.TheVariants.{DisplayHelp, DisplayVersion}
use Rattle.figpliers_program.specs.Asked.{AsksFor, IsCommandOf, has_conflict_in, has_no_name, has_unknown_label}
use Rattle.figpliers_program.specs.CommandLine.{figpliers}
use Rattle.figpliers_program.specs.declared.command.Asked.{Asked}

-- the commands
abbrev pub command_names : List Text
command_names = codes "errors" ∷ codes "tree" ∷ codes "links" ∷ codes "markdown" ∷ codes "text" ∷ codes "check" ∷ codes "normal"
    ∷ codes "select" ∷ []

abbrev pub is_command : Text → Bool
is_command name = list_any (bytes_eq name) command_names

-- clap entered one of them
abbrev pub enters_command : Option (Text × List Row) → Bool
enters_command None = false
enters_command (Some (name, rows)) = is_command name

-- why a command that clap entered asks for what cannot be done
pub data IsUnfit (found : Option (Text × List Row)) : Type 0 where
  NoCommand : enters_command found ≡ false → IsUnfit found
  Conflict : has_conflict_in found ≡ true → IsUnfit found
  Label : (asked : Asked) → IsCommandOf found asked → has_unknown_label asked.reading ≡ true → IsUnfit found
  Name : (asked : Asked) → IsCommandOf found asked → has_no_name asked.job ≡ true → IsUnfit found

-- help was asked for, or the version
abbrev pub is_help : ErrorKind → Bool
is_help DisplayHelp = true
is_help DisplayVersion = true
is_help kind = false

-- with which kind of error words are rejected: one of those that clap has for them; or clap takes them, and they are unfit
abbrev pub IsRejectedBy : List Text → ErrorKind → Type 0
IsRejectedBy words kind = IsAmong kind (fault_of figpliers words) ⊎ ((is_help kind ≡ false) × IsUnfit (subcommand_of figpliers words))

-- words are rejected
abbrev pub IsRejected : List Text → Type 0
IsRejected words = (kind : ErrorKind) × IsRejectedBy words kind

-- Words of another command than `clean` name this file to write to, or none; or they are rejected, and there is none.
abbrev pub IsPagesOutput : List Text → Option (String Global) → Type 0
IsPagesOutput words found = ((asked : Asked) × AsksFor words asked × (found ≡ asked.output)) ⊎ ((found ≡ None) × IsRejected words)
