-- Worked examples: words after the program's name, the kinds of error with which clap rejects them, and what it finds of those that it
-- takes.
use Rattle.std.specs.Prelude.{◌≡◌, Bool, true, false, List, [], ◌∷◌, map, Option, Some, None, codes, option_map}
use Rattle.clap.specs.Faults.{fault_of}
use Rattle.clap.specs.Kinds.{Kinds}
use Rattle.clap.specs.Simple.{subcommand_of}
use Rattle.clap.specs.Walk.{Text, all_of, first_of, one_of}
use Rattle.clap.specs.declared.error.kind.ErrorKind.TheVariants.{DisplayHelp, DisplayVersion, InvalidSubcommand, InvalidValue}
use Rattle.clap.specs.declared.error.kind.ErrorKind.TheVariants.{MissingRequiredArgument, UnknownArgument}
use Rattle.figpliers_program.specs.Asked.{has_conflict_in, is_name}
use Rattle.figpliers_program.specs.CommandLine.{figpliers}

-- the same with the program's name before them
abbrev pub kinds_of : List Text → Kinds
kinds_of words = fault_of figpliers (codes "figpliers" ∷ words)

-- words, and why they are rejected; no kind stands for those that are taken
abbrev pub rejected_rows : List (List Text × Kinds)
rejected_rows = (codes "errors" ∷ [], [])
    ∷ (codes "links" ∷ codes "-H" ∷ codes "--kind" ∷ codes "a" ∷ [], [])
    ∷ (codes "select" ∷ codes "p" ∷ codes "a" ∷ codes "b" ∷ [], [])
    ∷ (codes "select" ∷ [], MissingRequiredArgument ∷ [])
    ∷ (codes "text" ∷ codes "--none" ∷ [], UnknownArgument ∷ [])
    ∷ (codes "text" ∷ codes "-o" ∷ [], InvalidValue ∷ [])
    ∷ (codes "tree" ∷ codes "a" ∷ codes "b" ∷ [], UnknownArgument ∷ [])
    ∷ (codes "none" ∷ [], UnknownArgument ∷ InvalidSubcommand ∷ [])
    ∷ (codes "--version" ∷ [], DisplayVersion ∷ [])
    ∷ (codes "text" ∷ codes "--help" ∷ [], DisplayHelp ∷ [])
    ∷ (codes "clean" ∷ codes "a" ∷ codes "--help" ∷ [], DisplayHelp ∷ [])
    ∷ []

abbrev pub AreWordsRejected : Type 0
AreWordsRejected = map (λ (row : List Text × Kinds). kinds_of row.0) rejected_rows ≡ map (λ row. row.1) rejected_rows

-- of words that clap takes: the command, the file to write to, the label, and the files
pub record Found : Type 0 where
  pub command : Text
  pub output : Option Text
  pub encoding : Option Text
  pub lossy : Option Text
  pub files : Option (List Text)

abbrev pub found_in : List Text → Option Found
found_in words = option_map (λ entered. record {
  command = entered.0;
  output = first_of (codes "output") entered.1;
  encoding = first_of (codes "encoding") entered.1;
  lossy = one_of (codes "lossy") entered.1;
  files = all_of (codes "files") entered.1;
}) (subcommand_of figpliers (codes "figpliers" ∷ words))

abbrev pub found_rows : List (List Text × Option Found)
found_rows = (
  codes "text" ∷ [],
  Some (record {
    command = codes "text";
    output = None;
    encoding = None;
    lossy = Some (codes "false");
    files = None;
  }),
)
    ∷ (
      codes "markdown" ∷ codes "a" ∷ codes "-o" ∷ codes "out" ∷ codes "--lossy" ∷ codes "b" ∷ [],
      Some (record {
        command = codes "markdown";
        output = Some (codes "out");
        encoding = None;
        lossy = Some (codes "true");
        files = Some (codes "a" ∷ codes "b" ∷ []);
      }),
    )
    ∷ (
      codes "check" ∷ codes "--encoding=koi8-r" ∷ codes "--output" ∷ codes "x" ∷ codes "--" ∷ codes "-" ∷ [],
      Some (record {
        command = codes "check";
        output = Some (codes "x");
        encoding = Some (codes "koi8-r");
        lossy = Some (codes "false");
        files = Some (codes "-" ∷ []);
      }),
    )
    ∷ []

abbrev pub AreWordsFound : Type 0
AreWordsFound = map (λ (row : List Text × Option Found). found_in row.0) found_rows ≡ map (λ row. row.1) found_rows

-- words, and whether two options are used that exclude each other
abbrev pub conflict_rows : List (List Text × Bool)
conflict_rows = (codes "text" ∷ codes "--utf-8" ∷ [], false)
    ∷ (codes "text" ∷ codes "--utf-8" ∷ codes "--lossy" ∷ [], true)
    ∷ (codes "select" ∷ codes "--attr" ∷ codes "id" ∷ codes "--count" ∷ codes "p" ∷ [], true)
    ∷ (codes "links" ∷ codes "-H" ∷ codes "-h" ∷ [], true)
    ∷ (codes "links" ∷ codes "--json" ∷ codes "--lossy" ∷ codes "-h" ∷ [], false)
    ∷ []

abbrev pub AreConflictsFound : Type 0
AreConflictsFound = map (λ (row : List Text × Bool). has_conflict_in (subcommand_of figpliers (codes "figpliers" ∷ row.0))) conflict_rows
    ≡ map (λ row. row.1) conflict_rows

-- names of elements, and texts that are none
abbrev pub name_rows : List (Text × Bool)
name_rows = (codes "td", true) ∷ (codes "my-element:x", true) ∷ ([], false) ∷ (codes "1", false) ∷ (codes "a b", false)
    ∷ (codes "a/", false) ∷ (codes "<a>", false) ∷ []

abbrev pub AreNamesKnown : Type 0
AreNamesKnown = map (λ (row : Text × Bool). is_name row.0) name_rows ≡ map (λ row. row.1) name_rows
