-- Why words are rejected.
use Rattle.std.proofs.Common.{◌≡◌, ◌∙◌, ◌⊎◌, Bool, List, Option, ap, false, inl, inr, refl, subst, true}
use Rattle.std.specs.Prelude.{◌||◌}
use Rattle.clap.specs.Faults.{fault_of, is_simple_and_free}
use Rattle.clap.specs.Kinds.{HasKind}
use Rattle.clap.specs.Simple.{App, HasMatchesOf, is_simple, subcommand_of, subcommand_rows_of}
use Rattle.clap.specs.Values.{kind_of}
use Rattle.clap.specs.Walk.{Row, Text}
use Rattle.clap.specs.declared.error.Error.{Error}
use Rattle.clap.specs.declared.error.kind.ErrorKind.{ErrorKind}
use Rattle.clap.specs.declared.error.kind.ErrorKind.TheVariants.{OutOfMemory}
use Rattle.clap.specs.declared.parser.matches.ArgMatches.{ArgMatches}
use Rattle.figpliers_program.specs.Asked.{IsCommandOf, has_no_name, has_unknown_label}
use Rattle.figpliers_program.specs.CommandLine.{clean_command, figpliers, links_command, select_command, tree_command}
use Rattle.figpliers_program.specs.Rejected.{IsRejectedBy, IsUnfit, Label, Name, is_help}
use Rattle.figpliers_program.specs.declared.command.Asked.{Asked}

pub simple : is_simple figpliers ≡ true
unfolding clean_command figpliers links_command select_command tree_command
simple = refl

-- no option has a rule on another
pub simple-and-free : is_simple_and_free figpliers ≡ true
unfolding clean_command figpliers links_command select_command tree_command
simple-and-free = refl

-- an error of clap's
pub by-clap : (words : List Text) (app : App) (error : Error) → app ≡ figpliers
    → (is_simple_and_free app ≡ true → HasKind (fault_of app words) error)
    → (kind_of error ≡ OutOfMemory) ⊎ IsRejectedBy words (kind_of error)
by-clap words app error is fails = go (subst (λ a. is_simple_and_free a ≡ true → HasKind (fault_of a words) error) is fails simple-and-free)
  where
    go : HasKind (fault_of figpliers words) error → (kind_of error ≡ OutOfMemory) ⊎ IsRejectedBy words (kind_of error)
    go (inl memory) = inl memory
    go (inr among) = inr (inl among)

-- an error of the program's own
pub by-program : (words : List Text) (error : Error) (kind : ErrorKind) (found : Option (Text × List Row)) → kind_of error ≡ kind
    → is_help kind ≡ false → found ≡ subcommand_of figpliers words → IsUnfit found
    → (kind_of error ≡ OutOfMemory) ⊎ IsRejectedBy words (kind_of error)
by-program words error kind found is other same unfit = inr (inr (ap is_help is ∙ other, subst IsUnfit same unfit))

-- the command that clap entered
pub entered-by : (words : List Text) (app : App) (m : ArgMatches) → app ≡ figpliers → HasMatchesOf app words m
    → subcommand_rows_of m ≡ subcommand_of figpliers words
entered-by words app m is has = (has (ap is_simple is ∙ simple)).1 ∙ ap (λ a. subcommand_of a words) is

-- a value that cannot be used
pub unfit-value : (found : Option (Text × List Row)) (asked : Asked) → IsCommandOf found asked
    → (has_unknown_label asked.reading || has_no_name asked.job) ≡ true → IsUnfit found
unfit-value found asked is odd = go (has_unknown_label asked.reading) (has_no_name asked.job) refl refl odd
  where
    go : (a b : Bool) → has_unknown_label asked.reading ≡ a → has_no_name asked.job ≡ b → (a || b) ≡ true → IsUnfit found
    go true b label name odd = Label asked is label
    go false true label name odd = Name asked is name
    go false false label name odd = absurd cc

-- values that can be used
pub fit-values : (a b : Bool) → (a || b) ≡ false → (a ≡ false) × (b ≡ false)
fit-values true b odd = absurd cc
fit-values false b odd = (refl, odd)
