-- The commands of the program and their options, as far as they say how words are read.
use Rattle.std.specs.Prelude.{◌≡◌, true, false, [], Some, codes}
use Rattle.clap.specs.Simple.{App, new_app, new_rule, on_top, with_rule, with_subcommand}
use Rattle.clap.specs.Walk.{Rule, Text}
use Rattle.clap.specs.declared.builder.action.ArgAction.{ArgAction}
use Rattle.clap.specs.declared.builder.action.ArgAction.TheVariants.{Append, Help, Set, SetTrue}
use Rattle.clap.specs.declared.builder.arg.Arg.{Arg}
use Rattle.clap.specs.declared.builder.command.Command.{Command}
use Rattle.clap.specs.declared.builder.command.Command.TheViews.{out-Command}

-- OPTIONS

-- an option without a value
abbrev pub flag_rule : Text → Rule
flag_rule name = record (new_rule name) { long = Some name; action = Some SetTrue }

-- an option with a value
abbrev pub option_rule : Text → Rule
option_rule name = record (new_rule name) { long = Some name; action = Some Set; value_names = 1 }

-- the same, which may be used several times
abbrev pub several_rule : Text → Rule
several_rule name = record (option_rule name) { action = Some Append }

-- an option of its command alone, of which clap has no rule on its use beside others
abbrev pub IsPlainOption : Arg → Type 0
IsPlainOption option = (option.global ≡ false) × (option.conflicts.items ≡ [])

-- a command whose options are its own
abbrev pub IsLocal : Command → Type 0
IsLocal command = (out-Command command).has_globals ≡ false

-- the files with the pages: any number, or one
abbrev pub pages_rule : ArgAction → Rule
pages_rule action = record (new_rule (codes "files")) { action = Some action; value_names = 1 }

abbrev pub output_rule : Rule
output_rule = record (option_rule (codes "output")) { short = Some 111 }

abbrev pub selector_rule : Rule
selector_rule = record (new_rule (codes "selector")) { action = Some Set; value_names = 1; required = true }

abbrev pub with_names_rule : Rule
with_names_rule = record (flag_rule (codes "with-filename")) { short = Some 72 }

abbrev pub without_names_rule : Rule
without_names_rule = record (flag_rule (codes "no-filename")) { short = Some 104 }

abbrev pub long_help_rule : Rule
long_help_rule = record (new_rule (codes "help")) { long = Some (codes "help"); action = Some Help }

-- OPTIONS OF SEVERAL COMMANDS

-- how pages are read
abbrev pub with_reading : App → App
with_reading command = with_rule (with_rule (with_rule command (option_rule (codes "encoding"))) (flag_rule (codes "utf-8")))
    (flag_rule (codes "lossy"))

-- the same, where to write to, and the pages
abbrev pub with_pages : ArgAction → App → App
with_pages action command = with_rule (with_rule (with_reading command) output_rule) (pages_rule action)

-- what is printed of elements
abbrev pub with_shows : App → App
with_shows command = with_rule (with_rule (with_rule (with_rule command (flag_rule (codes "text"))) (option_rule (codes "attr")))
    (flag_rule (codes "count"))) (flag_rule (codes "json"))

-- how links are printed
abbrev pub with_listing : App → App
with_listing command = with_rule (with_rule (with_rule (with_rule command (option_rule (codes "base"))) (flag_rule (codes "anchors")))
    (flag_rule (codes "kind"))) (flag_rule (codes "json"))

-- whether the names of files are
abbrev pub with_naming : App → App
with_naming command = with_rule (with_rule (with_rule (on_top (λ s. record s { disable_help_flag = true }) command) with_names_rule)
    without_names_rule) long_help_rule

-- which policy pages are cleaned by, and how they are read
abbrev pub with_policy : App → App
with_policy command = with_rule (with_rule (with_rule (with_rule command (option_rule (codes "policy")))
    (option_rule (codes "print-policy"))) (flag_rule (codes "document"))) (option_rule (codes "table"))

-- what is kept and added beside what the policy says
abbrev pub with_extras : App → App
with_extras command = with_rule (with_rule (with_rule (with_rule (with_rule command (several_rule (codes "element")))
    (several_rule (codes "attribute"))) (several_rule (codes "beginning"))) (several_rule (codes "add"))) (several_rule (codes "scheme"))

-- COMMANDS

abbrev pub pages_command : Text → ArgAction → App
pages_command name action = with_pages action (new_app name)

unfoldable pub tree_command : App
tree_command = with_rule (pages_command (codes "tree") Set) (option_rule (codes "fragment"))

unfoldable pub select_command : App
select_command = with_pages Append (with_shows (with_rule (new_app (codes "select")) selector_rule))

unfoldable pub links_command : App
links_command = with_naming (with_listing (pages_command (codes "links") Append))

unfoldable pub clean_command : App
clean_command = with_rule (with_rule (with_extras (with_policy (new_app (codes "clean")))) output_rule) (pages_rule Append)

-- the program with no command
abbrev pub program : App
program = on_top (λ s. record s { propagate_version = true; has_version = true; subcommand_required = true }) (new_app (codes "figpliers"))

-- `markdown`, `text` and `check`, which have no options of their own
abbrev pub with_plain : App → App
with_plain command = with_subcommand (with_subcommand (with_subcommand command (pages_command (codes "markdown") Append).top)
    (pages_command (codes "text") Append).top) (pages_command (codes "check") Append).top

-- the program
unfoldable pub figpliers : App
figpliers = with_subcommand (with_subcommand (with_subcommand (with_plain (with_subcommand (with_subcommand (with_subcommand program
    (pages_command (codes "errors") Append).top) tree_command.top) links_command.top)) select_command.top)
    (pages_command (codes "normal") Append).top) clean_command.top
