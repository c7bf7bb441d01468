use Rattle.std.proofs.Common.{◌∙◌}
use Rattle.clap.specs.Matches.{found_of}
use Rattle.clap.specs.declared.parser.matches.ValueSource.TheVariants.{CommandLine, DefaultValue}
use Rattle.figpliers_program.proofs.Given.{given, given-by}
use Rattle.figpliers_program.proofs.command.is_given.Goals as goal

pub returns-in-Some-DefaultValue : goal.returns-in-Some-DefaultValue
returns-in-Some-DefaultValue c = given-by (found_of c.args.matches.now) c.args.name.now DefaultValue
    (rw c.in-Some-DefaultValue.field-0-is at c.in-Some-DefaultValue.ensures)

pub returns-in-Some-CommandLine : goal.returns-in-Some-CommandLine
returns-in-Some-CommandLine c = given-by (found_of c.args.matches.now) c.args.name.now CommandLine
    (rw c.in-Some-CommandLine.field-0-is at c.in-Some-CommandLine.ensures)

pub returns-in-None : goal.returns-in-None
returns-in-None c = c.contains_id.ensures ∙ given (found_of c.args.matches.now) c.args.name.now c.in-None.ensures
