use Rattle.std.proofs.Common.{refl}
use Rattle.clap.proofs.OnLiterals.{clap_on_literals}
use Rattle.figpliers_program.specs.CommandLine.{clean_command, figpliers, links_command, select_command, tree_command}
use Rattle.figpliers_program.proofs.rows.found_rows.Goals as goal

pub returns : goal.returns
unfolding clap_on_literals clean_command figpliers links_command select_command tree_command
returns c = refl
