use Rattle.std.proofs.Common.{refl}
use Rattle.markup.specs.Names.{html_namespace}
use Rattle.markup.specs.Namespaces.{known_namespace, name_of}
use Rattle.markup.specs.Trees.{trees_within, written}
use Rattle.markup.proofs.written_rows.written_rows.Goals as goal

pub returns : goal.returns
unfolding written trees_within known_namespace name_of html_namespace
returns c = refl
