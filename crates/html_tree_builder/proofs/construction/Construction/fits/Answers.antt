use Rattle.std.proofs.Common.{rules}
use Rattle.html_tree_builder.proofs.construction.Construction.fits.Goals as goal

pub returns-then-fits : goal.returns-then-fits
returns-then-fits g c = search rules

pub returns-else-fits : goal.returns-else-fits
returns-else-fits g c = search rules
