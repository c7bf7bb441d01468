use Rattle.std.proofs.Common.{rules}
use Rattle.html_names.proofs.renames.adjust_tag_name.Goals as goal

pub returns-in-Svg-clause-ok : goal.returns-in-Svg-clause-ok
returns-in-Svg-clause-ok c = search rules

pub returns-in-Svg-clause-fault : goal.returns-in-Svg-clause-fault
returns-in-Svg-clause-fault c = search rules

pub returns-in_default : goal.returns-in_default
returns-in_default c = search rules
