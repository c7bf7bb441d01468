use Rattle.std.proofs.Common.{rules}
use Rattle.markup.proofs.serializer.TraversalScope.copy.Goals as goal

pub returns-in-IncludeNode-clause-ok : goal.returns-in-IncludeNode-clause-ok
returns-in-IncludeNode-clause-ok c = search rules

pub returns-in-IncludeNode-clause-fault : goal.returns-in-IncludeNode-clause-fault
returns-in-IncludeNode-clause-fault c = search rules

pub returns-in-ChildrenOnly-None-clause-ok : goal.returns-in-ChildrenOnly-None-clause-ok
returns-in-ChildrenOnly-None-clause-ok c = search rules

pub returns-in-ChildrenOnly-None-clause-fault : goal.returns-in-ChildrenOnly-None-clause-fault
returns-in-ChildrenOnly-None-clause-fault c = search rules
