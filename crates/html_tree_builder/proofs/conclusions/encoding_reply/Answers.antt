use Rattle.html_tree_builder.proofs.conclusions.encoding_reply.Goals as goal

pub returns-in-None-clause-fault : goal.returns-in-None-clause-fault
returns-in-None-clause-fault g c = tt
