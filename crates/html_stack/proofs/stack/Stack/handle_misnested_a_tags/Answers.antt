use Rattle.std.proofs.Common.{◌∙◌, codes, refl}
use Rattle.markup.proofs.Plain.{chars-plain}
use Rattle.html_stack.proofs.stack.Stack.handle_misnested_a_tags.Goals as goal

pub end_misnested_a-requires-clause-name : goal.end_misnested_a-requires-clause-name
end_misnested_a-requires-clause-name g c = c.in_ok-name.ensures.ok ∙ chars-plain (codes "a") refl
