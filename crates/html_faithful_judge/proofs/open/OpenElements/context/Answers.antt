use Rattle.std.proofs.Common.{◌∙◌, ap}
use Rattle.html_stack.specs.Stacks.{Stacked}
use Rattle.html_faithful_judge.specs.Contexts.{kept_of}
use Rattle.html_faithful_judge.proofs.open.OpenElements.context.Goals as goal

pub returns : goal.returns
returns c =
    c.context_in.ensures c.args.self.now.open_elems
    (c.as_slice.ensures.value ∙ (c.self.invariant ∙ ap (λ (s : Stacked). kept_of s.open_elems) c.self.view_is))
