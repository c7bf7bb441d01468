use Rattle.std.proofs.Common.{◌∙◌, ap, refl, sym}
use Rattle.std.specs.Option.{option_copied}
use Rattle.html_faithful_judge.proofs.Contexts.{below-fewer, below-none, below-same}
use Rattle.html_faithful_judge.proofs.open.kept_below.Goals as goal

pub returns-then-kept-below-clause-kept : goal.returns-then-kept-below-clause-kept
returns-then-kept-below-clause-kept c xs e at =
    below-fewer xs c.args.contexts.now c.in-Some.kept.now _ e (sym c.last.ensures.value ∙ ap option_copied c.in-Some.is)
    (c.if-kept-below.true ∙ at) refl

pub returns-else-kept-below-clause-kept : goal.returns-else-kept-below-clause-kept
returns-else-kept-below-clause-kept c xs e at =
    below-same xs c.args.contexts.now c.in-Some.kept.now _ e (sym c.last.ensures.value ∙ ap option_copied c.in-Some.is)
    (λ same. c.if-kept-below.false (same ∙ sym at)) refl

pub returns-in-None-clause-kept : goal.returns-in-None-clause-kept
returns-in-None-clause-kept c xs e at =
    below-none xs c.args.contexts.now e (sym c.last.ensures.value ∙ ap option_copied c.in-None.is)
