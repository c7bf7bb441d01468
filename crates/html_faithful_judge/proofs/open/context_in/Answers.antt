use Rattle.std.proofs.Common.{◌∙◌, ap}
use Rattle.std.specs.Option.{option_copied}
use Rattle.html_faithful_judge.proofs.Contexts.{last-read, none-read}
use Rattle.html_faithful_judge.proofs.open.context_in.Goals as goal

pub returns-in-Some : goal.returns-in-Some
returns-in-Some c xs e =
    (last-read xs c.args.contexts.now _ e c.last.ensures.value c.in-Some.kept.now (ap option_copied c.in-Some.is)).context

pub returns-in-None : goal.returns-in-None
returns-in-None c xs e =
    c.new.ensures ∙ none-read xs c.args.contexts.now _ e c.last.ensures.value (ap option_copied c.in-None.is)
