use Rattle.std.proofs.Common.{◌≡◌, ◌∙◌, List, ℕ, ◌++◌, ap}
use Rattle.std.specs.Str.{chars}
use Rattle.markup.specs.Namespaces.{known_namespace}
use Rattle.html_extracts.specs.Lines.{word_of}
use Rattle.html_extracts.proofs.Spelled.{chars-word}
use Rattle.html_extracts.proofs.lines.shown_name.Goals as goal

pub returns-clause-ok : goal.returns-clause-ok
returns-clause-ok c =
    let word : c.in-Ok.shown ≡ word_of (known_namespace c.args.name.now.ns) = c.in-Ok.ensures.ok
    ∙ (ap chars c.word_of.ensures ∙ (chars-word _ ∙ ap word_of c.known.ensures)) in
    c.in-Ok-push_str.ensures.ok ∙ (ap (λ (t : List ℕ). c.in-Ok.shown ++ t) c.as_str.ensures
    ∙ ap (λ (t : List ℕ). t ++ c.args.name.now.local) word)
