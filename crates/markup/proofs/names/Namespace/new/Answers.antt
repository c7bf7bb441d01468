use Rattle.std.proofs.Common.{◌∙◌, ap, sym}
use Rattle.std.specs.Str.{chars}
use Rattle.markup.specs.Namespaces.{name-known}
use Rattle.markup.proofs.names.Namespace.new.Goals as goal

pub returns-in-Some : goal.returns-in-Some
returns-in-Some c =
    c.from_known.ensures ∙ sym (name-known _ c.in-Some.known (sym c.in-Some.ensures)) ∙ ap chars c.as_str.ensures.value
