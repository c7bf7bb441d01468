use Rattle.std.proofs.Common.{◌∙◌, ap, sym}
use Rattle.std.specs.Str.{bytes_eq}
use Rattle.markup.specs.Namespaces.{name-known}
use Rattle.markup.proofs.names.NamespacePartialEq.eq.Goals as goal

pub returns-in-Some : goal.returns-in-Some
returns-in-Some c =
    c.is_known.ensures ∙ ap (bytes_eq c.args.self.now) (sym (name-known c.args.other.now c.in-Some.known (sym c.in-Some.ensures)))
