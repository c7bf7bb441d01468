use Rattle.std.proofs.Common.{get_or, refl, []}
use Rattle.markup.specs.KnownNames.{names}
use Rattle.html_names.proofs.SameNames.{known-same}
use Rattle.html_names.proofs.element_name.ElementName.is_known.Goals as goal

pub returns-in-Some : goal.returns-in-Some
returns-in-Some c =
    rw c.in-Some.ensures.found.0
    (known-same c.in-Some.own.place c.args.known.place c.args.self.now.name (get_or names c.args.known.place [])
    c.in-Some.ensures.found.1 (record { within = c.requires; there = refl }))
