use Rattle.std.proofs.Common.{subst, sym}
use Rattle.markup.specs.Namespaces.{name_of}
use Rattle.markup.specs.declared.namespaces.KnownNamespace.TheVariants.{Html}
use Rattle.html_selectors.specs.Kinds.{IsNoted}
use Rattle.html_selectors.proofs.kinds.no_notes.Goals as goal

pub returns-clause-ok : goal.returns-clause-ok
returns-clause-ok c = λ look place name there.
    subst (λ k. IsNoted k (look (name, name_of Html))) (sym (c.in_ok-notes.ensures.none place)) tt
