use Rattle.std.proofs.Common.{refl}
use Rattle.std.specs.Str.{chars}
use Rattle.markup.specs.Names.{html_namespace}
use Rattle.markup.specs.Namespaces.{name_of}
use Rattle.html_clean_document.proofs.whole.div.Goals as goal

pub returns : goal.returns
unfolding chars html_namespace name_of
returns c = record { ok = rw (c.new.ensures, c.from_known.ensures, c.in_ok-local.ensures.ok) refl }
