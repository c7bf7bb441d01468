use Rattle.std.proofs.Common.{◌≡◌, ◌∙◌, false, [], ap, refl}
use Rattle.std.specs.List.{list_any}
use Rattle.std.specs.Str.{bytes_eq, chars}
use Rattle.std.proofs.lemmas.Str.{chars-nil}
use Rattle.markup.specs.KnownNames.{names}
use Rattle.markup.proofs.name_form.NameForm.empty.Goals as goal

-- the empty text is no known name
empty_name : list_any (bytes_eq []) names ≡ false
unfolding names
empty_name = refl

pub returns-clause-characters : goal.returns-clause-characters
returns-clause-characters c = ap chars c.new.ensures ∙ chars-nil

pub returns-clause-placed : goal.returns-clause-placed
returns-clause-placed c =
    ap (λ name. list_any (bytes_eq name) names) (ap chars c.new.ensures ∙ chars-nil) ∙ empty_name
