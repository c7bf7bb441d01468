use Rattle.std.proofs.Common.{◌≡◌, ◌<◌, false, length, subst, Option}
use Rattle.std.specs.List.{list_any}
use Rattle.std.specs.Str.{bytes_eq}
use Rattle.markup.specs.KnownNames.{IsNameAt, names}
use Rattle.markup.specs.declared.known_names.KnownName.{KnownName}
use Rattle.html_names.specs.Classes.{IsKnownAs}
use Rattle.html_names.specs.ElementNames.{FitsForm}
use Rattle.html_names.specs.declared.element_class.ElementNamespace.TheVariants.{Html}
use Rattle.html_names.specs.declared.element_name.NameForm.{NameForm}
use Rattle.html_names.proofs.HeldNames.{named-known, named-unknown}
use Rattle.html_names.proofs.element_name.is_same.Goals as goal

pub returns-in-Known-Some : goal.returns-in-Known-Some
returns-in-Known-Some c =
    let within : c.in-Known-Some.own.place < length names = subst (λ (f : NameForm). FitsForm Html f)
    c.in-Known-Some.is-0 c.requires.fits in
    let at : IsNameAt c.in-Known-Some.other.place c.args.name.now =
    subst (λ (k : Option KnownName). IsKnownAs k c.args.name.now) c.in-Known-Some.is-1 c.requires.of.known in
    rw c.in-Known-Some.is-0 (named-known c.in-Known-Some.own.place c.in-Known-Some.other.place c.args.name.now within at)

pub returns-in-Known-None : goal.returns-in-Known-None
returns-in-Known-None c =
    let within : c.in-Known-None.field-0-0.place < length names = subst (λ (f : NameForm). FitsForm Html f)
    c.in-Known-None.is-0 c.requires.fits in
    let unknown : list_any (bytes_eq c.args.name.now) names ≡ false =
    subst (λ (k : Option KnownName). IsKnownAs k c.args.name.now) c.in-Known-None.is-1 c.requires.of.known in
    rw c.in-Known-None.is-0 (named-unknown c.in-Known-None.field-0-0.place c.args.name.now within unknown)
