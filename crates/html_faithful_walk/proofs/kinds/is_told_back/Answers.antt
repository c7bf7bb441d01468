use Rattle.html_faithful.specs.Forms.{is_attribute_name}
use Rattle.std.proofs.Common.{ap, ◌≡◌, ◌∙◌, ◌≤◌, ◌<◌, false, length, arith, sym}
use Rattle.markup.specs.KnownNames.{IsNameAt, names}
use Rattle.markup.specs.Trees.{is_among}
use Rattle.html_faithful_walk.proofs.KindRows.{told-other, told_row, told_there}
use Rattle.html_faithful_walk.proofs.kinds.is_told_back.Goals as goal

pub returns-in-Some-get : goal.returns-in-Some-get
returns-in-Some-get c =
    let at : IsNameAt c.in-Some.known.place c.args.name.now = rw c.in-Some.is at c.known.ensures.found in
    rw (c.in-Some-get.ensures.lookup.3.1 false, c.told_back.ensures) (told_row c.in-Some.known.place c.args.name.now at)

pub returns-in-None-get : goal.returns-in-None-get
returns-in-None-get c =
    let at : IsNameAt c.in-Some.known.place c.args.name.now = rw c.in-Some.is at c.known.ensures.found in
    let past : length c.told_back.result.now ≤ c.in-Some.known.place = grind arith in
    let there : c.in-Some.known.place < length c.told_back.result.now =
    rw c.told_back.ensures (told_there c.in-Some.known.place c.args.name.now at) in
    absurd (omega arith)

pub returns-in-None : goal.returns-in-None
returns-in-None c =
    let none : is_among c.args.name.now names ≡ false = rw c.in-None.is at c.known.ensures.missing in
    c.is_attribute_name.ensures ∙ (ap is_attribute_name c.as_str.ensures ∙ sym (told-other c.args.name.now none))
