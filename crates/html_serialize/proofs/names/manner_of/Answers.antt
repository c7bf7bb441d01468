use Rattle.std.proofs.Common.{◌≡◌, ◌≤◌, ◌<◌, false, length, get_or, arith}
use Rattle.markup.specs.KnownNames.{IsNameAt, names}
use Rattle.markup.specs.Trees.{is_among}
use Rattle.html_serialize.specs.KnownTags.{manners}
use Rattle.html_serialize.specs.declared.names.Manner.TheVariants.{Usual}
use Rattle.html_serialize.proofs.KnownTags.{manner_other, manner_row, manner_there}
use Rattle.html_serialize.proofs.names.manner_of.Goals as goal

pub returns-in-Some-get : goal.returns-in-Some-get
returns-in-Some-get c = λ name is.
    let at : IsNameAt c.in-Some.known.place name = rw c.in-Some.is at is.found in
    rw (c.in-Some-get.ensures.lookup.3.1 Usual, c.manners.ensures) (manner_row c.in-Some.known.place name at)

pub returns-in-None-get : goal.returns-in-None-get
returns-in-None-get c = λ name is.
    let at : IsNameAt c.in-Some.known.place name = rw c.in-Some.is at is.found in
    let past : length c.manners.result.now ≤ c.in-Some.known.place = grind arith in
    let there : c.in-Some.known.place < length c.manners.result.now = rw c.manners.ensures (manner_there c.in-Some.known.place name at) in
    absurd (omega arith)

pub returns-in-None : goal.returns-in-None
returns-in-None c = λ name is.
    let none : is_among name names ≡ false = rw c.in-None.is at is.missing in
    manner_other name none
