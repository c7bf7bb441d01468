use Rattle.std.proofs.Common.{◌≤◌, ◌<◌, [], length, arith, encode_utf8_all}
use Rattle.html_serialize.specs.KnownTags.{attributes, before_value}
use Rattle.html_serialize.proofs.KnownTags.{fronts, text_row, text_there}
use Rattle.html_serialize.proofs.names.attribute.Goals as goal

pub returns-in-Some : goal.returns-in-Some
returns-in-Some c = λ name at. text_row c.attributes.result.now attributes
    (λ text. encode_utf8_all (before_value [] text)) c.args.known.place name c.in-Some.text.now c.attributes.ensures
    fronts at c.in-Some.ensures.lookup.3.1

pub returns-in-None : goal.returns-in-None
returns-in-None c = λ name at.
    let past : length c.attributes.result.now ≤ c.args.known.place = grind arith in
    let there = text_there c.attributes.result.now attributes (λ text. encode_utf8_all (before_value [] text))
    c.args.known.place name c.attributes.ensures fronts at in
    absurd (omega arith)
