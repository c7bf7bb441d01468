use Rattle.std.proofs.Common.{◌≤◌, ◌<◌, [], length, arith, encode_utf8_all}
use Rattle.markup.specs.Escape.{end_tag}
use Rattle.html_serialize.specs.KnownTags.{end_tags}
use Rattle.html_serialize.proofs.KnownTags.{ends, text_row, text_there}
use Rattle.html_serialize.proofs.names.end_tag.Goals as goal

pub returns-in-Some : goal.returns-in-Some
returns-in-Some c = λ name at. text_row c.end_tags.result.now end_tags (λ text. encode_utf8_all (end_tag text))
    c.args.known.place name c.in-Some.tag.now c.end_tags.ensures ends at c.in-Some.ensures.lookup.3.1

pub returns-in-None : goal.returns-in-None
returns-in-None c = λ name at.
    let past : length c.end_tags.result.now ≤ c.args.known.place = grind arith in
    let there = text_there c.end_tags.result.now end_tags (λ text. encode_utf8_all (end_tag text))
    c.args.known.place name c.end_tags.ensures ends at in
    absurd (omega arith)
