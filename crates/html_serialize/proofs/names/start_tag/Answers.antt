use Rattle.std.proofs.Common.{◌≤◌, ◌<◌, [], length, arith}
use Rattle.html_serialize.specs.KnownTags.{bare_tag, start_tags}
use Rattle.html_serialize.proofs.KnownTags.{name-plain, starts, text_row, text_there}
use Rattle.html_serialize.proofs.names.start_tag.Goals as goal

pub returns-in-Some : goal.returns-in-Some
returns-in-Some c = λ name at. (
  text_row c.start_tags.result.now start_tags bare_tag c.args.known.place name c.in-Some.tag.now
      c.start_tags.ensures starts at c.in-Some.ensures.lookup.3.1,
  name-plain c.args.known.place name at,
)

pub returns-in-None : goal.returns-in-None
returns-in-None c = λ name at.
    let past : length c.start_tags.result.now ≤ c.args.known.place = grind arith in
    let there = text_there c.start_tags.result.now start_tags bare_tag c.args.known.place name c.start_tags.ensures starts at in
    absurd (omega arith)
