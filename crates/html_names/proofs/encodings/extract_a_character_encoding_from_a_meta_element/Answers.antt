use Rattle.std.proofs.Common.{◌≡◌, ◌∙◌, ap}
use Rattle.std.specs.Str.{chars}
use Rattle.html_rules.specs.Encodings.{encoding_at, encoding_of}
use Rattle.html_names.proofs.FirstBytes.{encoding-end, found, further}
use Rattle.html_names.proofs.encodings.extract_a_character_encoding_from_a_meta_element.Goals as goal

pub returns-in-Some-after_charset : goal.returns-in-Some-after_charset
returns-in-Some-after_charset c =
    let value : encoding_of (chars c.args.content.now) ≡ encoding_at (chars c.in-Some-after_charset.value.now) =
    c.loop-further.invariant.same ∙ found c.loop-further.rest.now c.in-Some.further.now
    (chars c.in-Some-after_charset.value.now) c.in-Some.ensures c.in-Some-after_charset.ensures in
    rw value c.encoding_at.ensures

pub loop-further-preserved : goal.loop-further-preserved
loop-further-preserved c =
    record {
      same = c.loop-further.invariant.same ∙ further c.loop-further.rest.now c.in-Some.further.now
          c.in-Some.ensures c.in_default-after_charset.ensures;
      text = c.in-Some.ensures.text;
    }

pub returns : goal.returns
returns c = c.loop-further.invariant.same ∙ (ap encoding_of c.in_default.ensures ∙ encoding-end)
