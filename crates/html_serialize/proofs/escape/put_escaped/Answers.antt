use Rattle.std.proofs.Common.{◌≡◌, ◌∙◌, ap, sym, false, encode_utf8_all}
use Rattle.std.proofs.lemmas.Str.{encodes-chars}
use Rattle.std.specs.Str.{chars}
use Rattle.markup.specs.Escape.{escape_in}
use Rattle.html_serialize.specs.Bytes.{escape_bytes, mode_of}
use Rattle.html_serialize.proofs.EscapedBytes.{escape_bytes-encodes}
use Rattle.html_serialize.proofs.escape.put_escaped.Goals as goal

pub returns-clause-puts : goal.returns-clause-puts
returns-clause-puts g c =
    let mode = mode_of c.args.escaping in
    let same : escape_bytes mode false c.as_bytes.result.now ≡ encode_utf8_all (escape_in mode (chars c.args.text.now)) =
    ap (escape_bytes mode false) (c.as_bytes.ensures.value ∙ sym (encodes-chars c.args.text.now c.utf8.text))
    ∙ escape_bytes-encodes mode (chars c.args.text.now) in
    rw (← same) c.put_escaped_bytes.ensures.puts
