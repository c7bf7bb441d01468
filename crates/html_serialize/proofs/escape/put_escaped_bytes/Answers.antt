use Rattle.html_serialize.specs.Bytes.{mode_of}
use Rattle.html_serialize.proofs.EscapedBytes.{escape_bytes-clear}
use Rattle.html_serialize.proofs.escape.put_escaped_bytes.Goals as goal

pub returns-then-first-bytes-clause-puts : goal.returns-then-first-bytes-clause-puts
returns-then-first-bytes-clause-puts g c =
    rw (escape_bytes-clear (mode_of c.args.escaping) c.args.bytes.now c.first_escaped-first.result c.if-first-bytes.true
    c.first_escaped-first.ensures) c.put.ensures.puts
