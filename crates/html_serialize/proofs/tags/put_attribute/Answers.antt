use Rattle.std.proofs.Common.{◌∙◌, [], ◌++◌, sym, append_assoc, encode_utf8_all}
use Rattle.std.specs.Prelude.{codes}
use Rattle.markup.specs.Escape.{escape_value}
use Rattle.html_serialize.specs.KnownTags.{attribute_front}
use Rattle.html_serialize.proofs.Putting.{Puts-behind, Puts-failed, with_bytes-none, with_bytes-then}
use Rattle.html_serialize.proofs.TagBytes.{attribute-bytes}
use Rattle.html_serialize.proofs.tags.put_attribute.Goals as goal

pub returns-in_err-put_attribute_name-clause-puts : goal.returns-in_err-put_attribute_name-clause-puts
returns-in_err-put_attribute_name-clause-puts g c =
    let attribute = c.args.attribute.now in
    Puts-failed _ _ _ [] (attribute_front attribute.name) (encode_utf8_all (escape_value attribute.value)
    ++ codes "\"") _ _ _ c.from_residual.ensures.1 (with_bytes-none _)
    c.in_err-put_attribute_name.ensures.puts (attribute-bytes attribute)

pub returns-in_err-put_escaped-clause-puts : goal.returns-in_err-put_escaped-clause-puts
returns-in_err-put_escaped-clause-puts g c =
    let attribute = c.args.attribute.now in
    let puts = rw c.as_str.ensures at c.in_err-put_escaped.ensures.puts in
    Puts-failed _ _ _ (attribute_front attribute.name) (encode_utf8_all (escape_value attribute.value))
    (codes "\"") _ _ _ c.from_residual-in_err-put_escaped.ensures.1 c.in_ok-put_attribute_name.ensures.puts puts
    (attribute-bytes attribute)

pub returns-clause-puts : goal.returns-clause-puts
returns-clause-puts g c =
    let attribute = c.args.attribute.now in
    let front = attribute_front attribute.name in
    let value = encode_utf8_all (escape_value attribute.value) in
    let puts = rw c.as_str.ensures at c.in_ok-put_escaped.ensures.puts in
    rw (attribute-bytes attribute ∙ sym (append_assoc front value (codes "\"")))
    (Puts-behind _ _ _ (front ++ value) (codes "\"") c.put.result
    (with_bytes-then _ _ _ front value c.in_ok-put_attribute_name.ensures.puts puts) c.put.ensures.puts)
