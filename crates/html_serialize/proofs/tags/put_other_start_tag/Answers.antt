use Rattle.std.proofs.Common.{◌∙◌, [], ◌++◌, sym, append_assoc, encode_utf8_all}
use Rattle.std.specs.Prelude.{codes}
use Rattle.markup.specs.Escape.{written_attributes}
use Rattle.html_serialize.proofs.Putting.{Puts-behind, Puts-failed, with_bytes-none, with_bytes-then}
use Rattle.html_serialize.proofs.TagBytes.{bytes-chars, start_tag-bytes}
use Rattle.html_serialize.proofs.tags.put_other_start_tag.Goals as goal

pub returns-in_err-put_three-clause-puts : goal.returns-in_err-put_three-clause-puts
returns-in_err-put_three-clause-puts g c =
    let whole = start_tag-bytes c.args.name.now.local c.args.attrs.now c.as_str.result.now
    (bytes-chars c.as_str.result.now _ c.as_str.utf8 c.as_str.ensures) in
    Puts-failed _ _ _ [] _ (encode_utf8_all (written_attributes c.args.attrs.now) ++ codes ">") _ _ _
    c.from_residual.ensures.1 (with_bytes-none _) c.in_err-put_three.ensures.puts whole

pub returns-in_err-put_attributes-clause-puts : goal.returns-in_err-put_attributes-clause-puts
returns-in_err-put_attributes-clause-puts g c =
    let whole = start_tag-bytes c.args.name.now.local c.args.attrs.now c.as_str.result.now
    (bytes-chars c.as_str.result.now _ c.as_str.utf8 c.as_str.ensures) in
    Puts-failed _ _ _ (codes "<" ++ (c.as_str.result.now ++ []))
    (encode_utf8_all (written_attributes c.args.attrs.now)) (codes ">") _ _ _
    c.from_residual-in_err-put_attributes.ensures.1 c.in_ok-put_three.ensures.puts c.in_err-put_attributes.ensures.puts whole

pub returns-clause-puts : goal.returns-clause-puts
returns-clause-puts g c =
    let front = codes "<" ++ (c.as_str.result.now ++ []) in
    let attributes = encode_utf8_all (written_attributes c.args.attrs.now) in
    let whole = start_tag-bytes c.args.name.now.local c.args.attrs.now c.as_str.result.now
    (bytes-chars c.as_str.result.now _ c.as_str.utf8 c.as_str.ensures) in
    rw (whole ∙ sym (append_assoc front attributes (codes ">")))
    (Puts-behind _ _ _ (front ++ attributes) (codes ">") c.put.result
    (with_bytes-then _ _ _ front attributes c.in_ok-put_three.ensures.puts c.in_ok-put_attributes.ensures.puts) c.put.ensures.puts)
