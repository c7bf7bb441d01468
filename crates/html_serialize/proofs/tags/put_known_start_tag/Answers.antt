use Rattle.std.proofs.Common.{◌++◌, refl, sym, append_assoc, encode_utf8_all}
use Rattle.std.specs.Prelude.{codes}
use Rattle.markup.specs.Escape.{written_attributes}
use Rattle.html_serialize.specs.KnownTags.{front_of}
use Rattle.html_serialize.proofs.Putting.{Puts-behind, Puts-failed, with_bytes-then}
use Rattle.html_serialize.proofs.tags.put_known_start_tag.Goals as goal

pub returns-in_err-put_attributes-clause-puts : goal.returns-in_err-put_attributes-clause-puts
returns-in_err-put_attributes-clause-puts g c =
    Puts-failed _ _ _ (front_of c.args.bare.now) (encode_utf8_all (written_attributes c.args.attrs.now))
    (codes ">") _ _ _ c.from_residual-in_err-put_attributes.ensures.1 c.in_ok-put.ensures.puts c.in_err-put_attributes.ensures.puts refl

pub returns-clause-puts : goal.returns-clause-puts
returns-clause-puts g c =
    let front = front_of c.args.bare.now in
    let attributes = encode_utf8_all (written_attributes c.args.attrs.now) in
    rw (sym (append_assoc front attributes (codes ">")))
    (Puts-behind _ _ _ (front ++ attributes) (codes ">") c.put-3.result
    (with_bytes-then _ _ _ front attributes c.in_ok-put.ensures.puts c.in_ok-put_attributes.ensures.puts) c.put-3.ensures.puts)
