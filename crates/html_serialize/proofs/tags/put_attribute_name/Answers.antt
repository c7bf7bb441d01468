use Rattle.std.proofs.Common.{[], ◌++◌}
use Rattle.std.specs.Prelude.{codes}
use Rattle.html_serialize.proofs.Putting.{Puts-behind, Puts-failed, with_bytes-none}
use Rattle.html_serialize.proofs.TagBytes.{before_value-bytes, bytes-chars}
use Rattle.html_serialize.proofs.tags.put_attribute_name.Goals as goal

pub returns-in_err-put_three-in-None-clause-puts : goal.returns-in_err-put_three-in-None-clause-puts
returns-in_err-put_three-in-None-clause-puts g c =
    let whole = before_value-bytes c.args.name.now c.prefix.result.now c.as_str.result.now c.prefix.ensures
    (bytes-chars c.as_str.result.now _ c.as_str.utf8 c.as_str.ensures) in
    Puts-failed _ _ _ [] _ (codes "=\"") _ _ _ c.from_residual.ensures.1 (with_bytes-none _) c.in_err-put_three-in-None.ensures.puts whole

pub returns-in_ok-put_three-in-None-clause-puts : goal.returns-in_ok-put_three-in-None-clause-puts
returns-in_ok-put_three-in-None-clause-puts g c =
    let whole = before_value-bytes c.args.name.now c.prefix.result.now c.as_str.result.now c.prefix.ensures
    (bytes-chars c.as_str.result.now _ c.as_str.utf8 c.as_str.ensures) in
    rw whole (Puts-behind _ _ _ (codes " " ++ (c.prefix.result.now ++ c.as_str.result.now))
    (codes "=\"") c.put-in-None.result c.in_ok-put_three-in-None.ensures.puts c.put-in-None.ensures.puts)
