use Rattle.std.proofs.Common.{refl}
use Rattle.html_names.proofs.FirstBytes.{is-empty, is-nonempty, no-text, value-some}
use Rattle.html_names.proofs.encodings.unquoted_value.Goals as goal

pub returns-then-is_empty : goal.returns-then-is_empty
returns-then-is_empty c = rw (no-text c.args.text.now (is-empty _ _ c.is_empty.ensures c.if-is_empty.true)) refl

pub returns-else-is_empty : goal.returns-else-is_empty
returns-else-is_empty c = rw c.up_to_value_end.ensures
    (value-some c.args.text.now c.utf8.text (is-nonempty _ _ c.is_empty.ensures c.if-is_empty.false))
