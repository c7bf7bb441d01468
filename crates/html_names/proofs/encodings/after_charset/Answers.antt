use Rattle.std.proofs.Common.{◌≡◌, ◌∙◌, sym, refl, true}
use Rattle.std.specs.Prelude.{codes}
use Rattle.std.specs.Str.{chars}
use Rattle.html_tokens.specs.Characters.{begins_any_case}
use Rattle.html_names.proofs.FirstBytes.{BeginsWord-begins, charset-begins}
use Rattle.html_names.proofs.encodings.after_charset.Goals as goal

pub range_from-requires : goal.range_from-requires
range_from-requires c =
    let begun : begins_any_case (codes "charset") (chars c.args.text.now) ≡ true = sym c.begins.ensures ∙ c.if-not-begins.false in
    λ _. (BeginsWord-begins (codes "charset") c.args.text.now c.utf8.text refl begun).cut

pub returns : goal.returns
returns c =
    let begun : begins_any_case (codes "charset") (chars c.args.text.now) ≡ true = sym c.begins.ensures ∙ c.if-not-begins.false in
    let rest = (BeginsWord-begins (codes "charset") c.args.text.now c.utf8.text refl begun).rest in
    rw (charset-begins (chars c.args.text.now) begun, ← rest, ← c.range_from.ensures.value, ← c.after_space.ensures) c.after_equals.ensures
