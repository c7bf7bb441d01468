use Rattle.std.proofs.Common.{Vec, ℕ, ◌∙◌, ap, encode_utf8_all, sym}
use Rattle.std.proofs.lemmas.Str.{IsUtf8-string_bytes, encodes-chars}
use Rattle.std.specs.Global.{Global}
use Rattle.std.specs.String.{string_bytes}
use Rattle.html_ffi.proofs.image.text_of.Goals as goal

pub returns-in-Ok-clause-ok : goal.returns-in-Ok-clause-ok
returns-in-Ok-clause-ok c =
    ap (λ (v : Vec ℕ Global). v.items) c.into_bytes.ensures.value
    ∙ sym (encodes-chars (string_bytes c.in-Ok.text) (IsUtf8-string_bytes c.in-Ok.text))
    ∙ ap encode_utf8_all c.in-Ok.ensures.ok
