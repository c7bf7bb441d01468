use Rattle.std.proofs.Common.{◌∙◌, ap, sym}
use Rattle.std.specs.Prelude.{encode_utf8_all}
use Rattle.std.proofs.lemmas.Str.{encodes-chars}
use Rattle.html_clean_program.proofs.telling.put_text.Goals as goal

pub returns : goal.returns
returns g c = record {
  put = rw (ap encode_utf8_all (sym c.as_str.ensures) ∙ encodes-chars c.as_str.result.now c.as_str.utf8) c.put.ensures.put;
}
