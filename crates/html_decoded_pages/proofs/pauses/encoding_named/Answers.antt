use Rattle.std.proofs.Common.{◌∙◌, ap, sym, encode_utf8_all}
use Rattle.std.proofs.lemmas.Str.{encodes-chars}
use Rattle.html_encodings.specs.Labels.{label_encoding}
use Rattle.html_decoded_pages.proofs.pauses.encoding_named.Goals as goal

pub returns : goal.returns
returns c =
    c.encoding_of_label.ensures
    ∙ ap label_encoding (c.as_bytes.ensures.value
    ∙ sym (ap encode_utf8_all (sym c.as_str.ensures) ∙ encodes-chars c.as_str.result.now c.as_str.utf8))
