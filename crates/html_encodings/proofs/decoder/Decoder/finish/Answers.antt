use Rattle.std.proofs.Common.{length, ap}
use Rattle.std.proofs.lemmas.Str.{IsUtf8-string_bytes}
use Rattle.std.specs.String.{string_bytes}
use Rattle.html_encodings.proofs.Readings.{cut}
use Rattle.html_encodings.proofs.decoder.Decoder.finish.Goals as goal

pub truncate-requires : goal.truncate-requires
truncate-requires g c _ =
    cut (string_bytes c.args.text.now) _ _ c.in-Err.ensures.err
    (IsUtf8-string_bytes c.args.text.now) (IsUtf8-string_bytes c.put_all.new.text) (ap length c.as_str-length.ensures.value)
