-- The text of an input.
use Rattle.std.specs.Prelude.{◌≡◌, ℕ, ◌-◌, ◌^◌, min, List, encode_utf8_all}
use Rattle.std.specs.String.{string_bytes}
use Rattle.html_encodings.specs.Handlers.{error_count}
use Rattle.html_encodings.specs.Decoders.{decoding}
use Rattle.html_encodings.specs.declared.names.Encoding.{Encoding}
use Rattle.html_encodings.specs.declared.decoded.Decoded.{Decoded}
use Rattle.html_encodings_multibyte.specs.Every.{every_step, every_end, every_start, decoded}

-- the text that bytes are in an encoding, with the number of its errors
pub record IsText (encoding : Encoding) (bytes : List ℕ) (whole : Decoded) : Type 0 where
  pub text : string_bytes whole.text ≡ encode_utf8_all (decoded encoding bytes)
  pub errors : whole.errors ≡ min (error_count (decoding every_step every_end (every_start encoding) bytes)) (2 ^ 64 - 1)
