-- The text of an input, by its characters.
use Rattle.std.proofs.Common.{◌≡◌, ℕ, List, Ok, Err, Result}
use Rattle.std.specs.Prelude.{IfOk}
use Rattle.std.specs.declared.alloc.AllocError.{AllocError}
use Rattle.html_encodings.specs.Handlers.{utf8_of}
use Rattle.html_encodings.specs.Decoders.{decoding, IsDecoded}
use Rattle.html_encodings.specs.declared.names.Encoding.{Encoding}
use Rattle.html_encodings.specs.declared.decoded.Decoded.{Decoded}
use Rattle.html_encodings_multibyte.specs.Every.{every_step, every_end, every_start}
use Rattle.html_encodings_multibyte.specs.declared.every.Every.{Every}
use Rattle.html_encodings_multibyte.specs.Texts.{IsText}

text_of : (encoding : Encoding) (start : Every) (bytes : List ℕ) (whole : Decoded) → start ≡ every_start encoding
    → IsDecoded (decoding every_step every_end start bytes) whole → IsText encoding bytes whole
unfolding utf8_of
text_of encoding start bytes whole is decoded =
    let there : IsDecoded (decoding every_step every_end (every_start encoding) bytes) whole = rw is at decoded in
    record { text = there.text; errors = there.errors }

pub texts_of : (encoding : Encoding) (start : Every) (bytes : List ℕ) (result : Result Decoded AllocError) → start ≡ every_start encoding
    → IfOk result (IsDecoded (decoding every_step every_end start bytes)) → IfOk result (IsText encoding bytes)
texts_of encoding start bytes (Ok whole) is decoded = text_of encoding start bytes whole is decoded
texts_of encoding start bytes (Err error) is decoded = tt
