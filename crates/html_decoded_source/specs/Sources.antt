-- What a source has left that decodes another.
use Rattle.std.specs.Prelude.{◌≡◌, ℕ, ◌≤◌, Bool, true, false, List, [], ◌++◌, length, take, drop, Option, Some, option_map}
use Rattle.std.specs.Prelude.{encode_utf8_all, ◌⊎◌}
use Rattle.std.specs.Io.KnownBytes.{IsAtEnd, prepend_known}
use Rattle.html_encodings.specs.Decoders.{decoding}
use Rattle.html_encodings.specs.Handlers.{utf8_of}
use Rattle.html_encodings.specs.Sniffing.{sniffed}
use Rattle.html_encodings.specs.declared.names.Encoding.{Encoding}
use Rattle.html_encodings.specs.declared.sniffing.Sniffed.{Sniffed}
use Rattle.html_encodings_multibyte.specs.Every.{decoded, every_end, every_step}
use Rattle.html_encodings_multibyte.specs.declared.every.Every.{Every}

-- the other source, the decoder, the bytes that were read and not decoded yet, the text that was decoded and not given yet, in UTF-8,
-- and whether the end was decoded
pub record Decoding (R : Type 0) : Type 0 where
  pub source : R
  pub handler : Every
  pub held : List ℕ
  pub waiting : List ℕ
  pub has_ended : Bool

-- the text that is still to come of bytes, in UTF-8
abbrev pub to_come : Bool → Every → List ℕ → List ℕ
to_come true handler bytes = []
to_come false handler bytes = utf8_of (decoding every_step every_end handler bytes)

-- what is left, by what is left of the other source
abbrev pub left_of : {R : Type 0} → (R → Option (List ℕ)) → Decoding R → Option (List ℕ)
left_of left d = option_map (λ rest. d.waiting ++ to_come d.has_ended d.handler (d.held ++ rest)) (left d.source)

-- the text that bytes are in an encoding, in UTF-8
abbrev pub text_in : Encoding → List ℕ → List ℕ
text_in encoding bytes = encode_utf8_all (decoded encoding bytes)

-- So many bytes in front of a buffer are those in front of what a source had, and are 1,024 at least, or all that it had.
pub record IsFront (old new : Option (List ℕ)) (buffer : List ℕ) (count : ℕ) : Type 0 where
  pub within : count ≤ length buffer
  pub moved : old ≡ prepend_known (take count buffer) new
  pub enough : (1024 ≤ count) ⊎ IsAtEnd new

-- What is left is the text of all that another source had, without a mark, in the encoding that was found.
pub record IsFound (whole : List ℕ) (label : Option (List ℕ)) (fallback : Encoding) (found : Sniffed)
    (rest : Option (List ℕ)) : Type 0 where
  pub is : found ≡ sniffed whole label fallback
  pub left : rest ≡ Some (text_in found.encoding (drop found.mark_length whole))
