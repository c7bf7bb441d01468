-- What a decoder does over pieces of its input.
use Rattle.std.specs.Prelude.{◌≡◌, ℕ, ◌+◌, ◌-◌, ◌^◌, ◌≤◌, min, Option, List, ◌++◌, length, take, drop, IsAscii}
use Rattle.std.specs.String.{string_bytes}
use Rattle.html_encodings.specs.declared.decoded.Decoded.{Decoded}
use Rattle.html_encodings.specs.Handlers.{Step, past, reading, utf8_of, error_count}

-- the text so far, in UTF-8, and how many errors there were
pub record Output : Type 0 where
  pub text : List ℕ
  pub errors : ℕ

-- what is written is put after the text, and its errors are counted, up to the greatest number
abbrev pub after : Output → List (Option ℕ) → Output
after output items = record {
  text = output.text ++ utf8_of items;
  errors = min (output.errors + error_count items) (2 ^ 64 - 1);
}

-- all that is written for an input, to its end
abbrev pub decoding : {S : Type 0} → (S → ℕ → Step S) → (S → List (Option ℕ)) → S → List ℕ → List (Option ℕ)
decoding step end state bytes = let read = reading step state bytes in read.written ++ end read.state

-- a text and a number of errors that are those of what is written
pub record IsDecoded (items : List (Option ℕ)) (decoded : Decoded) : Type 0 where
  pub text : string_bytes decoded.text ≡ utf8_of items
  pub errors : decoded.errors ≡ min (error_count items) (2 ^ 64 - 1)

-- the first text begins the second
pub record Begins (old new : List ℕ) : Type 0 where
  pub more : List ℕ
  pub is : new ≡ old ++ more

-- so many bytes in front are ASCII, and stand after the text
pub record CopiesRun (bytes old new : List ℕ) (count : ℕ) : Type 0 where
  pub within : count ≤ length bytes
  pub ascii : IsAscii (take count bytes)
  pub copied : new ≡ old ++ take count bytes

-- so many bytes in front are read without an error, and what they write stands after the text
pub record ReadsFront {S : Type 0} (step : S → ℕ → Step S) (state : S) (bytes old new : List ℕ) (count : ℕ) : Type 0 where
  pub within : count ≤ length bytes
  pub written : List (Option ℕ)
  pub reads : reading step state bytes ≡ past written (reading step state (drop count bytes))
  pub faultless : error_count written ≡ 0
  pub copied : new ≡ old ++ utf8_of written
