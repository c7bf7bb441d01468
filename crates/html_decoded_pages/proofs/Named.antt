-- Which encoding is named first.
use Rattle.std.proofs.Common.{◌≡◌, List, [], ◌∷◌, ◌++◌, Option, Some, None, refl}
use Rattle.html_tokens.specs.Sink.{Reply}
use Rattle.html_encodings.specs.declared.names.Encoding.{Encoding}
use Rattle.html_decoded_pages.specs.Changing.{first_named, named_at, or_first}

or-found : (named others after : Option Encoding) (encoding : Encoding) → or_first named others ≡ Some encoding
    → (others ≡ Some encoding → after ≡ Some encoding) → or_first named after ≡ Some encoding
or-found (Some other) others after encoding is go = is
or-found None others after encoding is go = go is

or-none : (named others after answer : Option Encoding) → or_first named others ≡ None
    → (others ≡ None → after ≡ answer) → or_first named after ≡ answer
or-none (Some other) others after answer is go = absurd cc
or-none None others after answer is go = go is

-- what is named stays named, whatever follows
pub named-before : (pauses later : List Reply) (encoding : Encoding) → first_named pauses ≡ Some encoding
    → first_named (pauses ++ later) ≡ Some encoding
named-before [] later encoding is = absurd cc
named-before (pause ∷ pauses) later encoding is = or-found (named_at pause) (first_named pauses)
    (first_named (pauses ++ later)) encoding is (named-before pauses later encoding)

-- after pauses that name nothing what is named first is named by what follows
pub named-after : (pauses later : List Reply) → first_named pauses ≡ None → first_named (pauses ++ later) ≡ first_named later
named-after [] later is = refl
named-after (pause ∷ pauses) later is = or-none (named_at pause) (first_named pauses) (first_named (pauses ++ later))
    (first_named later) is (named-after pauses later)
