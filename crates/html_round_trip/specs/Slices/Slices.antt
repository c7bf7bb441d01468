-- What it means that a slice of a text is read as one token.
use Rattle.std.specs.Prelude.{◌≡◌, ℕ, ◌+◌, Bool, true, List, ◌∷◌, ◌++◌, length, Result, Ok}
use Rattle.html_tokens.specs.declared.replies.TokenSinkResult.{TokenSinkResult}
use Rattle.html_tokens.specs.declared.token.Token.{Token}
use Rattle.html_tokens.specs.Clean.{is_clean, is_clean_reading, clean_by}
use Rattle.html_tokens.specs.Item.{Fault, Stand, silent, clean_item}
use Rattle.html_tokens.specs.Items.{item}
use Rattle.html_tokens.specs.Notes.{Notes, paused, noted_reading}
use Rattle.html_tokens.specs.Reading.{◌>>=◌, reading, next_stand, line_number, line_breaks}
use Rattle.html_tokens.specs.Table.{Row}

-- A slice, with a text after it: clean items that tell nothing, and then a clean one that tells the token. The CDATA question is
-- answered so.
pub data Spells (rows : List Row) (cdata : Bool) (t : List ℕ) : Stand → List ℕ → Token → Stand → Type 0 where
  Last : {st next : Stand} {token : Token} (c : ℕ) (cs : List ℕ) → item rows cdata st c (cs ++ t) ≡ clean_item token
      (length (c ∷ cs)) next → is_clean rows st c (cs ++ t) ≡ true → Spells rows cdata t st (c ∷ cs) token next
  More : {st next : Stand} {token : Token} (mid : Stand) (c : ℕ) (cs b : List ℕ) → item rows cdata st c
      (cs ++ (b ++ t)) ≡ silent (length (c ∷ cs)) mid → is_clean rows st c (cs ++ (b ++ t)) ≡ true → Spells rows cdata t mid b token next
      → Spells rows cdata t st ((c ∷ cs) ++ b) token next

-- whatever follows it, and however the question is answered
abbrev pub IsSpelled : List Row → Stand → List ℕ → Token → Stand → Type 0
IsSpelled rows st slice token next = (cdata : Bool) (t : List ℕ) → Spells rows cdata t st slice token next

-- over a sink
module _ {S H F : Type 0} (step : S → Token → ℕ → Result (S × TokenSinkResult H) F) (erred : Fault → S → S)
    (cdata : S → Bool) (ends : S → S) (rows : List Row) where
  -- after a step, the reading of a text
  abbrev pub after : Stand → ℕ → Result (S × TokenSinkResult H) F → List ℕ → Result S F
  after st breaks r t = r >>= λ p. reading step erred cdata ends rows (next_stand st p.1) breaks p.0 t

  -- a slice is read as one step with the token, on the line of the slice's end, and then what follows is read
  abbrev pub IsToken : Stand → List ℕ → Token → Stand → Type 0
  IsToken st slice token next =
      (breaks : ℕ) (s : S) (t : List ℕ)
      → reading step erred cdata ends rows st breaks s (slice ++ t)
      ≡ after next (breaks + line_breaks slice) (step s token (line_number (breaks + line_breaks slice))) t

-- over a sink of which is noted what is not quiet
module _ {S H F : Type 0} (step : S → Token → ℕ → Result (S × TokenSinkResult H) F) (quiet : S → Token → Bool)
    (cdata : S → Bool) (ends : S → S) (rows : List Row) where
  -- whether a text is read without anything that is not clean
  abbrev pub clean : Stand → ℕ → S → List ℕ → Bool
  clean st breaks s t = is_clean_reading step quiet cdata rows st breaks s t

  -- a slice is clean: a text that begins with it is clean where the sink finds the token quiet and what follows is clean
  abbrev pub IsCleanToken : Stand → List ℕ → Token → Stand → Type 0
  IsCleanToken st slice token next =
      (breaks : ℕ) (s : S) (t : List ℕ)
      → clean st breaks s (slice ++ t)
      ≡ clean_by step quiet cdata rows (quiet s token) (step s token (line_number (breaks + line_breaks slice)))
      (λ p. clean (next_stand next p.1) (breaks + line_breaks slice) p.0 t)

  -- the sink takes a token quietly and hands nothing back
  pub record Takes (s : S) (token : Token) (line : ℕ) (new : S) (reply : TokenSinkResult H) : Type 0 where
    pub gives : step s token line ≡ Ok (new, reply)
    pub is_quiet : quiet s token ≡ true
    pub goes_on : (pauses : List (TokenSinkResult H)) → paused pauses reply ≡ pauses

  -- What reads a text from its front, so that a slice which spells a token, where the sink takes it so, is just that step: a
  -- reading, a reading of which something is noted, and whether a text is clean are such.
  abbrev pub IsReader : {X : Type 0} → (Stand → ℕ → S → List ℕ → X) → Type 0
  IsReader read =
      (st next : Stand) (slice : List ℕ) (token : Token) → IsSpelled rows st slice token next
      → (breaks : ℕ) (s new : S) (reply : TokenSinkResult H) (t : List ℕ)
      → Takes s token (line_number (breaks + line_breaks slice)) new reply
      → read st breaks s (slice ++ t) ≡ read (next_stand next reply) (breaks + line_breaks slice) new t

  -- what holds of each of the three
  pub record OfReaders (P : (X : Type 0) → (Stand → ℕ → S → List ℕ → X) → Type 0) : Type 0 where
    pub reads : (erred : Fault → S → S) → P (Result S F) (reading step erred cdata ends rows)
    pub notes : (notes : Notes H) → P (Result (S × Notes H) (F × ℕ))
        (λ st breaks s t. noted_reading step quiet cdata ends rows st breaks (s, notes) t)
    pub cleans : P Bool clean
