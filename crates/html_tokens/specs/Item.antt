-- Where a reading stands, and what stands at a place of the text.
use Rattle.std.specs.Prelude.{ℕ, zero, suc, Bool, true, false, nat_eq, List, [], ◌∷◌, Option, Some, None}
use Rattle.html_tokens.specs.declared.states.RawKind.{RawKind}
use Rattle.html_tokens.specs.declared.states.RawKind.TheVariants.{Rcdata, Rawtext, ScriptData, ScriptDataEscaped}
use Rattle.html_tokens.specs.declared.tags.Tag.{Tag}
use Rattle.html_tokens.specs.declared.token.Token.{Token}
use Rattle.html_tokens.specs.declared.token.Token.TheVariants.{CharacterTokens, NullCharacterToken}
use Rattle.html_tokens.specs.Characters.{shown}
pub use Rattle.html_tokens.specs.Fault.{Fault, Grave, Slight, grave_if, slight_if, and_slight, and_slight_if}
use Rattle.html_tokens.specs.Reference.{Reference}

-- text of one of the five text states, a script's escaped text, a CDATA section, or a tag that was read so far
pub data TextPlace : Type 0 where
  InData : TextPlace
  InRaw : RawKind → TextPlace
  InPlaintext : TextPlace
  InCdata : TextPlace
  InTag : Tag → TextPlace

-- where a reading stands: the place, and the name of the last start tag if there was one
pub record Stand : Type 0 where
  pub place : TextPlace
  pub last_start_tag : Option (List ℕ)

abbrev pub moved : Stand → TextPlace → Stand
moved st place = record st { place = place }

-- an item: the token that it gives, its fault if it has one, how many characters it takes, and where the reading stands after it
pub record Item : Type 0 where
  pub token : Option Token
  pub fault : Option Fault
  pub len : ℕ
  pub next : Stand

-- the item after one character more
abbrev pub longer : Item → Item
longer i = record i { len = suc i.len }

-- the item after n characters more
abbrev pub longer_by : ℕ → Item → Item
longer_by zero i = i
longer_by (suc n) i = longer (longer_by n i)

-- the item, with something slight in it where this is so
abbrev pub marked : Bool → Item → Item
marked odd i = record i { fault = and_slight_if odd i.fault }

-- characters that give no token
abbrev pub silent : ℕ → Stand → Item
silent n st = record { token = None; fault = None; len = n; next = st }

-- n characters that give a token, with this fault
abbrev pub token_item : Option Fault → Token → ℕ → Stand → Item
token_item fault token n st = record { token = Some token; fault = fault; len = n; next = st }

-- n characters without fault that give a token
abbrev pub clean_item : Token → ℕ → Stand → Item
clean_item token n st = token_item None token n st

-- one character of text
abbrev pub character : ℕ → Stand → Item
character c st = clean_item (CharacterTokens (c ∷ [])) 1 st

abbrev pub null_by : Bool → ℕ → Stand → Item
null_by true c st = token_item (Some Grave) NullCharacterToken 1 st
null_by false c st = character c st

-- one character of text in which U+FFFD stands for U+0000, which is a fault
abbrev pub shown_character : ℕ → Stand → Item
shown_character c st = token_item (grave_if (nat_eq c 0)) (CharacterTokens (shown c ∷ [])) 1 st

-- one character of text whose reader decides what becomes of U+0000, which is a fault
abbrev pub character_or_null : ℕ → Stand → Item
character_or_null c st = null_by (nat_eq c 0) c st

-- a "<" that opens nothing, which is wrong
abbrev pub unopened : Stand → Item
unopened st = marked true (character 60 st)

-- a reference, or "&" as text
abbrev pub reference_item : Option Fault → Option Reference → Stand → Item
reference_item fault None st = token_item fault (CharacterTokens (38 ∷ [])) 1 st
reference_item fault (Some r) st = token_item fault (CharacterTokens r.chars) (suc r.len) st

-- whether text of this kind is a script's, after "<!--"
abbrev pub is_escaped_kind : RawKind → Bool
is_escaped_kind Rcdata = false
is_escaped_kind Rawtext = false
is_escaped_kind ScriptData = false
is_escaped_kind (ScriptDataEscaped kind) = true

-- what is wrong where the input ends here: something is cut off, or a script's text is escaped
abbrev pub fault_at_end : TextPlace → Option Fault
fault_at_end InData = None
fault_at_end (InRaw kind) = slight_if (is_escaped_kind kind)
fault_at_end InPlaintext = None
fault_at_end InCdata = Some Grave
fault_at_end (InTag tag) = Some Grave
