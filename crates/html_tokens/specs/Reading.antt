-- What a whole text makes of a sink (HTML Standard, section 13.2.5).
use Rattle.std.specs.Prelude.{ℕ, zero, suc, ◌+◌, ◌-◌, min, Bool, true, false, nat_eq, List, [], ◌∷◌, take, drop, Option, Some}
use Rattle.std.specs.Prelude.{None, Result, Ok}
use Rattle.html_tokens.specs.declared.replies.TokenSinkResult.{TokenSinkResult}
use Rattle.html_tokens.specs.declared.replies.TokenSinkResult.TheVariants.{Continue, Script, Plaintext, RawData, EncodingIndicator}
use Rattle.html_tokens.specs.declared.states.State.{State}
use Rattle.html_tokens.specs.declared.states.State.TheVariants as state
use Rattle.html_tokens.specs.declared.token.Token.{Token}
use Rattle.html_tokens.specs.declared.token.Token.TheVariants.{EOFToken}
use Rattle.html_tokens.specs.Table.{Row}
use Rattle.html_tokens.specs.Item.{TextPlace, InData, InRaw, InPlaintext, Stand, moved, Item, Fault, fault_at_end}
use Rattle.html_tokens.specs.Items.{item}
pub use Rattle.html_tokens.specs.Sink.{◌>>=◌}

-- where a reading goes on after the sink's reply
abbrev pub next_stand : {H : Type 0} → Stand → TokenSinkResult H → Stand
next_stand st Continue = st
next_stand st (Script handle) = st
next_stand st Plaintext = moved st InPlaintext
next_stand st (RawData kind) = moved st (InRaw kind)
next_stand st (EncodingIndicator label) = st

-- the text state in which a reading begins
abbrev pub first_place : Option State → TextPlace
first_place None = InData
first_place (Some state.Plaintext) = InPlaintext
first_place (Some (state.RawData kind)) = InRaw kind
first_place (Some _) = InData

-- where a reading begins, by a tokenizer's options
abbrev pub first_stand : Option State → Option (List ℕ) → Stand
first_stand initial_state last_start_tag_name = record { place = first_place initial_state; last_start_tag = last_start_tag_name }

abbrev pub line_break : Bool → ℕ
line_break true = 1
line_break false = 0

-- how many line breaks a text has
abbrev pub line_breaks : List ℕ → ℕ
line_breaks [] = 0
line_breaks (c ∷ t) = line_break (nat_eq c 10) + line_breaks t

-- the line after so many line breaks, which stops at the greatest number of 64 bits
abbrev pub line_number : ℕ → ℕ
line_number breaks = min (breaks + 1) 0xffff_ffff_ffff_ffff

-- what a fault, if there is one, makes of a sink
abbrev pub erred_by : {S : Type 0} → (Fault → S → S) → Option Fault → S → S
erred_by erred None s = s
erred_by erred (Some fault) s = erred fault s

-- what an item's token, or none, makes of a sink after so many line breaks, where its fault, if it has one, comes first
abbrev pub said : {S H F : Type 0} → (S → Token → ℕ → Result (S × TokenSinkResult H) F) → (Fault → S → S)
    → Option Fault → Option Token → ℕ → S → Result (S × TokenSinkResult H) F
said step erred fault None breaks s = Ok (erred_by erred fault s, Continue)
said step erred fault (Some token) breaks s = step (erred_by erred fault s) token (line_number breaks)

-- over a sink: what a token makes of it, what a fault makes of it, whether it asks for CDATA sections, and what its end makes of it
module _ {S H F : Type 0} (step : S → Token → ℕ → Result (S × TokenSinkResult H) F) (erred : Fault → S → S)
    (cdata : S → Bool) (ends : S → S) (rows : List Row) where
  -- what a text after n characters of it makes of a sink, where so many line breaks were read
  unfoldable pub reading_from : ℕ → Stand → ℕ → S → List ℕ → Result S F
  reading_from n st breaks s [] = said step erred (fault_at_end st.place) (Some EOFToken) breaks s >>= λ p. Ok (ends p.0)
  reading_from zero st breaks s (c ∷ t) =
      let i = item rows (cdata s) st c t in
      let read = breaks + line_breaks (take i.len (c ∷ t)) in
      said step erred i.fault i.token read s >>= λ p. reading_from (i.len - 1) (next_stand i.next p.1) read p.0 t
  reading_from (suc n) st breaks s (c ∷ t) = reading_from n st breaks s t

  -- what a text makes of a sink
  abbrev pub reading : Stand → ℕ → S → List ℕ → Result S F
  reading st breaks s t = reading_from 0 st breaks s t

  -- an item, and then the reading of what follows it
  abbrev pub play : Item → ℕ → S → List ℕ → Result S F
  play i breaks s t =
      let read = breaks + line_breaks (take i.len t) in
      said step erred i.fault i.token read s >>= λ p. reading (next_stand i.next p.1) read p.0 (drop i.len t)
