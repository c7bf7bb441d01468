-- What a sink of tokens stands for, what each token makes of that, and what every sink keeps.
use Rattle.std.specs.Prelude.{◌≡◌, ℕ, ◌≤◌, Bool, true, false, ◌&&◌, List, [], ◌++◌, Result, Ok, Err, IfOk, IsOk, IsErr}
use Rattle.markup.specs.declared.fault.ParseFault.{ParseFault}
use Rattle.markup.specs.declared.fault.ParseFault.TheVariants.{Memory, TokenInText, Ended, Shape, Failed}
pub use Rattle.markup.specs.Forest.{one_more}
use Rattle.html_tokens.specs.TextState.{is_text_state}
use Rattle.html_tokens.specs.declared.states.State.TheVariants.{RawData as RawText}
use Rattle.html_tokens.specs.declared.replies.TokenSinkResult.{TokenSinkResult}
use Rattle.html_tokens.specs.declared.replies.TokenSinkResult.TheVariants.{Continue, Script, Plaintext, RawData, EncodingIndicator}
use Rattle.html_tokens.specs.declared.token.Token.{Token}
use Rattle.html_tokens.specs.declared.token.Token.TheVariants.{TagToken, CharacterTokens, ParseError}

-- a reply in which each handle stands as its number
abbrev pub Reply : Type 0
Reply = TokenSinkResult ℕ

-- why a sink refuses a token: it reads raw text and takes none such, the end was told, or what it holds does not fit
pub data Refusal : Type 0 where
  InText : Refusal
  AfterEnd : Refusal
  Unfit : Refusal

-- the faults that are refusals
abbrev pub IsRefusal : ParseFault → Type 0
IsRefusal Memory = ⊥
IsRefusal Failed = ⊥
IsRefusal _ = Unit {0}

-- what a token, told with a line, makes of a state, with the reply; or the token is refused
abbrev pub Step : Type 0 → Type 0
Step S = S → Token → ℕ → Result (S × Reply) Refusal

-- what one step gives, and then the next
infixl 10 ◌>>=◌
abbrev pub ◌>>=◌ : {A B F : Type 0} → Result A F → (A → Result B F) → Result B F
(Ok x) >>= next = next x
(Err refusal) >>= next = Err refusal

-- a reply, with the number of each handle in its place
abbrev pub numbered : {H : Type 0} → (H → ℕ) → TokenSinkResult H → Reply
numbered number Continue = Continue
numbered number (Script handle) = Script (number handle)
numbered number Plaintext = Plaintext
numbered number (RawData kind) = RawData kind
numbered number (EncodingIndicator name) = EncodingIndicator name

-- The call's answer and the state after it are what the step gives. Want of memory is told only where the token is not
-- refused, and leaves a state of which nothing is said.
abbrev pub Gives : {S H : Type 0} → (H → ℕ) → Result (S × Reply) Refusal → Result (TokenSinkResult H) ParseFault → S → Type 0
Gives number given (Ok reply) new = given ≡ Ok (new, numbered number reply)
Gives number given (Err Memory) new = IsOk given
Gives number given (Err TokenInText) new = given ≡ Err InText
Gives number given (Err Ended) new = given ≡ Err AfterEnd
Gives number given (Err Shape) new = given ≡ Err Unfit
Gives number given (Err Failed) new = Unit {0}

-- whether the answer says that an earlier call failed
abbrev pub tells_failed : {R : Type 0} → Result R ParseFault → Bool
tells_failed (Err Failed) = true
tells_failed _ = false

-- whether the sink has failed once it so answered
abbrev pub fails : {R : Type 0} → Result R ParseFault → Bool
fails (Err Memory) = true
fails (Err Failed) = true
fails _ = false

-- P, if the token was refused or an earlier call failed
abbrev pub OnRefused : {R : Type 0} → Result R ParseFault → Type 0 → Type 0
OnRefused (Ok _) P = Unit {0}
OnRefused (Err Memory) P = Unit {0}
OnRefused (Err _) P = P

-- from old to new, a number of errors as a token leaves it that is quiet or is not
abbrev pub CountsOwn : Bool → ℕ → ℕ → Type 0
CountsOwn true old new = new ≡ old
CountsOwn false old new = one_more old ≤ new

-- An error raises the number of errors by one, any other token does so exactly if it is not quiet. Of a sink that failed or
-- refused a token nothing is said here.
abbrev pub Counts : {R : Type 0} → Bool → Token → Result R ParseFault → ℕ → ℕ → Type 0
Counts quiet (ParseError _) (Ok _) old new = new ≡ one_more old
Counts quiet _ (Ok _) old new = CountsOwn quiet old new
Counts quiet _ (Err _) old new = Unit {0}

-- a reply that may be given to a tag: raw text that follows is that of one of the text states
abbrev pub IsTagReply : Reply → Type 0
IsTagReply (RawData kind) = is_text_state (RawText kind) ≡ true
IsTagReply _ = Unit {0}

-- a reply that may be given to this token
abbrev pub IsReplyTo : Token → Reply → Type 0
IsReplyTo (TagToken _) reply = IsTagReply reply
IsReplyTo _ reply = reply ≡ Continue

-- empty text and errors
abbrev pub IsIdle : Token → Type 0
IsIdle (CharacterTokens []) = Unit {0}
IsIdle (ParseError _) = Unit {0}
IsIdle _ = ⊥

-- What the steps of every sink keep, from each sound state.
pub record SinkLaws {S : Type 0} (is_sound : S → Type 0) (step : Step S) (ended : S → S) (is_quiet : S → Token → Bool) : Type 0 where
  -- sound states lead to sound states
  pub keeps : (s : S) → is_sound s → (t : Token) (line : ℕ) → IfOk (step s t line) (λ p. is_sound p.0)
  pub ends : (s : S) → is_sound s → is_sound (ended s)
  -- text in two pieces is as in one, and its line is of no account
  pub pieces : (s : S) → is_sound s → (a b : List ℕ) (line : ℕ)
      → (step s (CharacterTokens a) line >>= λ p. step p.0 (CharacterTokens b) line) ≡ step s (CharacterTokens (a ++ b)) line
  pub lines : (s : S) → is_sound s → (a : List ℕ) (line other : ℕ) → step s (CharacterTokens a) line ≡ step s (CharacterTokens a) other
  -- empty text and errors change nothing, and are refused only where every token is
  pub idle : (s : S) → is_sound s → (t : Token) → IsIdle t → (line : ℕ) → IfOk (step s t line) (λ p. p.0 ≡ s)
  pub idle_refused : (s : S) → is_sound s → (t : Token) → IsIdle t → (line : ℕ) → IsErr (step s t line)
      → (any : Token) (other : ℕ) → IsErr (step s any other)
  -- only a tag is answered by more than that reading goes on
  pub replies : (s : S) → is_sound s → (t : Token) (line : ℕ) → IfOk (step s t line) (λ p. IsReplyTo t p.1)
  -- text in two pieces is quiet exactly if both are
  pub quiet : (s : S) → is_sound s → (a b : List ℕ) (line : ℕ) → IfOk (step s (CharacterTokens a) line)
      (λ p. is_quiet s (CharacterTokens (a ++ b)) ≡ (is_quiet s (CharacterTokens a) && is_quiet p.0 (CharacterTokens b)))
