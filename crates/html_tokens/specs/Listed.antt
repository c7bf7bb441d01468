-- What a sink stands for that lists what it is told.
use Rattle.std.specs.Prelude.{◌≡◌, ℕ, Bool, true, false, ◌||◌, if◌then◌else◌, List, [], ◌∷◌, ◌++◌, length, Ok, Err, IfOk, IsErr}
use Rattle.std.specs.Prelude.{codes, refl}
use Rattle.std.specs.Str.{bytes_eq}
use Rattle.std.proofs.Common.{ap, append_assoc}
use Rattle.std.proofs.lemmas.List.{append-nil}
use Rattle.html_tokens.specs.Sink.{◌>>=◌, Step, Reply, AfterEnd, SinkLaws, IsIdle, IsTagReply, IsReplyTo}
use Rattle.html_tokens.specs.declared.listed.Listed.{Listed}
use Rattle.html_tokens.specs.declared.listed.ListedToken.{ListedToken}
use Rattle.html_tokens.specs.declared.replies.TokenSinkResult.TheVariants.{Continue, Script, Plaintext, RawData}
use Rattle.html_tokens.specs.declared.states.RawKind.TheVariants.{Rcdata, Rawtext, ScriptData}
use Rattle.html_tokens.specs.declared.tags.TagKind.{TagKind}
use Rattle.html_tokens.specs.declared.tags.TagKind.TheVariants.{StartTag, EndTag}
use Rattle.html_tokens.specs.declared.token.Token.{Token}
use Rattle.html_tokens.specs.declared.token.Token.TheVariants.{TagToken, CharacterTokens, ParseError}

-- the tokens in order, each with the text before it, then the text since the last, whether the end was told, and
-- whether sections of CDATA are asked for
pub record Listing : Type 0 where
  pub told : List ListedToken
  pub text : List ℕ
  pub has_ended : Bool
  pub asks_cdata : Bool

abbrev pub listing : Listed → Listing
listing l = record { told = l.told.items; text = l.text; has_ended = l.has_ended; asks_cdata = l.asks_cdata }

-- what follows a start tag of this name
abbrev pub text_after : List ℕ → Reply
text_after name =
    if bytes_eq name (codes "title") || bytes_eq name (codes "textarea") then RawData Rcdata
    else if bytes_eq name (codes "style") || bytes_eq name (codes "xmp") then RawData Rawtext
    else if bytes_eq name (codes "script") then RawData ScriptData
    else if bytes_eq name (codes "plaintext") then Plaintext
    else Continue

-- an end tag of a script pauses, and its element is named by the tag's place in the list
abbrev pub script_at : List ℕ → ℕ → Reply
script_at name place = if bytes_eq name (codes "script") then Script place else Continue

abbrev pub reply_to_kind : TagKind → List ℕ → ℕ → Reply
reply_to_kind StartTag name place = text_after name
reply_to_kind EndTag name place = script_at name place

abbrev pub reply_to : Token → ℕ → Reply
reply_to (TagToken tag) place = reply_to_kind tag.kind tag.name place
reply_to _ place = Continue

abbrev pub with_token : Token → ℕ → Listing → Listing
with_token t line s = record s { told = s.told ++ record { text = s.text; token = t; line = line } ∷ []; text = [] }

abbrev pub listed : Listing → Token → ℕ → Listing × Reply
listed s (ParseError _) line = (s, Continue)
listed s (CharacterTokens a) line = (record s { text = s.text ++ a }, Continue)
listed s t line = (with_token t line s, reply_to t (length s.told))

abbrev pub step : Step Listing
step s t line = if s.has_ended then Err AfterEnd else Ok (listed s t line)

-- the parts of a listing, put together
abbrev whole : List ListedToken → List ℕ → Bool → Bool → Listing
whole told text has_ended asks_cdata = record { told = told; text = text; has_ended = has_ended; asks_cdata = asks_cdata }

pieces : (told : List ListedToken) (text : List ℕ) (has_ended asks_cdata : Bool) (a b : List ℕ) (line : ℕ)
    → (step (whole told text has_ended asks_cdata) (CharacterTokens a) line >>= λ p. step p.0 (CharacterTokens b)
    line) ≡ step (whole told text has_ended asks_cdata) (CharacterTokens (a ++ b)) line
pieces told text true asks_cdata a b line = refl
pieces told text false asks_cdata a b line = ap (λ t. Ok (whole told t false asks_cdata, Continue)) (append_assoc text a b)

listed-idle : (s : Listing) (t : Token) → IsIdle t → (line : ℕ) → (listed s t line).0 ≡ s
listed-idle s (CharacterTokens []) h line = ap (λ t. record s { text = t }) (append-nil s.text)
listed-idle s (ParseError _) h line = refl
listed-idle s _ h line = absurd h

idle : (told : List ListedToken) (text : List ℕ) (has_ended asks_cdata : Bool) (t : Token) → IsIdle t → (line : ℕ)
    → IfOk (step (whole told text has_ended asks_cdata) t line) (λ p. p.0 ≡ whole told text has_ended asks_cdata)
idle told text true asks_cdata t h line = tt
idle told text false asks_cdata t h line = listed-idle (whole told text false asks_cdata) t h line

refused : (told : List ListedToken) (text : List ℕ) (has_ended asks_cdata : Bool) (t : Token) (line : ℕ)
    → IsErr (step (whole told text has_ended asks_cdata) t line) → (any : Token) (other : ℕ)
    → IsErr (step (whole told text has_ended asks_cdata) any other)
refused told text true asks_cdata t line h any other = refl
refused told text false asks_cdata t line h any other = h

-- what holds of both replies holds of the one that is chosen
IsTagReply-if : (b : Bool) (x y : Reply) → IsTagReply x → IsTagReply y → IsTagReply (if b then x else y)
IsTagReply-if true x y h k = h
IsTagReply-if false x y h k = k

IsTagReply-text_after : (name : List ℕ) → IsTagReply (text_after name)
IsTagReply-text_after name =
    let plaintext : Reply = if bytes_eq name (codes "plaintext") then Plaintext else Continue in
    let script : Reply = if bytes_eq name (codes "script") then RawData ScriptData else plaintext in
    let style : Reply = if bytes_eq name (codes "style") || bytes_eq name (codes "xmp") then RawData Rawtext else script in
    IsTagReply-if (bytes_eq name (codes "title") || bytes_eq name (codes "textarea")) (RawData Rcdata) style refl
    (IsTagReply-if (bytes_eq name (codes "style") || bytes_eq name (codes "xmp")) (RawData Rawtext) script refl
    (IsTagReply-if (bytes_eq name (codes "script")) (RawData ScriptData) plaintext refl
    (IsTagReply-if (bytes_eq name (codes "plaintext")) Plaintext Continue tt tt)))

IsTagReply-kind : (kind : TagKind) (name : List ℕ) (place : ℕ) → IsTagReply (reply_to_kind kind name place)
IsTagReply-kind StartTag name place = IsTagReply-text_after name
IsTagReply-kind EndTag name place = IsTagReply-if (bytes_eq name (codes "script")) (Script place) Continue tt tt

listed-reply : (s : Listing) (t : Token) (line : ℕ) → IsReplyTo t (listed s t line).1
listed-reply s (TagToken tag) line = IsTagReply-kind tag.kind tag.name (length s.told)
listed-reply s _ line = refl

-- what holds of what a step gives, where it holds of what a token that is taken gives
IfOk-step : (P : Listing × Reply → Type 0) (told : List ListedToken) (text : List ℕ) (has_ended asks_cdata : Bool)
    (t : Token) (line : ℕ) → P (listed (whole told text has_ended asks_cdata) t line)
    → IfOk (step (whole told text has_ended asks_cdata) t line) P
IfOk-step P told text true asks_cdata t line h = tt
IfOk-step P told text false asks_cdata t line h = h

lines : (told : List ListedToken) (text : List ℕ) (has_ended asks_cdata : Bool) (a : List ℕ) (line other : ℕ)
    → step (whole told text has_ended asks_cdata) (CharacterTokens a) line ≡ step
    (whole told text has_ended asks_cdata) (CharacterTokens a) other
lines told text has_ended asks_cdata a line other = refl

pub listed_laws : SinkLaws (λ _. Unit {0}) step (λ s. record s { has_ended = true }) (λ _ _. true)
listed_laws = record {
  keeps = λ s h t line. IfOk-step (λ _. Unit {0}) s.told s.text s.has_ended s.asks_cdata t line tt;
  ends = λ s h. tt;
  pieces = λ s h. pieces s.told s.text s.has_ended s.asks_cdata;
  lines = λ s h. lines s.told s.text s.has_ended s.asks_cdata;
  idle = λ s h. idle s.told s.text s.has_ended s.asks_cdata;
  idle_refused = λ s h t i. refused s.told s.text s.has_ended s.asks_cdata t;
  replies = λ s h t line. IfOk-step (λ p. IsReplyTo t p.1) s.told s.text s.has_ended s.asks_cdata t line (listed-reply s t line);
  quiet = λ s h a b line. IfOk-step (λ _. true ≡ true) s.told s.text s.has_ended s.asks_cdata (CharacterTokens a) line refl;
}
