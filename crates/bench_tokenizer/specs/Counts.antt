-- What a sink stands for that counts what it is told.
use Rattle.std.specs.Prelude.{◌≡◌, ℕ, ◌+◌, ◌-◌, ◌^◌, ◌≤◌, min, Bool, true, if◌then◌else◌, false, List, [], ◌++◌, length, Ok, codes, refl}
use Rattle.std.specs.Str.{bytes_eq}
use Rattle.std.proofs.Common.{ap, sym, ◌∙◌}
use Rattle.std.proofs.lemmas.List.{length-append}
use native.Mathlib.Omega.{arith}
use Rattle.html_tokens.specs.Sink.{Step, Reply, SinkLaws, one_more, IsIdle, IsTagReply, IsReplyTo}
use Rattle.html_tokens.specs.declared.replies.TokenSinkResult.TheVariants.{Continue, Script, RawData}
use Rattle.html_tokens.specs.declared.states.RawKind.TheVariants.{ScriptData}
use Rattle.html_tokens.specs.declared.sink.TokenSink.{Ghosts}
use Rattle.html_tokens.specs.declared.tags.TagKind.{TagKind}
use Rattle.html_tokens.specs.declared.tags.TagKind.TheVariants.{StartTag, EndTag}
use Rattle.html_tokens.specs.declared.token.Token.{Token}
use Rattle.html_tokens.specs.declared.token.Token.TheVariants.{TagToken, CommentToken, CharacterTokens, ParseError}
use Rattle.bench_tokenizer.specs.declared.counts.Counts.{Counts}

-- how many characters of text, tags, attributes of these and comments were told, whether the end was, and whether the text is hostile
pub record Counted : Type 0 where
  pub is_hostile : Bool
  pub characters : ℕ
  pub tags : ℕ
  pub attributes : ℕ
  pub comments : ℕ
  pub has_ended : Bool

abbrev pub counted_by : Counts → Counted
counted_by c = record {
  is_hostile = c.is_hostile;
  characters = c.characters;
  tags = c.tags;
  attributes = c.attributes;
  comments = c.comments;
  has_ended = c.has_ended;
}

-- nothing was told yet
abbrev pub nothing : Bool → Counted
nothing is_hostile = record { is_hostile = is_hostile; characters = 0; tags = 0; attributes = 0; comments = 0; has_ended = false }

-- no number is above u64::MAX
abbrev pub IsWithin : Counted → Type 0
IsWithin s = s.characters ≤ 2 ^ 64 - 1

-- a number after some more: at u64::MAX it stays
abbrev pub plus : ℕ → ℕ → ℕ
plus a b = min (a + b) (2 ^ 64 - 1)

-- the numbers after a token
abbrev pub counted : Counted → Token → Counted
counted s (CharacterTokens a) = record s { characters = plus s.characters (length a) }
counted s (TagToken tag) = record s { tags = plus s.tags 1; attributes = plus s.attributes (length tag.attrs) }
counted s (CommentToken text) = record s { comments = plus s.comments 1 }
counted s _ = s

-- the numbers once the end was told
abbrev pub ended : Counted → Counted
ended s = record s { has_ended = true }

-- sections of CDATA are asked for in hostile texts
abbrev pub asks_cdata : Counted → Bool
asks_cdata s = s.is_hostile

-- every handle stands for the same, since no reply has one
abbrev pub number : Unit {0} → ℕ
number _ = 0

-- want of memory does not break a sink that takes none
abbrev pub has_failed : Counts → Bool
has_failed c = false

-- how many errors were told
abbrev pub errors : Counts → ℕ
errors c = c.errors

-- the end is no error
abbrev pub errors_ended : Counted → ℕ → ℕ
errors_ended s n = n

-- it finds no error of its own
abbrev pub is_quiet : Counted → Token → Bool
is_quiet s token = true

-- a number of errors after a token
abbrev pub error_counted : Token → ℕ → ℕ
error_counted (ParseError _) errors = one_more errors
error_counted _ errors = errors

-- after a start tag of a script stands its text, and its end tag pauses in a hostile text
abbrev pub reply_to_script : Bool → TagKind → Reply
reply_to_script is_hostile StartTag = RawData ScriptData
reply_to_script true EndTag = Script 0
reply_to_script false EndTag = Continue

abbrev pub reply_to : Bool → Token → Reply
reply_to is_hostile (TagToken tag) = if bytes_eq tag.name (codes "script") then reply_to_script is_hostile tag.kind else Continue
reply_to is_hostile _ = Continue

-- no token is refused
abbrev pub step : Step Counted
step s t line = Ok (counted s t, reply_to s.is_hostile t)

-- all that a sink stands for that counts
abbrev pub counting : Ghosts Counts (Unit {0})
counting = record {
  State = Counted;
  view = counted_by;
  is_sound = IsWithin;
  step = step;
  ended = ended;
  asks_cdata = asks_cdata;
  errors = errors;
  errors_ended = errors_ended;
  is_quiet = is_quiet;
  has_failed = has_failed;
  references = λ _. [];
  number = number;
}

plus-plus : (a b c : ℕ) → plus (plus a b) c ≡ plus a (b + c)
plus-plus a b c = omega arith

plus-zero : (a : ℕ) → a ≤ 2 ^ 64 - 1 → plus a 0 ≡ a
plus-zero a h = omega arith

plus-within : (a b : ℕ) → plus a b ≤ 2 ^ 64 - 1
plus-within a b = omega arith

keeps : (s : Counted) → IsWithin s → (t : Token) → IsWithin (counted s t)
keeps s h (CharacterTokens a) = plus-within s.characters (length a)
keeps s h (TagToken tag) = h
keeps s h (CommentToken text) = h
keeps s h _ = h

pieces : (s : Counted) (a b : List ℕ) → counted (counted s (CharacterTokens a)) (CharacterTokens b) ≡ counted s (CharacterTokens (a ++ b))
pieces s a b = ap (λ n. record s { characters = n }) (plus-plus s.characters (length a) (length b)
    ∙ ap (plus s.characters) (sym (length-append a b)))

idle : (s : Counted) → IsWithin s → (t : Token) → IsIdle t → counted s t ≡ s
idle s h (CharacterTokens []) i = ap (λ n. record s { characters = n }) (plus-zero s.characters h)
idle s h (ParseError _) i = refl
idle s h _ i = absurd i

-- what holds of both replies holds of the one that is chosen
IsTagReply-if : (b : Bool) (x y : Reply) → IsTagReply x → IsTagReply y → IsTagReply (if b then x else y)
IsTagReply-if true x y h k = h
IsTagReply-if false x y h k = k

IsTagReply-script : (is_hostile : Bool) (kind : TagKind) → IsTagReply (reply_to_script is_hostile kind)
IsTagReply-script is_hostile StartTag = refl
IsTagReply-script true EndTag = tt
IsTagReply-script false EndTag = tt

replies : (is_hostile : Bool) (t : Token) → IsReplyTo t (reply_to is_hostile t)
replies is_hostile (TagToken tag) = IsTagReply-if (bytes_eq tag.name (codes "script"))
    (reply_to_script is_hostile tag.kind) Continue (IsTagReply-script is_hostile tag.kind) tt
replies is_hostile _ = refl

pub counts_laws : SinkLaws IsWithin step ended is_quiet
counts_laws = record {
  keeps = λ s h t line. keeps s h t;
  ends = λ s h. h;
  pieces = λ s h a b line. ap (λ n. Ok (n, Continue)) (pieces s a b);
  lines = λ s h a line other. refl;
  idle = λ s h t i line. idle s h t i;
  idle_refused = λ s h t i line r any other. r;
  replies = λ s h t line. replies s.is_hostile t;
  quiet = λ s h a b line. refl;
}
