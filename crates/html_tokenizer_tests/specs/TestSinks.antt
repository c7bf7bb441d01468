-- What the sinks of the tests make of a token.
use Rattle.std.specs.Prelude.{Bool, true, Ok, Err, refl}
use Rattle.html_tokens.specs.Sink.{Step, Reply, Refusal, SinkLaws, IsReplyTo}
use Rattle.html_tokens.specs.declared.token.Token.{Token}
use Rattle.html_tokens.specs.declared.token.Token.TheVariants.{TagToken}
use Rattle.html_tokens.specs.declared.replies.TokenSinkResult.TheVariants.{Continue, EncodingIndicator}

-- every token is refused, for one reason
abbrev pub refused : Step Refusal
refused refusal token line = Err refusal

pub refused_laws : SinkLaws (λ _. Unit {0}) refused (λ s. s) (λ _ _. true)
refused_laws = record {
  keeps = λ s h t line. tt;
  ends = λ s h. tt;
  pieces = λ s h a b line. refl;
  lines = λ s h a line other. refl;
  idle = λ s h t i line. tt;
  idle_refused = λ s h t i line r any other. refl;
  replies = λ s h t line. tt;
  quiet = λ s h a b line. tt;
}

-- each tag names an encoding, and nothing that is told changes whether `<![CDATA[` opens a section
abbrev pub reply_to : Token → Reply
reply_to (TagToken tag) = EncodingIndicator tag.name
reply_to _ = Continue

abbrev pub named : Step Bool
named s token line = Ok (s, reply_to token)

reply-fits : (t : Token) → IsReplyTo t (reply_to t)
reply-fits (TagToken tag) = tt
reply-fits _ = refl

pub named_laws : SinkLaws (λ _. Unit {0}) named (λ s. s) (λ _ _. true)
named_laws = record {
  keeps = λ s h t line. tt;
  ends = λ s h. tt;
  pieces = λ s h a b line. refl;
  lines = λ s h a line other. refl;
  idle = λ s h t i line. refl;
  idle_refused = λ s h t i line r any other. r;
  replies = λ s h t line. reply-fits t;
  quiet = λ s h a b line. refl;
}
