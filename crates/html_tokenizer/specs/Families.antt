-- Which states stand after "<!", or read a comment that begins otherwise (HTML Standard, sections 13.2.5.41 to 13.2.5.71).
use Rattle.std.specs.Prelude.{Bool, true, false}
use Rattle.html_tokens.specs.declared.states.State.{State}
use Rattle.html_tokens.specs.declared.states.State.TheVariants.{Doctype, BeforeDoctypeName, DoctypeName, AfterDoctypeName}
use Rattle.html_tokens.specs.declared.states.State.TheVariants.{AfterDoctypeKeyword, BeforeDoctypeIdentifier}
use Rattle.html_tokens.specs.declared.states.State.TheVariants.{DoctypeIdentifierDoubleQuoted, DoctypeIdentifierSingleQuoted}
use Rattle.html_tokens.specs.declared.states.State.TheVariants.{AfterDoctypeIdentifier}
use Rattle.html_tokens.specs.declared.states.State.TheVariants.{BetweenDoctypePublicAndSystemIdentifiers, BogusDoctype}
use Rattle.html_tokens.specs.declared.states.State.TheVariants.{BogusComment, MarkupDeclarationOpen, CommentStart}
use Rattle.html_tokens.specs.declared.states.State.TheVariants.{CommentStartDash, Comment, CommentLessThanSign}
use Rattle.html_tokens.specs.declared.states.State.TheVariants.{CommentLessThanSignBang, CommentLessThanSignBangDash}
use Rattle.html_tokens.specs.declared.states.State.TheVariants.{CommentLessThanSignBangDashDash, CommentEndDash, CommentEnd}
use Rattle.html_tokens.specs.declared.states.State.TheVariants.{CommentEndBang, CdataSection, CdataSectionBracket}
use Rattle.html_tokens.specs.declared.states.State.TheVariants.{CdataSectionEnd}

-- in a doctype
abbrev pub is_in_doctype : State → Bool
is_in_doctype Doctype = true
is_in_doctype BeforeDoctypeName = true
is_in_doctype DoctypeName = true
is_in_doctype AfterDoctypeName = true
is_in_doctype (AfterDoctypeKeyword kind) = true
is_in_doctype (BeforeDoctypeIdentifier kind) = true
is_in_doctype (DoctypeIdentifierDoubleQuoted kind) = true
is_in_doctype (DoctypeIdentifierSingleQuoted kind) = true
is_in_doctype (AfterDoctypeIdentifier kind) = true
is_in_doctype BetweenDoctypePublicAndSystemIdentifiers = true
is_in_doctype BogusDoctype = true
is_in_doctype _ = false

-- in a comment, a CDATA section or a doctype, or where it is not yet known in which
abbrev pub is_in_declaration : State → Bool
is_in_declaration BogusComment = true
is_in_declaration MarkupDeclarationOpen = true
is_in_declaration CommentStart = true
is_in_declaration CommentStartDash = true
is_in_declaration Comment = true
is_in_declaration CommentLessThanSign = true
is_in_declaration CommentLessThanSignBang = true
is_in_declaration CommentLessThanSignBangDash = true
is_in_declaration CommentLessThanSignBangDashDash = true
is_in_declaration CommentEndDash = true
is_in_declaration CommentEnd = true
is_in_declaration CommentEndBang = true
is_in_declaration CdataSection = true
is_in_declaration CdataSectionBracket = true
is_in_declaration CdataSectionEnd = true
is_in_declaration st = is_in_doctype st
