-- The states in which the end of the input ends a comment, a declaration or a doctype.
use Rattle.std.specs.Prelude.{Bool, true, false, ◌||◌}
use Rattle.html_tokens.specs.declared.states.State.{State}
use Rattle.html_tokens.specs.declared.states.State.TheVariants as state

-- after "<!", or in a comment
abbrev pub is_comment_part : State → Bool
is_comment_part state.MarkupDeclarationOpen = true
is_comment_part state.BogusComment = true
is_comment_part state.CommentStart = true
is_comment_part state.CommentStartDash = true
is_comment_part state.Comment = true
is_comment_part state.CommentLessThanSign = true
is_comment_part state.CommentLessThanSignBang = true
is_comment_part state.CommentLessThanSignBangDash = true
is_comment_part state.CommentLessThanSignBangDashDash = true
is_comment_part state.CommentEndDash = true
is_comment_part state.CommentEnd = true
is_comment_part state.CommentEndBang = true
is_comment_part _ = false

-- in a doctype
abbrev pub is_doctype_part : State → Bool
is_doctype_part state.Doctype = true
is_doctype_part state.BeforeDoctypeName = true
is_doctype_part state.DoctypeName = true
is_doctype_part state.AfterDoctypeName = true
is_doctype_part (state.AfterDoctypeKeyword kind) = true
is_doctype_part (state.BeforeDoctypeIdentifier kind) = true
is_doctype_part (state.DoctypeIdentifierDoubleQuoted kind) = true
is_doctype_part (state.DoctypeIdentifierSingleQuoted kind) = true
is_doctype_part (state.AfterDoctypeIdentifier kind) = true
is_doctype_part state.BetweenDoctypePublicAndSystemIdentifiers = true
is_doctype_part state.BogusDoctype = true
is_doctype_part _ = false

-- in a comment, a declaration or a doctype
abbrev pub is_markup_part : State → Bool
is_markup_part st = is_comment_part st || is_doctype_part st
