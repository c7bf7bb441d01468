-- In each state nothing but the front of one item is held.
use Rattle.html_tokens.specs.declared.states.State.{State}
use Rattle.html_tokens.specs.declared.states.State.TheVariants as state
use Rattle.html_tokenizer.specs.declared.tokenizer.Tokenizer.{Tokenizer}
use Rattle.html_tokenizer_parts.specs.Keywords.{IsPart}
use Rattle.html_tokenizer.specs.Untold.{Untold}
use Rattle.html_tokenizer_parts.specs.Words.{BeginsEnd}
use Rattle.html_tokenizer.proofs.Untold.Markup.{open-front, end_open-front, declaration-front, bogus-front, comment_start-front}
use Rattle.html_tokenizer.proofs.Untold.Markup.{comment_start_dash-front, comment-front, comment_less_than-front}
use Rattle.html_tokenizer.proofs.Untold.Markup.{comment_bang-front, comment_bang_dash-front, comment_bang_dashes-front}
use Rattle.html_tokenizer.proofs.Untold.Markup.{comment_end_dash-front, comment_end-front, comment_end_bang-front}
use Rattle.html_tokenizer.proofs.Untold.Markup.{doctype-front, before_doctype-front, doctype_name-front}
use Rattle.html_tokenizer.proofs.Untold.Markup.{after_doctype_name-front, keyword-front, before_identifier-front}
use Rattle.html_tokenizer.proofs.Untold.Markup.{double_quoted-front, single_quoted-front, after_identifier-front, between-front}
use Rattle.html_tokenizer.proofs.Untold.Markup.{bogus_doctype-front}
use Rattle.html_tokenizer.proofs.Untold.RawText.{less_than-untold, end_open-untold, end_name-untold}
use Rattle.html_tokenizer.proofs.Untold.Tags.{tag_name-front, before_name-front, name-front, after_name-front}
use Rattle.html_tokenizer.proofs.Untold.Tags.{before_value-front, value-front, after_value-front, self_closing-front}
use Rattle.html_tokenizer.proofs.Untold.Text.{data-told, plaintext-told, raw-told, escape_start-told, escape_start_dash-told}
use Rattle.html_tokenizer.proofs.Untold.Text.{escaped_dash-told, escaped_dash_dash-told, double_escape_end-told, cdata-told}
use Rattle.html_tokenizer.proofs.Untold.Text.{bracket-front, brackets-front}

pub untold : (T : Type 0) {K : Type 0} (k : Tokenizer K) (st : State) → IsPart k.keyword
    → BeginsEnd k.raw_end.name k.raw_end.letters → Untold T st k
untold T k state.Data part begins = data-told T k
untold T k state.Plaintext part begins = plaintext-told T k
untold T k state.TagOpen part begins = open-front T k
untold T k state.EndTagOpen part begins = end_open-front T k
untold T k state.TagName part begins = tag_name-front T k
untold T k (state.RawData kind) part begins = raw-told T k kind
untold T k (state.RawLessThanSign kind) part begins = less_than-untold T k kind
untold T k (state.RawEndTagOpen kind) part begins = end_open-untold T k kind
untold T k (state.RawEndTagName kind) part begins = end_name-untold T k kind begins
untold T k (state.ScriptDataEscapeStart kind) part begins = escape_start-told T k kind
untold T k state.ScriptDataEscapeStartDash part begins = escape_start_dash-told T k
untold T k (state.ScriptDataEscapedDash kind) part begins = escaped_dash-told T k kind
untold T k (state.ScriptDataEscapedDashDash kind) part begins = escaped_dash_dash-told T k kind
untold T k state.ScriptDataDoubleEscapeEnd part begins = double_escape_end-told T k
untold T k state.BeforeAttributeName part begins = before_name-front T k
untold T k state.AttributeName part begins = name-front T k
untold T k state.AfterAttributeName part begins = after_name-front T k
untold T k state.BeforeAttributeValue part begins = before_value-front T k
untold T k (state.AttributeValue kind) part begins = value-front T k kind
untold T k state.AfterAttributeValueQuoted part begins = after_value-front T k
untold T k state.SelfClosingStartTag part begins = self_closing-front T k
untold T k state.BogusComment part begins = bogus-front T k
untold T k state.MarkupDeclarationOpen part begins = declaration-front T k part
untold T k state.CommentStart part begins = comment_start-front T k
untold T k state.CommentStartDash part begins = comment_start_dash-front T k
untold T k state.Comment part begins = comment-front T k
untold T k state.CommentLessThanSign part begins = comment_less_than-front T k
untold T k state.CommentLessThanSignBang part begins = comment_bang-front T k
untold T k state.CommentLessThanSignBangDash part begins = comment_bang_dash-front T k
untold T k state.CommentLessThanSignBangDashDash part begins = comment_bang_dashes-front T k
untold T k state.CommentEndDash part begins = comment_end_dash-front T k
untold T k state.CommentEnd part begins = comment_end-front T k
untold T k state.CommentEndBang part begins = comment_end_bang-front T k
untold T k state.Doctype part begins = doctype-front T k
untold T k state.BeforeDoctypeName part begins = before_doctype-front T k
untold T k state.DoctypeName part begins = doctype_name-front T k
untold T k state.AfterDoctypeName part begins = after_doctype_name-front T k part
untold T k (state.AfterDoctypeKeyword which) part begins = keyword-front T k which
untold T k (state.BeforeDoctypeIdentifier which) part begins = before_identifier-front T k which
untold T k (state.DoctypeIdentifierDoubleQuoted which) part begins = double_quoted-front T k which
untold T k (state.DoctypeIdentifierSingleQuoted which) part begins = single_quoted-front T k which
untold T k (state.AfterDoctypeIdentifier which) part begins = after_identifier-front T k which
untold T k state.BetweenDoctypePublicAndSystemIdentifiers part begins = between-front T k
untold T k state.BogusDoctype part begins = bogus_doctype-front T k
untold T k state.CdataSection part begins = cdata-told T k
untold T k state.CdataSectionBracket part begins = bracket-front T k
untold T k state.CdataSectionEnd part begins = brackets-front T k
