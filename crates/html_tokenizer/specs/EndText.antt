-- The states in which the end of the input ends text or a tag.
use Rattle.std.specs.Prelude.{Bool, true, false}
use Rattle.html_tokens.specs.declared.states.ScriptEscapeKind.TheVariants as script
use Rattle.html_tokens.specs.declared.states.State.{State}
use Rattle.html_tokens.specs.declared.states.State.TheVariants as state
use Rattle.html_tokens.specs.Item.{is_escaped_kind}

-- in text of which nothing is held
abbrev pub is_emitted_text : State → Bool
is_emitted_text state.Data = true
is_emitted_text state.Plaintext = true
is_emitted_text (state.RawData kind) = true
is_emitted_text (state.ScriptDataEscapeStart kind) = true
is_emitted_text state.ScriptDataEscapeStartDash = true
is_emitted_text (state.ScriptDataEscapedDash kind) = true
is_emitted_text (state.ScriptDataEscapedDashDash kind) = true
is_emitted_text state.ScriptDataDoubleEscapeEnd = true
is_emitted_text _ = false

-- in a tag, which is not told
abbrev pub is_tag_part : State → Bool
is_tag_part state.TagName = true
is_tag_part state.BeforeAttributeName = true
is_tag_part state.AttributeName = true
is_tag_part state.AfterAttributeName = true
is_tag_part state.BeforeAttributeValue = true
is_tag_part (state.AttributeValue kind) = true
is_tag_part state.AfterAttributeValueQuoted = true
is_tag_part state.SelfClosingStartTag = true
is_tag_part _ = false

-- in a script's text that is escaped
abbrev pub is_escaped : State → Bool
is_escaped (state.RawData kind) = is_escaped_kind kind
is_escaped (state.RawLessThanSign kind) = is_escaped_kind kind
is_escaped (state.RawEndTagOpen kind) = is_escaped_kind kind
is_escaped (state.RawEndTagName kind) = is_escaped_kind kind
is_escaped (state.ScriptDataEscapeStart script.DoubleEscaped) = true
is_escaped (state.ScriptDataEscapedDash kind) = true
is_escaped (state.ScriptDataEscapedDashDash kind) = true
is_escaped state.ScriptDataDoubleEscapeEnd = true
is_escaped _ = false
