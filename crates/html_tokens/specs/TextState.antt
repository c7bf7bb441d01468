-- The states in which text is read (HTML Standard, sections 13.2.5.1 to 13.2.5.5).
use Rattle.std.specs.Prelude.{Bool, true, false}
use Rattle.html_tokens.specs.declared.states.RawKind.TheVariants.{Rcdata, Rawtext, ScriptData}
use Rattle.html_tokens.specs.declared.states.State.{State}
use Rattle.html_tokens.specs.declared.states.State.TheVariants.{Data, Plaintext, RawData}

abbrev pub is_text_state : State → Bool
is_text_state Data = true
is_text_state Plaintext = true
is_text_state (RawData Rcdata) = true
is_text_state (RawData Rawtext) = true
is_text_state (RawData ScriptData) = true
is_text_state _ = false
