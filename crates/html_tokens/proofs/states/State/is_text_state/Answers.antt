use Rattle.std.proofs.Common.{rules}
use Rattle.html_tokens.proofs.states.State.is_text_state.Goals as goal

pub returns-in_default : goal.returns-in_default
returns-in_default c = search rules
