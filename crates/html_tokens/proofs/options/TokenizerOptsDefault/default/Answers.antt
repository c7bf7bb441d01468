use Rattle.std.proofs.Common.{rules}
use Rattle.html_tokens.proofs.options.TokenizerOptsDefault.default.Goals as goal

pub returns : goal.returns
returns c = search rules
