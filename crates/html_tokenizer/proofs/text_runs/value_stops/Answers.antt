use Rattle.std.proofs.Common.{rules}
use Rattle.html_tokenizer.proofs.text_runs.value_stops.Goals as goal

pub returns-in-DoubleQuoted : goal.returns-in-DoubleQuoted
returns-in-DoubleQuoted c = search rules
