use Rattle.std.specs.Str.{chars}
use Rattle.html_faithful_judge.proofs.Turns.{script-letters}
use Rattle.html_faithful_judge.proofs.texts.is_raw.Goals as goal

pub goes_on-requires-then-is_script : goal.goes_on-requires-then-is_script
goes_on-requires-then-is_script c = script-letters (chars c.args.name.now) _ c.is_script.ensures c.if-is_script.true
