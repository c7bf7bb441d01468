use Rattle.std.specs.Str.{chars}
use Rattle.html_faithful_judge.proofs.Lacking.{with-kept}
use Rattle.html_faithful_judge.proofs.texts.is_comment_text.Goals as goal

pub returns-then-lacks-clause-ok : goal.returns-then-lacks-clause-ok
returns-then-lacks-clause-ok c =
    with-kept (chars c.args.text.now) c.is_kept.result c.is_kept.ensures c.if-not-is_kept.false (c.lacks.ensures c.if-lacks.true)
