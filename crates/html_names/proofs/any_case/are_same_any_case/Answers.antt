use Rattle.html_names.proofs.AnyCase.{same-lowered}
use Rattle.html_names.proofs.any_case.are_same_any_case.Goals as goal

pub returns : goal.returns
returns c = same-lowered c.eq_ignore_ascii_case.result c.args.a.now c.args.b.now c.utf8.a c.utf8.b c.eq_ignore_ascii_case.ensures.test
