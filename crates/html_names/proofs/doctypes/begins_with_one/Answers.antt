use Rattle.html_names.proofs.AnyCase.{begins-one}
use Rattle.html_names.proofs.doctypes.begins_with_one.Goals as goal

pub returns-in-Some : goal.returns-in-Some
returns-in-Some c = rw (c.in-Some.is, c.begins_with_any.ensures, c.as_str.ensures) (begins-one c.in-Some.part c.args.prefixes.now)
