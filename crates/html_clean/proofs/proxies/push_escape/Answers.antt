use Rattle.html_clean.proofs.ValueTexts.{three-more}
use Rattle.html_clean.proofs.proxies.push_escape.Goals as goal

pub returns-clause-ok : goal.returns-clause-ok
returns-clause-ok c = rw (
  c.in_ok-push-3.ensures.ok,
  c.in_ok-push-2.ensures.ok,
  c.in_ok-push.ensures.ok,
  c.hex_digit.ensures,
  c.hex_digit-2.ensures,
) (three-more c.args.text.now _ _ _)
