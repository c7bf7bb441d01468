use Rattle.std.proofs.Common.{◌∙◌, ap, sym, codes}
use Rattle.std.specs.Str.{bytes_eq}
use Rattle.html_faithful_judge.specs.Spots.{spot_of}
use Rattle.html_faithful_walk.proofs.Stands.{doctype-begins, doctype-in, doctype-odd}
use Rattle.html_faithful_walk.proofs.judge.Judge.doctype.Goals as goal

pub returns-then-not-is_html-clause-ok : goal.returns-then-not-is_html-clause-ok
returns-then-not-is_html-clause-ok c =
    doctype-odd _ _ _ c.args.self.now.stand c.args.self.now.stand (spot_of c.args.self.now.made.spot)
    (spot_of c.args.self.now.made.spot) c.in-Start.is
    (ap (λ cs. bytes_eq cs (codes "html")) (sym c.as_str.ensures) ∙ (sym c.is_html.ensures ∙ c.if-not-is_html.true))

pub returns-else-not-is_html-clause-ok : goal.returns-else-not-is_html-clause-ok
returns-else-not-is_html-clause-ok c scripting rest =
    doctype-begins scripting _ _ _ c.args.self.now.stand _ c.in-Start.is
    (ap (λ cs. bytes_eq cs (codes "html")) (sym c.as_str.ensures) ∙ (sym c.is_html.ensures ∙ c.if-not-is_html.false)) rest

pub returns-in-Any-clause-ok : goal.returns-in-Any-clause-ok
returns-in-Any-clause-ok c scripting rest = doctype-in scripting _ _ _ c.args.self.now.stand _ rest _ c.in-Any.is
