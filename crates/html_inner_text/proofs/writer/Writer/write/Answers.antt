use Rattle.std.proofs.Common.{◌∙◌, ap, map-id, sym}
use Rattle.std.proofs.lemmas.Iterator.{YieldsList-from_chars}
use Rattle.std.proofs.lemmas.Iterator.Consumers.{YieldsList-end}
use Rattle.html_inner_text.specs.InnerText.{written}
use Rattle.html_inner_text.proofs.writer.Writer.write.Goals as goal

pub returns-clause-ok : goal.returns-clause-ok
returns-clause-ok c =
    let all = YieldsList-end (YieldsList-from_chars c.args.text.now c.utf8.text cc) c.loop-character.yielded _
    c.loop-character.yielded_by _ _ c.in-None.is c.next.ensures.steps in
    c.loop-character.invariant
    ∙ ap (written c.args.preserves c.args.self.now) (sym (map-id c.loop-character.yielded) ∙ all.0)
