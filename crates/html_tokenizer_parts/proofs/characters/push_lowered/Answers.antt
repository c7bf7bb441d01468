use Rattle.std.proofs.Common.{◌∙◌, ◌++◌, ap, map, map-id, sym}
use Rattle.std.specs.Char.{to_ascii_lowercase}
use Rattle.std.proofs.lemmas.Iterator.{YieldsList-from_chars}
use Rattle.std.proofs.lemmas.Iterator.Consumers.{YieldsList-end}
use Rattle.html_tokenizer_parts.proofs.characters.push_lowered.Goals as goal

pub returns-clause-ok : goal.returns-clause-ok
returns-clause-ok c =
    let all = YieldsList-end (YieldsList-from_chars c.args.more.now c.utf8.more cc) c.loop-c.yielded _
    c.loop-c.yielded_by _ _ c.in-None.is c.next.ensures.steps in
    c.loop-c.invariant ∙ ap (λ more. c.args.name.now ++ map to_ascii_lowercase more) (sym (map-id c.loop-c.yielded) ∙ all.0)
