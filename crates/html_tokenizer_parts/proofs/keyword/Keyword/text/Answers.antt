use Rattle.std.proofs.Common.{◌∙◌}
use Rattle.std.proofs.lemmas.List.{take_all}
use Rattle.html_tokenizer_parts.proofs.Keywords.{text-more}
use Rattle.html_tokenizer_parts.proofs.keyword.Keyword.text.Goals as goal

pub loop-c-preserved : goal.loop-c-preserved
loop-c-preserved c = text-more c.deref-c-items.result.now c.loop-c.text c.push.new.self c.loop-c.c-index
    c.c-item.result c.loop-c-test.true c.c-item.is c.loop-c.invariant c.in_ok-push.ensures.ok

pub returns-clause-ok : goal.returns-clause-ok
returns-clause-ok c = c.loop-c.invariant ∙ take_all c.loop-c.c-index c.deref-c-items.result.now c.loop-c-test.false
    ∙ c.deref-c-items.ensures.value ∙ c.self.view_is
