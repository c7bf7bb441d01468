use Rattle.std.proofs.Common.{◌≡◌, ◌∙◌, ◌||◌, true, false, ap, map-id, sym}
use Rattle.std.specs.Prelude.{not}
use Rattle.std.proofs.lemmas.Iterator.{YieldsList-from_chars}
use Rattle.std.proofs.lemmas.Iterator.Consumers.{YieldsList-end}
use Rattle.html_clean.specs.Urls.{has_begun, is_blank, url_text}
use Rattle.html_clean.proofs.Urls.{grown, has_begun-more}
use Rattle.html_clean.proofs.kinds.url_text.Goals as goal

pub loop-c-preserved-in-Continue-1 : goal.loop-c-preserved-in-Continue-1
loop-c-preserved-in-Continue-1 c =
    let ys = c.loop-c.yielded in
    let x = c.in-Some.c in
    let begun : c.begins-begun.result ≡ (has_begun ys || not (is_blank x)) = c.begins-begun.ensures
    ∙ ap (λ b. b || not (is_blank x)) c.loop-c.invariant.begun in
    record {
      made = c.in_ok-push.ensures.ok ∙ grown ys x c.loop-c.made c.begins-begun.result true
          c.loop-c.invariant.made begun (sym c.if-takes.true ∙ c.takes.ensures);
      begun = begun ∙ sym (has_begun-more ys x);
    }

pub loop-c-preserved : goal.loop-c-preserved
loop-c-preserved c =
    let ys = c.loop-c.yielded in
    let x = c.in-Some.c in
    let begun : c.begins-begun.result ≡ (has_begun ys || not (is_blank x)) = c.begins-begun.ensures
    ∙ ap (λ b. b || not (is_blank x)) c.loop-c.invariant.begun in
    record {
      made = grown ys x c.loop-c.made c.begins-begun.result false c.loop-c.invariant.made begun
          (sym c.if-takes.false ∙ c.takes.ensures);
      begun = begun ∙ sym (has_begun-more ys x);
    }

pub returns-clause-ok : goal.returns-clause-ok
returns-clause-ok c =
    let all = YieldsList-end (YieldsList-from_chars c.args.value.now c.utf8.value cc) c.loop-c.yielded _
    c.loop-c.yielded_by _ _ c.in-None.is c.next.ensures.steps in
    c.loop-c.invariant.made ∙ ap url_text (sym (map-id c.loop-c.yielded) ∙ all.0)
