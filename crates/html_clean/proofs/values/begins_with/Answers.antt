use Rattle.std.proofs.Common.{◌∙◌, false, true, ap, arith, drop, length, sym}
use Rattle.std.specs.Str.{chars}
use Rattle.std.proofs.lemmas.Bool.{eq-eqb, ne_eqb}
use Rattle.std.proofs.lemmas.Iterator.{YieldsList-from_chars}
use Rattle.std.proofs.lemmas.Iterator.Consumers.{YieldsList-turn, YieldsList-end}
use Rattle.std.proofs.lemmas.List.{at_drop_all, length_push}
use Rattle.std.proofs.lemmas.Str.{IsUtf8-past_char}
use Rattle.html_clean.specs.Beginnings.{begins_with}
use Rattle.html_clean.proofs.ValueTexts.{begins-at, begins-none}
use Rattle.html_clean.proofs.values.begins_with.Goals as goal

pub loop-c-preserved : goal.loop-c-preserved
loop-c-preserved c =
    let cs = chars c.args.beginning.now in
    let n = length c.loop-c.yielded in
    let new = c.next-in-loop-c.new.self.rest.now in
    let t = YieldsList-turn (YieldsList-from_chars c.args.beginning.now c.utf8.beginning cc) c.loop-c.yielded _
    c.loop-c.yielded_by _ _ c.in-Some.c c.in-Some.is c.next.ensures.steps in
    record {
      same = ap (λ k. begins_with (drop k cs) (chars new)) (length_push c.loop-c.yielded c.in-Some.c)
          ∙ (sym (begins-at cs c.loop-c.rest.rest.now new n c.in-Some.c c.in-Some-next.d true c.loop-c.invariant.utf8
          c.in-Some-next.ensures.steps.0 t (eq-eqb _ _ c.if-c-d.true)) ∙ c.loop-c.invariant.same);
      utf8 = IsUtf8-past_char c.loop-c.rest.rest.now new c.in-Some-next.d c.loop-c.invariant.utf8 c.in-Some-next.ensures.steps.0;
    }

pub returns-in_default : goal.returns-in_default
returns-in_default c =
    let t = YieldsList-turn (YieldsList-from_chars c.args.beginning.now c.utf8.beginning cc) c.loop-c.yielded _
    c.loop-c.yielded_by _ _ c.in-Some.c c.in-Some.is c.next.ensures.steps in
    sym (sym c.loop-c.invariant.same ∙ begins-at (chars c.args.beginning.now) c.loop-c.rest.rest.now
    c.next-in-loop-c.new.self.rest.now (length c.loop-c.yielded) c.in-Some.c c.in-Some-next.d false c.loop-c.invariant.utf8
    c.in-Some-next.ensures.steps.0 t (ne_eqb _ _ c.if-c-d.false))

pub returns-in_default-2 : goal.returns-in_default-2
returns-in_default-2 c =
    let t = YieldsList-turn (YieldsList-from_chars c.args.beginning.now c.utf8.beginning cc) c.loop-c.yielded _
    c.loop-c.yielded_by _ _ c.in-Some.c c.in-Some.is c.next.ensures.steps in
    sym (sym c.loop-c.invariant.same ∙ begins-none (chars c.args.beginning.now) c.loop-c.rest.rest.now
    (length c.loop-c.yielded) c.in-Some.c c.in_default.ensures.steps.0.0 t)

pub returns : goal.returns
returns c =
    let t = YieldsList-end (YieldsList-from_chars c.args.beginning.now c.utf8.beginning cc) c.loop-c.yielded _
    c.loop-c.yielded_by _ _ c.in-None.is c.next.ensures.steps in
    sym (sym c.loop-c.invariant.same
    ∙ at_drop_all (λ xs. begins_with xs (chars c.loop-c.rest.rest.now)) (chars c.args.beginning.now) (length c.loop-c.yielded)
    (omega (arith, t.1)))
