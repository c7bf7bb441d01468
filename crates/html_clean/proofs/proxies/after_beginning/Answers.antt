use Rattle.std.proofs.Common.{◌∙◌, Some, ap, arith, drop, false, length, sym, true}
use Rattle.std.specs.Str.{chars}
use Rattle.std.proofs.lemmas.Bool.{eq-eqb, ne_eqb}
use Rattle.std.proofs.lemmas.Iterator.{YieldsList-from_chars}
use Rattle.std.proofs.lemmas.Iterator.Consumers.{YieldsList-turn, YieldsList-end}
use Rattle.std.proofs.lemmas.List.{at_drop_all, length_push}
use Rattle.std.proofs.lemmas.Str.{IsUtf8-past_char}
use Rattle.html_clean.specs.Beginnings.{after_beginning}
use Rattle.html_clean.proofs.ValueTexts.{after-at, after-none}
use Rattle.html_clean.proofs.proxies.after_beginning.Goals as goal
use Rattle.html_clean.proofs.proxies.after_beginning.Goals.{in_default-via-in-Some-next+else-c-d, in_default-via-in_default}

pub loop-c-preserved : goal.loop-c-preserved
loop-c-preserved c =
    let cs = chars c.args.beginning.now in
    let n = length c.loop-c.yielded in
    let new = c.next-in-loop-c.new.self.rest.now in
    let t = YieldsList-turn (YieldsList-from_chars c.args.beginning.now c.utf8.beginning cc) c.loop-c.yielded _
    c.loop-c.yielded_by _ _ c.in-Some.c c.in-Some.is c.next.ensures.steps in
    record {
      same = ap (λ k. after_beginning (drop k cs) (chars new)) (length_push c.loop-c.yielded c.in-Some.c)
          ∙ (sym (after-at cs c.loop-c.rest.rest.now new n c.in-Some.c c.in-Some-next.d true c.loop-c.invariant.utf8
          c.in-Some-next.ensures.steps.0 t (eq-eqb _ _ c.if-c-d.true)) ∙ c.loop-c.invariant.same);
      utf8 = IsUtf8-past_char c.loop-c.rest.rest.now new c.in-Some-next.d c.loop-c.invariant.utf8 c.in-Some-next.ensures.steps.0;
    }

pub returns-in_default-clause-none : goal.returns-in_default-clause-none
returns-in_default-clause-none c =
    let t = YieldsList-turn (YieldsList-from_chars c.args.beginning.now c.utf8.beginning cc) c.loop-c.yielded _
    c.loop-c.yielded_by _ _ c.in-Some.c c.in-Some.is c.next.ensures.steps in
    let n = length c.loop-c.yielded in
    elim c.in_default.branch [
      | in_default-via-in-Some-next+else-c-d w ↦ sym c.loop-c.invariant.same ∙ after-at (chars c.args.beginning.now)
          c.loop-c.rest.rest.now c.next-in-loop-c.new.self.rest.now n c.in-Some.c w.in-Some-next.d false c.loop-c.invariant.utf8
          w.in-Some-next.ensures.steps.0 t (ne_eqb _ _ w.if-c-d.false)
      | in_default-via-in_default w ↦ sym c.loop-c.invariant.same ∙ after-none (chars c.args.beginning.now) c.loop-c.rest.rest.now
          n c.in-Some.c w.in_default.ensures.steps.0.0 t
    ]

pub returns-clause-some : goal.returns-clause-some
returns-clause-some c =
    let t = YieldsList-end (YieldsList-from_chars c.args.beginning.now c.utf8.beginning cc) c.loop-c.yielded _
    c.loop-c.yielded_by _ _ c.in-None.is c.next.ensures.steps in
    sym c.loop-c.invariant.same
    ∙ (at_drop_all (λ xs. after_beginning xs (chars c.loop-c.rest.rest.now)) (chars c.args.beginning.now) (length c.loop-c.yielded)
    (omega (arith, t.1)) ∙ ap (λ rest. Some (chars rest)) (sym c.as_str.ensures))
