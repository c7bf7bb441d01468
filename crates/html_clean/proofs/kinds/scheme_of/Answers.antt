use Rattle.std.proofs.Common.{◌≡◌, ◌∙◌, ℕ, ◌+◌, [], ◌∷◌, ◌++◌, length, drop, ap, sym, arith}
use Rattle.std.specs.Char.{to_ascii_lowercase}
use Rattle.std.specs.Str.{chars}
use Rattle.std.proofs.lemmas.Iterator.{YieldsList-from_chars}
use Rattle.std.proofs.lemmas.Iterator.Consumers.{YieldsList-turn, YieldsList-end}
use Rattle.std.proofs.lemmas.List.{at_drop_all, length_push}
use Rattle.html_clean.specs.Urls.{scheme_after, scheme_by, step_of}
use Rattle.html_clean.specs.declared.kinds.SchemeStep.TheVariants.{Ends, Stops, Grows}
use Rattle.html_clean.proofs.Urls.{scheme-at, scheme-end}
use Rattle.html_clean.proofs.kinds.scheme_of.Goals as goal

pub returns-in-Ends-clause-ok : goal.returns-in-Ends-clause-ok
returns-in-Ends-clause-ok c =
    let t = YieldsList-turn (YieldsList-from_chars c.args.text.now c.utf8.text cc) c.loop-c.yielded _
    c.loop-c.yielded_by _ _ c.in-Some.c c.in-Some.is c.next.ensures.steps in
    let is : step_of c.loop-c.name c.in-Some.c ≡ Ends = cc in
    let later = scheme_after (c.loop-c.name ++ to_ascii_lowercase c.in-Some.c ∷ [])
    (drop (length c.loop-c.yielded + 1) (chars c.args.text.now)) in
    let e = scheme-at c.loop-c.name (chars c.args.text.now) (length c.loop-c.yielded) c.in-Some.c t in
    sym (sym c.loop-c.invariant ∙ (e ∙ ap (λ k. scheme_by k c.loop-c.name later) is))

pub returns-in-Stops-clause-ok : goal.returns-in-Stops-clause-ok
returns-in-Stops-clause-ok c =
    let t = YieldsList-turn (YieldsList-from_chars c.args.text.now c.utf8.text cc) c.loop-c.yielded _
    c.loop-c.yielded_by _ _ c.in-Some.c c.in-Some.is c.next.ensures.steps in
    let is : step_of c.loop-c.name c.in-Some.c ≡ Stops = cc in
    let later = scheme_after (c.loop-c.name ++ to_ascii_lowercase c.in-Some.c ∷ [])
    (drop (length c.loop-c.yielded + 1) (chars c.args.text.now)) in
    let e = scheme-at c.loop-c.name (chars c.args.text.now) (length c.loop-c.yielded) c.in-Some.c t in
    sym (sym c.loop-c.invariant ∙ (e ∙ ap (λ k. scheme_by k c.loop-c.name later) is))

pub loop-c-preserved : goal.loop-c-preserved
loop-c-preserved c =
    let t = YieldsList-turn (YieldsList-from_chars c.args.text.now c.utf8.text cc) c.loop-c.yielded _
    c.loop-c.yielded_by _ _ c.in-Some.c c.in-Some.is c.next.ensures.steps in
    let is : step_of c.loop-c.name c.in-Some.c ≡ Grows = cc in
    let cs = chars c.args.text.now in
    let later = scheme_after (c.loop-c.name ++ to_ascii_lowercase c.in-Some.c ∷ []) (drop (length c.loop-c.yielded + 1) cs) in
    let e = scheme-at c.loop-c.name cs (length c.loop-c.yielded) c.in-Some.c t in
    let n = length_push c.loop-c.yielded c.in-Some.c in
    ap (λ (n : ℕ). scheme_after c.push.new.self (drop n cs)) n
    ∙ (ap (λ name. scheme_after name (drop (length c.loop-c.yielded + 1) cs))
    (c.in_ok-push-in-Grows.ensures.ok ∙ ap (λ x. c.loop-c.name ++ x ∷ []) c.to_ascii_lowercase.ensures.value)
    ∙ (sym (e ∙ ap (λ k. scheme_by k c.loop-c.name later) is) ∙ c.loop-c.invariant))

pub returns-clause-ok : goal.returns-clause-ok
returns-clause-ok c =
    let t = YieldsList-end (YieldsList-from_chars c.args.text.now c.utf8.text cc) c.loop-c.yielded _
    c.loop-c.yielded_by _ _ c.in-None.is c.next.ensures.steps in
    sym (sym c.loop-c.invariant
    ∙ (at_drop_all (scheme_after c.loop-c.name) (chars c.args.text.now) (length c.loop-c.yielded)
    (omega (arith, t.1)) ∙ scheme-end c.loop-c.name))
