use Rattle.std.proofs.Common.{◌∙◌, ap, length, map-id, sym}
use Rattle.std.specs.Char.{is_ascii_digit}
use Rattle.std.specs.List.{fold, list_all}
use Rattle.std.specs.Str.{chars}
use Rattle.std.proofs.lemmas.Iterator.{YieldsList-from_chars}
use Rattle.std.proofs.lemmas.Iterator.Consumers.{YieldsList-turn, YieldsList-end}
use Rattle.html_policy_text.specs.Bounded.{with_digit}
use Rattle.html_clean.proofs.ValueTexts.{not-all}
use Rattle.html_policy_text.proofs.bounded.number.Goals as goal

pub returns-then-not-is_ascii_digit-clause-none : goal.returns-then-not-is_ascii_digit-clause-none
returns-then-not-is_ascii_digit-clause-none c =
    let t = YieldsList-turn (YieldsList-from_chars c.args.text.now c.utf8.text cc) c.loop-c.yielded _
    c.loop-c.yielded_by _ _ c.in-Some.c c.in-Some.is c.next.ensures.steps in
    not-all is_ascii_digit (chars c.args.text.now) (length c.loop-c.yielded) c.in-Some.c t
    (sym c.is_ascii_digit.ensures.value ∙ c.if-not-is_ascii_digit.true)

pub returns-clause-some : goal.returns-clause-some
returns-clause-some c =
    let all = YieldsList-end (YieldsList-from_chars c.args.text.now c.utf8.text cc) c.loop-c.yielded _
    c.loop-c.yielded_by _ _ c.in-None.is c.next.ensures.steps in
    c.loop-c.invariant.value ∙ ap (fold with_digit 0) (sym (map-id c.loop-c.yielded) ∙ all.0)

pub returns-clause-digits : goal.returns-clause-digits
returns-clause-digits c =
    let all = YieldsList-end (YieldsList-from_chars c.args.text.now c.utf8.text cc) c.loop-c.yielded _
    c.loop-c.yielded_by _ _ c.in-None.is c.next.ensures.steps in
    ap (list_all is_ascii_digit) (sym (sym (map-id c.loop-c.yielded) ∙ all.0)) ∙ c.loop-c.invariant.digits
