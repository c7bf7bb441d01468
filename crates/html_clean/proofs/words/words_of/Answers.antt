use Rattle.std.proofs.Common.{◌∙◌, ◌+◌, false, true, [], ◌++◌, ap, arith, drop, length, sym}
use Rattle.std.specs.Str.{chars}
use Rattle.std.proofs.lemmas.Iterator.{YieldsList-from_chars}
use Rattle.std.proofs.lemmas.Iterator.Consumers.{YieldsList-turn, YieldsList-end}
use Rattle.std.proofs.lemmas.List.{at_drop_all, length_push}
use Rattle.html_clean.specs.Values.{words_from}
use Rattle.html_clean.proofs.ValueTexts.{words-at}
use Rattle.html_clean.proofs.words.words_of.Goals as goal

pub loop-c-preserved-in-Continue-1 : goal.loop-c-preserved-in-Continue-1
loop-c-preserved-in-Continue-1 c =
    let cs = chars c.args.text.now in
    let n = length c.loop-c.yielded in
    let t = YieldsList-turn (YieldsList-from_chars c.args.text.now c.utf8.text cc) c.loop-c.yielded _
    c.loop-c.yielded_by _ _ c.in-Some.c c.in-Some.is c.next.ensures.steps in
    ap (λ k. c.end_word.new.words.items ++ words_from c.end_word.new.word (drop k cs)) (length_push c.loop-c.yielded c.in-Some.c)
    ∙ (ap (λ word. c.end_word.new.words.items ++ words_from word (drop (n + 1) cs)) c.in_ok-end_word.ensures.left
    ∙ (ap (λ made. made ++ words_from [] (drop (n + 1) cs)) c.in_ok-end_word.ensures.pushed
    ∙ (sym (words-at c.loop-c.words.items c.loop-c.word cs n c.in-Some.c true t
    (sym c.is_ascii_whitespace.ensures.value ∙ c.if-is_ascii_whitespace.true)) ∙ c.loop-c.invariant)))

pub loop-c-preserved : goal.loop-c-preserved
loop-c-preserved c =
    let cs = chars c.args.text.now in
    let n = length c.loop-c.yielded in
    let t = YieldsList-turn (YieldsList-from_chars c.args.text.now c.utf8.text cc) c.loop-c.yielded _
    c.loop-c.yielded_by _ _ c.in-Some.c c.in-Some.is c.next.ensures.steps in
    ap (λ k. c.loop-c.words.items ++ words_from c.push.new.self (drop k cs)) (length_push c.loop-c.yielded c.in-Some.c)
    ∙ (ap (λ word. c.loop-c.words.items ++ words_from word (drop (n + 1) cs)) c.in_ok-push.ensures.ok
    ∙ (sym (words-at c.loop-c.words.items c.loop-c.word cs n c.in-Some.c false t
    (sym c.is_ascii_whitespace.ensures.value ∙ c.if-is_ascii_whitespace.false)) ∙ c.loop-c.invariant))

pub returns-clause-ok : goal.returns-clause-ok
returns-clause-ok c =
    let t = YieldsList-end (YieldsList-from_chars c.args.text.now c.utf8.text cc) c.loop-c.yielded _
    c.loop-c.yielded_by _ _ c.in-None.is c.next.ensures.steps in
    c.in_ok-end_word-2.ensures.pushed
    ∙ (sym (at_drop_all (λ xs. c.loop-c.words.items ++ words_from c.loop-c.word xs) (chars c.args.text.now) (length c.loop-c.yielded)
    (omega (arith, t.1))) ∙ c.loop-c.invariant)
