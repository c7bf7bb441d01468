use Rattle.std.proofs.Common.{◌+◌, ◌∙◌, [], arith}
use Rattle.std.specs.String.{string_bytes}
use Rattle.std.proofs.lemmas.Str.{IsUtf8-drop, IsUtf8-string_bytes}
use Rattle.html_queue.proofs.Bytes.{IsPutBefore-replaced, on-ok}
use Rattle.html_queue.proofs.cursor.put_before.Goals as goal

pub returns-then-gap-eq0-clause-cut : goal.returns-then-gap-eq0-clause-cut
returns-then-gap-eq0-clause-cut c =
    let rest = IsUtf8-drop _ c.args.place (IsUtf8-string_bytes c.args.text.now) c.requires.place in
    on-ok c.replace_range.result _ _
    (λ e. (IsPutBefore-replaced _ _ [] c.args.more.now c.args.from c.args.place (c.args.from + c.args.gap)
    c.requires.cut.0 (omega (arith, c.if-gap-eq0.true)) c.utf8.more rest e).cut) c.replace_range.ensures.bytes

pub returns-clause-ok : goal.returns-clause-ok
returns-clause-ok c =
    let rest = IsUtf8-drop _ c.args.place (IsUtf8-string_bytes c.args.text.now) c.requires.place in
    let padded = c.as_str.ensures.value ∙ c.in_ok-push_str.ensures.bytes in
    on-ok c.replace_range-2.result _ _
    (λ e. (IsPutBefore-replaced _ _ (string_bytes c.in_ok-padded.padded) c.args.more.now c.args.from
    c.args.place (c.args.from + c.args.gap) c.requires.cut.0 (omega (arith, c.in_ok-padded.ensures))
    c.utf8.more rest (rw padded at e)).shows) c.replace_range-2.ensures.bytes

pub returns-clause-cut : goal.returns-clause-cut
returns-clause-cut c =
    let rest = IsUtf8-drop _ c.args.place (IsUtf8-string_bytes c.args.text.now) c.requires.place in
    let padded = c.as_str.ensures.value ∙ c.in_ok-push_str.ensures.bytes in
    on-ok c.replace_range-2.result _ _
    (λ e. (IsPutBefore-replaced _ _ (string_bytes c.in_ok-padded.padded) c.args.more.now c.args.from
    c.args.place (c.args.from + c.args.gap) c.requires.cut.0 (omega (arith, c.in_ok-padded.ensures))
    c.utf8.more rest (rw padded at e)).cut) c.replace_range-2.ensures.bytes

pub returns-then-gap-eq0-clause-ok : goal.returns-then-gap-eq0-clause-ok
returns-then-gap-eq0-clause-ok c =
    let rest = IsUtf8-drop _ c.args.place (IsUtf8-string_bytes c.args.text.now) c.requires.place in
    on-ok c.replace_range.result _ _
    (λ e. (IsPutBefore-replaced _ _ [] c.args.more.now c.args.from c.args.place (c.args.from + c.args.gap)
    c.requires.cut.0 (omega (arith, c.if-gap-eq0.true)) c.utf8.more rest e).shows) c.replace_range.ensures.bytes
