use Rattle.std.proofs.Common.{◌≡◌, ◌∙◌, ap, sym, false}
use Rattle.markup.specs.Trees.{Entry}
use Rattle.html_serialize.proofs.Steps.{Does-puts}
use Rattle.html_serialize.proofs.TagBytes.{bytes-chars, end_tag-bytes}
use Rattle.html_serialize.specs.Serializing.{top_of}
use Rattle.html_serialize.proofs.calls.end_elem.Goals as goal

pub returns-in-Some-clause-does : goal.returns-in-Some-clause-does
returns-in-Some-clause-does g c =
    let whole = c.end_tag.ensures c.args.name.now.local c.in-Some.ensures.found in
    let kept : (top_of c.args.stack.now).ignores_children ≡ false = ap (λ (entry : Entry). entry.ignores_children)
    (sym (c.own.view_is ∙ c.in_ok-own.ensures.takes.1)) ∙ c.if-own.false in
    Does-puts _ _ _ _ _ _ _ c.in_ok-own.ensures.takes.0 (rw (kept, ← whole, ← c.as_bytes.ensures.value) c.put.ensures.puts)

pub returns-in-None-clause-does : goal.returns-in-None-clause-does
returns-in-None-clause-does g c =
    let whole = end_tag-bytes c.args.name.now.local c.as_str.result.now
    (bytes-chars c.as_str.result.now _ c.as_str.utf8 c.as_str.ensures) in
    let kept : (top_of c.args.stack.now).ignores_children ≡ false = ap (λ (entry : Entry). entry.ignores_children)
    (sym (c.own.view_is ∙ c.in_ok-own.ensures.takes.1)) ∙ c.if-own.false in
    Does-puts _ _ _ _ _ _ _ c.in_ok-own.ensures.takes.0 (rw (kept, whole) c.put_three.ensures.puts)
