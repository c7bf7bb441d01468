use Rattle.std.proofs.Common.{◌≡◌, ◌∙◌, ap, sym, true}
use Rattle.std.proofs.lemmas.Str.{encodes-chars}
use Rattle.markup.specs.Trees.{Entry}
use Rattle.html_serialize.proofs.Steps.{Does-puts}
use Rattle.html_serialize.specs.Serializing.{top_of}
use Rattle.html_serialize.proofs.calls.write_text.Goals as goal

pub returns-then-under-clause-does : goal.returns-then-under-clause-does
returns-then-under-clause-does g c =
    let raw : (top_of c.args.stack.now).raw_text ≡ true = ap (λ (entry : Entry). entry.raw_text)
    (sym (c.under.view_is ∙ c.in_ok-under.ensures.1)) ∙ c.if-under.true in
    Does-puts _ _ _ _ _ _ _ c.in_ok-under.ensures.0
    (rw (raw, encodes-chars c.args.text.now c.utf8.text, ← c.as_bytes.ensures.value) c.put.ensures.puts)
