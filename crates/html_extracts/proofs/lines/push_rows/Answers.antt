use Rattle.std.proofs.Common.{◌∙◌, List, ℕ, ◌++◌, ap, sym, append_assoc, codes, encode_utf8_all}
use Rattle.std.proofs.lemmas.Map.Iter.{rest_more}
use Rattle.std.specs.Map.Iter.{deref_pair}
use Rattle.html_extracts.specs.Lines.{line, row_lines}
use Rattle.html_extracts.proofs.Spelled.{bytes_of}
use Rattle.html_extracts.proofs.lines.push_rows.Goals as goal

pub loop-name-preserved : goal.loop-name-preserved
loop-name-preserved c =
    let indent = c.args.indent.now in
    let before = c.loop-name.lines.items in
    let left = c.next.new.self in
    let next = rest_more deref_pair c.loop-name.name-iterator left c.next.result (c.in-Some.name, c.in-Some.value)
    c.in-Some.is c.next.ensures.steps in
    let name = bytes_of c.as_str.result.now _ c.as_str.utf8 c.as_str.ensures in
    let value = bytes_of c.as_str-in-loop-name.result.now _ c.as_str-in-loop-name.utf8 c.as_str-in-loop-name.ensures in
    let pushed = c.in_ok-push_row.ensures.ok
    ∙ (ap (λ (bytes : List ℕ). before ++ line indent (bytes ++ codes "=\"" ++ c.as_str-in-loop-name.result.now ++ codes "\"")) name
    ∙ ap (λ (bytes : List ℕ). before ++ line indent (encode_utf8_all c.in-Some.name.now ++ codes "=\"" ++ bytes ++ codes "\"")) value) in
    ap (λ (lines : List ℕ). lines ++ row_lines indent left) pushed
    ∙ (append_assoc before _ _ ∙ (ap (λ rows. before ++ row_lines indent rows) (sym next) ∙ c.loop-name.invariant))
