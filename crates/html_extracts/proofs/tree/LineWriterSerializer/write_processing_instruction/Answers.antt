use Rattle.std.proofs.Common.{◌∙◌, List, ℕ, ◌++◌, ap, sym, codes, encode_utf8_all}
use Rattle.std.proofs.lemmas.Str.{encodes-chars}
use Rattle.std.specs.Str.{chars}
use Rattle.markup.specs.Calls.Call.{WriteProcessingInstruction}
use Rattle.html_extracts.specs.Lines.{line}
use Rattle.html_extracts.proofs.Listing.{answered}
use Rattle.html_extracts.proofs.tree.LineWriterSerializer.write_processing_instruction.Goals as goal

pub returns-clause-answers : goal.returns-clause-answers
returns-clause-answers g c =
    let indent = c.args.self.now.indent.items in
    let target = c.args.target.now in
    let text = c.args.contents.now in
    answered (WriteProcessingInstruction (chars target) (chars text)) indent _ _ _
    (line indent (codes "<?" ++ target ++ codes " " ++ text ++ codes ">"))
    c.put_instruction.result
    (ap (λ (bytes : List ℕ). line indent (codes "<?" ++ bytes ++ codes " " ++ text ++ codes ">")) (sym (encodes-chars target c.utf8.target))
    ∙ ap (λ (bytes : List ℕ). line indent (codes "<?" ++ encode_utf8_all (chars target) ++ codes " " ++ bytes
    ++ codes ">")) (sym (encodes-chars text c.utf8.contents)))
    (ap (λ v. v.items) c.put_instruction.ensures.indent) c.put_instruction.ensures.writes
