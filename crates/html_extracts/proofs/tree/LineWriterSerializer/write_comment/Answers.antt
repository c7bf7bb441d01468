use Rattle.std.proofs.Common.{List, ℕ, ◌++◌, ap, sym, codes}
use Rattle.std.proofs.lemmas.Str.{encodes-chars}
use Rattle.std.specs.Str.{chars}
use Rattle.markup.specs.Calls.Call.{WriteComment}
use Rattle.html_extracts.specs.Lines.{line}
use Rattle.html_extracts.proofs.Listing.{answered}
use Rattle.html_extracts.proofs.tree.LineWriterSerializer.write_comment.Goals as goal

pub returns-clause-answers : goal.returns-clause-answers
returns-clause-answers g c =
    let indent = c.args.self.now.indent.items in
    let text = c.args.text.now in
    answered (WriteComment (chars text)) indent _ _ _ (line indent (codes "<!-- " ++ text ++ codes " -->"))
    c.put_line.result
    (ap (λ (bytes : List ℕ). line indent (codes "<!-- " ++ bytes ++ codes " -->")) (sym (encodes-chars text c.utf8.text)))
    (ap (λ v. v.items) c.put_line.ensures.indent) c.put_line.ensures.writes
