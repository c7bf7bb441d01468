-- The "text" insertion mode (HTML Standard, section 13.2.6.4.8).
use Rattle.std.specs.Prelude.{List, [], ◌∷◌}
use Rattle.html_rules.specs.Table.{Row, EndTags, AnyEndTag, Character, EndOfFile, AnythingElse, Nothing, ParseError, AppendText}
use Rattle.html_rules.specs.Table.{Pop, RestoreMode, Done, ReprocessInOriginal, RunScript, row, ◌▸◌}
use Rattle.html_rules.specs.declared.tag_set.TagSet.TheVariants as set

abbrev pub text : List Row
text =
    row Character AppendText Done
    ∷ row EndOfFile (ParseError ▸ Pop) ReprocessInOriginal
    ∷ row (EndTags set.Script) (Pop ▸ RestoreMode) RunScript
    ∷ row AnyEndTag (Pop ▸ RestoreMode) Done
    ∷ row AnythingElse Nothing Done
    ∷ []
