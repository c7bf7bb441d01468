-- The "in head noscript" insertion mode (HTML Standard, section 13.2.6.4.5).
use Rattle.std.specs.Prelude.{List, [], ◌∷◌}
use Rattle.html_rules.specs.Table.{Row, StartTags, EndTags, AnyEndTag, WhiteSpace, Comment, AnythingElse, Nothing, ParseError}
use Rattle.html_rules.specs.Table.{Pop, SwitchTo, Done, Reprocess, Using, row, ◌▸◌}
use Rattle.html_rules.specs.declared.insertion_mode.InsertionMode.TheVariants.{InHead, InBody}
use Rattle.html_rules.specs.declared.tag_set.TagSet.TheVariants as set

abbrev pub in_head_noscript : List Row
in_head_noscript =
    row (StartTags set.Html) Nothing (Using InBody)
    ∷ row (EndTags set.Noscript) (Pop ▸ SwitchTo InHead) Done
    ∷ row WhiteSpace Nothing (Using InHead)
    ∷ row Comment Nothing (Using InHead)
    ∷ row (StartTags set.NoscriptContent) Nothing (Using InHead)
    ∷ row (EndTags set.Br) (ParseError ▸ Pop) (Reprocess InHead)
    ∷ row (StartTags set.HeadNoscript) ParseError Done
    ∷ row AnyEndTag ParseError Done
    ∷ row AnythingElse (ParseError ▸ Pop) (Reprocess InHead)
    ∷ []
