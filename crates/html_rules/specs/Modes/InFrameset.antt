-- The "in frameset" insertion mode (HTML Standard, section 13.2.6.4.18).
use Rattle.std.specs.Prelude.{List, [], ◌∷◌}
use Rattle.html_rules.specs.Table.{Row, StartTags, EndTags, WhiteSpace, Comment, EndOfFile, AnythingElse, Not, Both, InFragment}
use Rattle.html_rules.specs.Table.{CurrentIs, RootAlone, Nothing, When, ParseError, InsertElement, InsertVoid, AppendText}
use Rattle.html_rules.specs.Table.{AppendComment, Pop, SwitchTo, Done, Acknowledged, Using, row, row_if, ◌▸◌}
use Rattle.html_rules.specs.declared.insertion_mode.InsertionMode.TheVariants.{InHead, InBody, AfterFrameset}
use Rattle.html_rules.specs.declared.tag_set.TagSet.TheVariants as set

abbrev pub in_frameset : List Row
in_frameset =
    row WhiteSpace AppendText Done
    ∷ row Comment AppendComment Done
    ∷ row (StartTags set.Html) Nothing (Using InBody)
    ∷ row (StartTags set.Frameset) InsertElement Done
    ∷ row_if (EndTags set.Frameset) RootAlone ParseError Done
    ∷ row (EndTags set.Frameset) (Pop ▸ When (Both (Not InFragment) (Not (CurrentIs set.Frameset))) (SwitchTo AfterFrameset)) Done
    ∷ row (StartTags set.Frame) InsertVoid Acknowledged
    ∷ row (StartTags set.Noframes) Nothing (Using InHead)
    ∷ row EndOfFile (When (Not RootAlone) ParseError) Done
    ∷ row AnythingElse ParseError Done
    ∷ []
