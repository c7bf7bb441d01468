-- Where the first rows are noted, for each family of names.
use Rattle.std.specs.Prelude.{◌≡◌, ◌<◌, ℕ, List, length, get_or}
use Rattle.html_tokens.specs.declared.tags.TagKind.{TagKind}
use Rattle.html_tokens.specs.declared.tags.TagKind.TheVariants.{StartTag, EndTag}
use Rattle.html_rules.specs.declared.insertion_mode.InsertionMode.{InsertionMode}
use Rattle.html_rules.specs.declared.insertion_mode.InsertionMode.TheVariants as mode
use Rattle.html_modes.specs.FamilySets.{family_sets}
use Rattle.html_modes.specs.declared.first_places.TheConstants as noted

-- a family is that of the names in these sets
pub record IsFamily (family sets : ℕ) : Type 0 where
  pub within : family < length family_sets
  pub there : get_or family_sets family 0 ≡ sets

abbrev pub start_places : InsertionMode → List ℕ
start_places mode.Initial = noted.INITIAL_FOR_START
start_places mode.BeforeHtml = noted.BEFORE_HTML_FOR_START
start_places mode.BeforeHead = noted.BEFORE_HEAD_FOR_START
start_places mode.InHead = noted.IN_HEAD_FOR_START
start_places mode.InHeadNoscript = noted.IN_HEAD_NOSCRIPT_FOR_START
start_places mode.AfterHead = noted.AFTER_HEAD_FOR_START
start_places mode.InBody = noted.IN_BODY_FOR_START
start_places mode.Text = noted.TEXT_FOR_START
start_places mode.InTable = noted.IN_TABLE_FOR_START
start_places mode.InTableText = noted.IN_TABLE_TEXT_FOR_START
start_places mode.InCaption = noted.IN_CAPTION_FOR_START
start_places mode.InColumnGroup = noted.IN_COLUMN_GROUP_FOR_START
start_places mode.InTableBody = noted.IN_TABLE_BODY_FOR_START
start_places mode.InRow = noted.IN_ROW_FOR_START
start_places mode.InCell = noted.IN_CELL_FOR_START
start_places mode.InTemplate = noted.IN_TEMPLATE_FOR_START
start_places mode.AfterBody = noted.AFTER_BODY_FOR_START
start_places mode.InFrameset = noted.IN_FRAMESET_FOR_START
start_places mode.AfterFrameset = noted.AFTER_FRAMESET_FOR_START
start_places mode.AfterAfterBody = noted.AFTER_AFTER_BODY_FOR_START
start_places mode.AfterAfterFrameset = noted.AFTER_AFTER_FRAMESET_FOR_START

abbrev pub end_places : InsertionMode → List ℕ
end_places mode.Initial = noted.INITIAL_FOR_END
end_places mode.BeforeHtml = noted.BEFORE_HTML_FOR_END
end_places mode.BeforeHead = noted.BEFORE_HEAD_FOR_END
end_places mode.InHead = noted.IN_HEAD_FOR_END
end_places mode.InHeadNoscript = noted.IN_HEAD_NOSCRIPT_FOR_END
end_places mode.AfterHead = noted.AFTER_HEAD_FOR_END
end_places mode.InBody = noted.IN_BODY_FOR_END
end_places mode.Text = noted.TEXT_FOR_END
end_places mode.InTable = noted.IN_TABLE_FOR_END
end_places mode.InTableText = noted.IN_TABLE_TEXT_FOR_END
end_places mode.InCaption = noted.IN_CAPTION_FOR_END
end_places mode.InColumnGroup = noted.IN_COLUMN_GROUP_FOR_END
end_places mode.InTableBody = noted.IN_TABLE_BODY_FOR_END
end_places mode.InRow = noted.IN_ROW_FOR_END
end_places mode.InCell = noted.IN_CELL_FOR_END
end_places mode.InTemplate = noted.IN_TEMPLATE_FOR_END
end_places mode.AfterBody = noted.AFTER_BODY_FOR_END
end_places mode.InFrameset = noted.IN_FRAMESET_FOR_END
end_places mode.AfterFrameset = noted.AFTER_FRAMESET_FOR_END
end_places mode.AfterAfterBody = noted.AFTER_AFTER_BODY_FOR_END
end_places mode.AfterAfterFrameset = noted.AFTER_AFTER_FRAMESET_FOR_END

abbrev pub places : TagKind → InsertionMode → List ℕ
places StartTag mode = start_places mode
places EndTag mode = end_places mode
