use Rattle.std.proofs.Common.{refl, codes}
use Rattle.markup.proofs.Plain.{chars-plain}
use Rattle.html_tree_builder.proofs.told.NamedToken.text.Goals as goal

pub returns-in-Tag : goal.returns-in-Tag
returns-in-Tag c = rw c.in-Tag.is (chars-plain (codes "") refl)

pub returns-in-Null : goal.returns-in-Null
returns-in-Null c = rw c.in-Null.is (chars-plain (codes "") refl)

pub returns-in-EndOfFile : goal.returns-in-EndOfFile
returns-in-EndOfFile c = rw c.in-EndOfFile.is (chars-plain (codes "") refl)

pub returns-in-Doctype : goal.returns-in-Doctype
returns-in-Doctype c = rw c.in-Doctype.is (chars-plain (codes "") refl)
