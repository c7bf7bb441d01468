use Rattle.std.proofs.lemmas.Str.{IsUtf8-string_bytes}
use Rattle.markup.proofs.text_form.TextForm.push_str.Goals as goal

pub returns-in-Long-clause-utf8 : goal.returns-in-Long-clause-utf8
returns-in-Long-clause-utf8 c = rw c.in-Long.is (IsUtf8-string_bytes c.in-Long.text)

pub returns-in-Short-clause-utf8 : goal.returns-in-Short-clause-utf8
returns-in-Short-clause-utf8 c = rw c.in-Short.is c.push_str-in-Short.ensures.utf8
