use Rattle.std.proofs.Common.{refl}
use Rattle.html_faithful_judge.specs.Mades.{made_as}
use Rattle.html_faithful_judge.proofs.MadeByRows.{concludes-as, using-as}
use Rattle.html_faithful_judge.proofs.made.Made.conclude.Goals as goal

pub returns-in-Using : goal.returns-in-Using
returns-in-Using c again =
    concludes-as again _ _ _ _ _ c.in-Using.is
    (using-as again (made_as c.args.self.now) _ _ c.in-Using.mode _ c.is_untouched.ensures c.again_if.ensures)

pub returns-in-Reprocess : goal.returns-in-Reprocess
returns-in-Reprocess c again = concludes-as again _ _ _ _ _ c.in-Reprocess.is (c.reprocess.ensures again)

pub returns-in-Done : goal.returns-in-Done
returns-in-Done c again = concludes-as again _ _ _ _ _ c.in-Done.is refl

pub returns-in-Acknowledged : goal.returns-in-Acknowledged
returns-in-Acknowledged c again = concludes-as again _ _ _ _ _ c.in-Acknowledged.is refl

pub returns-in-ReportEncoding : goal.returns-in-ReportEncoding
returns-in-ReportEncoding c again = concludes-as again _ _ _ _ _ c.in-ReportEncoding.is refl

pub returns-in-RunScript : goal.returns-in-RunScript
returns-in-RunScript c again = concludes-as again _ _ _ _ _ c.in-RunScript.is refl

pub returns-in-RawText : goal.returns-in-RawText
returns-in-RawText c again = concludes-as again _ _ _ _ _ c.in-RawText.is refl

pub returns-in-ReprocessInOriginal : goal.returns-in-ReprocessInOriginal
returns-in-ReprocessInOriginal c again = concludes-as again _ _ _ _ _ c.in-ReprocessInOriginal.is refl

pub returns-in-ReprocessInMode : goal.returns-in-ReprocessInMode
returns-in-ReprocessInMode c again = concludes-as again _ _ _ _ _ c.in-ReprocessInMode.is refl

pub returns-in-UsingThen : goal.returns-in-UsingThen
returns-in-UsingThen c again = concludes-as again _ _ _ _ _ c.in-UsingThen.is refl

pub returns-in-UsingCurrentMode : goal.returns-in-UsingCurrentMode
returns-in-UsingCurrentMode c again = concludes-as again _ _ _ _ _ c.in-UsingCurrentMode.is refl

pub returns-in-PlainText : goal.returns-in-PlainText
returns-in-PlainText c again = concludes-as again _ _ _ _ _ c.in-PlainText.is refl
