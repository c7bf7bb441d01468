use Rattle.std.proofs.Common.{◌∙◌, ◌≡◌}
use Rattle.html_ffi.proofs.Answering.{put-means}
use Rattle.html_ffi.specs.Answers.{Fails}
use Rattle.html_ffi.specs.Decoding.{IsDecodedReport, nothing_decoded}
use Rattle.html_ffi.proofs.decoding.decode_by.Goals as goal

pub returns-in-Ok-clause-answer : goal.returns-in-Ok-clause-answer
returns-in-Ok-clause-answer c =
    put-means (IsDecodedReport c.args.file.now c.args.label.now c.args.page.now c.report_of.result)
    (c.report_of.result ≡ nothing_decoded c.report_of.result.at)
    (λ answer. Fails c.args.file.now c.args.page.now answer c.report_of.result.at) c.args.output.now c.put_front.new.output
    c.as_bytes-text.result.now c.put_front.result
    (record {
      made = c.in-Ok.made;
      decoded = c.in-Ok.ensures.ok;
      text = c.as_bytes-text.ensures.value ∙ c.as_str.ensures.value;
      report_is = c.report_of.ensures;
    })
    c.put_front.ensures
