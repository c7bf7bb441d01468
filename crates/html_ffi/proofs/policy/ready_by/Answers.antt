use Rattle.std.proofs.Common.{◌∙◌, ◌≡◌, ap, encode_utf8_all, sym}
use Rattle.std.proofs.lemmas.Str.{encodes-chars}
use Rattle.html_ffi.proofs.Answering.{put-means}
use Rattle.html_ffi.specs.Policies.{FailsToName, IsReadyText}
use Rattle.html_ffi.specs.Reports.{nothing_at}
use Rattle.html_ffi.proofs.policy.ready_by.Goals as goal

pub returns-in-Ok-clause-answer : goal.returns-in-Ok-clause-answer
returns-in-Ok-clause-answer c =
    put-means (IsReadyText c.args.name.now c.of_text.result) (c.of_text.result ≡ nothing_at c.of_text.result.at)
    (λ answer. FailsToName c.args.name.now answer c.of_text.result.at) c.args.output.now c.put_front.new.output
    c.as_bytes-text.result.now c.put_front.result
    (record {
      text = c.in-Ok.made;
      named = c.in-Ok.ensures.ok;
      is = c.as_bytes-text.ensures.value ∙ sym (encodes-chars c.as_str.result.now c.as_str.utf8) ∙ ap encode_utf8_all c.as_str.ensures;
      report_is = c.of_text.ensures;
    })
    c.put_front.ensures
