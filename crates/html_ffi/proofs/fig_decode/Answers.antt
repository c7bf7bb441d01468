use Rattle.std.proofs.Common.{ℕ, List, subst}
use Rattle.html_ffi.specs.Decoding.{MeansDecoded}
use Rattle.html_ffi.proofs.fig_decode.Goals as goal

pub returns-clause-answer : goal.returns-clause-answer
returns-clause-answer c = record {
  answer = c.decode_by.result;
  is = c.number.ensures;
  says =
      subst (λ (file : List ℕ). MeansDecoded file c.args.label.now c.args.page.now c.args.output.now c.decode_by.new.output
      c.decode_by.new.report c.decode_by.result)
      c.as_bytes.ensures.value c.decode_by.ensures.answer;
}
