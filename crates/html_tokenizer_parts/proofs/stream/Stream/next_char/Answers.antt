use Rattle.html_tokenizer_parts.proofs.InputChars.{next-vanishes, next-comes}
use Rattle.html_tokenizer_parts.proofs.stream.Stream.next_char.Goals as goal

pub returns-in_err-c-2 : goal.returns-in_err-c-2
returns-in_err-c-2 c = rw c.from_residual-in_err-c-2.ensures
    (next-vanishes c.args.self.now c.after_mark.new.self c.after_mark.new.self c.args.input.now c.next.new.self
    c.after_mark.new.input c.after_mark.new.input c.in_ok-c.c c.in_ok-c.ensures c.in_err-c-2.ensures.passed c.in_err-c-2.ensures.empty)

pub returns : goal.returns
returns c = next-comes c.args.self.now c.after_mark.new.self c.after_return.new.self c.args.input.now
    c.next.new.self c.after_mark.new.input c.after_return.new.input c.in_ok-c.c c.in_ok-c.ensures c.in_ok-c-2.c
    c.in_ok-c-2.ensures.passed _ c.after_return.ensures.made c.after_return.ensures.empty
