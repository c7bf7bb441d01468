use Rattle.std.proofs.Common.{Result, Ok, Err}
use Rattle.std.specs.Prelude.{IfErr, OnOk}
use Rattle.markup.specs.declared.fault.ParseFault.{ParseFault}
use Rattle.html_tokens.specs.declared.sink.TokenSink.{Ghosts}
use Rattle.html_tokenizer.specs.Calls.{EndGives, refusal_of}
use Rattle.html_tokenizer.specs.declared.tokenizer.Tokenizer.{Tokenizer}
use Rattle.html_parser.specs.Read.{FailsAfter}
use Rattle.html_decoded_pages.specs.Pauses.{Ends, IsFree}
use Rattle.html_decoded_pages.proofs.Reading.{ends-badly, ends-well}
use Rattle.html_decoded_pages.proofs.pauses.end.Goals as goal

ended : {K H : Type 0} (Sink : Ghosts K H) (k new : Tokenizer K) (result : Result (Unit {0}) ParseFault) → IsFree Sink k
    → EndGives Sink (refusal_of k) k new result → OnOk result (Ends Sink k new.sink)
ended Sink k new (Ok x) free gives = ends-well Sink k new free gives
ended Sink k new (Err fault) free gives = tt

not-ended : {K H : Type 0} (Sink : Ghosts K H) (k new : Tokenizer K) (result : Result (Unit {0}) ParseFault) → IsFree Sink k
    → EndGives Sink (refusal_of k) k new result → IfErr result (FailsAfter Sink k)
not-ended Sink k new (Ok x) free gives = tt
not-ended Sink k new (Err fault) free gives = ends-badly Sink k new fault free gives

pub returns-clause-ok : goal.returns-clause-ok
returns-clause-ok g c = ended g.S.TokenSink c.args.tokenizer.now c.end.new.self c.end.result c.requires.free c.end.ensures.gives

pub returns-clause-err : goal.returns-clause-err
returns-clause-err g c = not-ended g.S.TokenSink c.args.tokenizer.now c.end.new.self c.end.result c.requires.free c.end.ensures.gives
