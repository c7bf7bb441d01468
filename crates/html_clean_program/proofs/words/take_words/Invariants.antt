use Rattle.std.proofs.Common.{◌≡◌, None, drop, map}
use Rattle.std.specs.String.{string_bytes}
use Rattle.html_clean_program.specs.Words.{IsAsked, Request, asked_by, no_request}
use Rattle.html_clean_program.proofs.words.take_words.Given as goal

abbrev pub invariant-loop-word : goal.invariant-loop-word
invariant-loop-word l =
    (request : Request)
    × IsAsked l.asked request
    × (asked_by None no_request (map string_bytes l.fn.words) ≡ asked_by l.takes request (map string_bytes (drop l.word-index l.fn.words)))
