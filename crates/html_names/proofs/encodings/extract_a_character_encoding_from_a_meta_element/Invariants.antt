use Rattle.std.proofs.Common.{◌≡◌, length}
use Rattle.std.specs.Str.{IsUtf8, chars}
use Rattle.html_rules.specs.Encodings.{encoding_of}
use Rattle.html_names.proofs.encodings.extract_a_character_encoding_from_a_meta_element.Given as goal

abbrev pub invariant-loop-further : goal.invariant-loop-further
invariant-loop-further l = record { same : encoding_of (chars l.content) ≡ encoding_of (chars l.rest); text : IsUtf8 l.rest }

abbrev pub decreases-loop-further : goal.decreases-loop-further
decreases-loop-further l = length l.rest
