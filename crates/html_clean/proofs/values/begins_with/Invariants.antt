use Rattle.std.proofs.Common.{◌≡◌, drop, length}
use Rattle.std.specs.Prelude.{IsUtf8}
use Rattle.std.specs.Str.{chars}
use Rattle.html_clean.specs.Beginnings.{begins_with}
use Rattle.html_clean.proofs.values.begins_with.Given as goal

abbrev pub invariant-loop-c : goal.invariant-loop-c
invariant-loop-c l = record {
  same : begins_with (drop (length l.yielded) (chars l.beginning)) (chars l.rest.rest.now)
      ≡ begins_with (chars l.beginning) (chars l.text);
  utf8 : IsUtf8 l.rest.rest.now;
}
