use Rattle.std.proofs.Common.{◌≡◌, drop, length}
use Rattle.std.specs.Prelude.{IsUtf8}
use Rattle.std.specs.Str.{chars}
use Rattle.html_clean.specs.Beginnings.{after_beginning}
use Rattle.html_clean.proofs.proxies.after_beginning.Given as goal

abbrev pub invariant-loop-c : goal.invariant-loop-c
invariant-loop-c l = record {
  same : after_beginning (drop (length l.yielded) (chars l.beginning)) (chars l.rest.rest.now)
      ≡ after_beginning (chars l.beginning) (chars l.text);
  utf8 : IsUtf8 l.rest.rest.now;
}
