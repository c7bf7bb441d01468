use Rattle.std.proofs.Common.{◌≡◌, drop}
use Rattle.html_clean.specs.Policies.{kept_after}
use Rattle.html_clean.proofs.attributes.kept_after.Given as goal

abbrev pub invariant-loop-attribute : goal.invariant-loop-attribute
invariant-loop-attribute l = record {
  kept : kept_after l.fn.notes l.element l.kept (drop l.attribute-index l.attributes) ≡ kept_after l.fn.notes l.element l.fn.added l.attributes;
  same : l.notes ≡ l.fn.notes;
}
