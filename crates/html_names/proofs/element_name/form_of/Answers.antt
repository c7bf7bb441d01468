use Rattle.std.proofs.Common.{inl, inr}
use Rattle.html_rules.specs.Names.{namespace_of}
use Rattle.html_rules.specs.declared.rules.Rules.{Rules}
use Rattle.html_names.specs.ElementNames.{Holds, IsRareForm}
use Rattle.html_names.proofs.HeldNames.{known-holds, ok-map, rare-holds}
use Rattle.html_names.proofs.element_name.form_of.Goals as goal

pub returns-in-Other-default-clause-ok : goal.returns-in-Other-default-clause-ok
returns-in-Other-default-clause-ok c =
    ok-map (λ form. IsRareForm form c.args.namespace.now c.args.name.now)
    (λ form. (rules : Rules) → Holds rules c.args.class.namespace form (namespace_of c.args.namespace.now) c.args.name.now) c.rare.result
    (λ form held rules. rare-holds rules c.args.class form c.args.namespace.now c.args.name.now c.requires
    (inl c.in-Other-default.is-0) held) c.rare.ensures.ok

pub returns-in_default-None : goal.returns-in_default-None
returns-in_default-None c = record {
  ok = ok-map (λ form. IsRareForm form c.args.namespace.now c.args.name.now)
      (λ form. (rules : Rules) → Holds rules c.args.class.namespace form (namespace_of c.args.namespace.now) c.args.name.now) c.rare-in_default-None.result
      (λ form held rules. rare-holds rules c.args.class form c.args.namespace.now c.args.name.now c.requires
      (inr c.in_default-None.is-1) held) c.rare-in_default-None.ensures.ok;
  fault = c.rare-in_default-None.ensures.fault;
}

pub returns-in_default-Some : goal.returns-in_default-Some
returns-in_default-Some c = record {
  ok = λ rules. known-holds rules c.args.class c.in_default-Some.known (namespace_of c.args.namespace.now) c.args.name.now
      c.requires c.in_default-Some.is-1 c.in_default-Some.not-Other-0;
  fault = tt;
}
