use Rattle.std.proofs.Common.{◌∙◌, ap, subst, sym}
use Rattle.html_rules.specs.Names.{namespace_of}
use Rattle.html_names.specs.Classes.{IsRowBy, kind_of}
use Rattle.html_names.specs.ElementNames.{Named}
use Rattle.html_names.proofs.element_name.ElementName.with_class.Goals as goal

pub invariant_of-result : goal.invariant_of-result
invariant_of-result c =
    let held = c.in_ok-form.ensures.ok c.args.rules in
    record {
      same = ap (λ (n : Named). kind_of n.namespace) held.same ∙ c.requires.kind;
      row = subst (λ (n : Named). IsRowBy c.args.rules n.namespace n.name c.sets_by.result) (sym held.same)
          (c.sets_by.ensures (namespace_of c.args.namespace.now) c.args.name.now c.requires.sets);
      fits = held.fits;
    }

pub returns-clause-ok : goal.returns-clause-ok
returns-clause-ok c = (c.in_ok-form.ensures.ok c.args.rules).same
