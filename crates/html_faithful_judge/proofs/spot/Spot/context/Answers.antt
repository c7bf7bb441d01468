use Rattle.std.proofs.Common.{◌∙◌, ap}
use Rattle.html_faithful_judge.proofs.Contexts.{body-context, dd-context, form-context, li-context, link-context, lists-context}
use Rattle.html_faithful_judge.proofs.Contexts.{template-context}
use Rattle.html_faithful_judge.proofs.spot.Spot.context.Goals as goal

pub returns : goal.returns
returns c =
    let is = c.context.ensures in
    record {
      form = ap (λ k. k.form) is ∙ form-context c.args.self.now.stack.open_elems;
      in_template = ap (λ k. k.in_template) is ∙ template-context c.args.self.now.stack.open_elems;
      lists_a = ap (λ k. k.lists_a) is ∙ lists-context c.args.self.now.stack.open_elems;
      link_open = ap (λ k. k.link_open) is ∙ link-context c.args.self.now.stack.open_elems;
      ends_with_body = ap (λ k. k.ends_with_body) is ∙ body-context c.args.self.now.stack.open_elems;
      closes_li = ap (λ k. k.closes_li) is ∙ li-context c.args.self.now.stack.open_elems;
      closes_dd = ap (λ k. k.closes_dd) is ∙ dd-context c.args.self.now.stack.open_elems;
    }
