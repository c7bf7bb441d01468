use Rattle.std.proofs.Common.{◌≡◌, ◌∙◌, Bool, true, false, length, refl, sym, ap, arith}
use Rattle.std.specs.Prelude.{nat_eq}
use Rattle.std.specs.List.{starts_with}
use Rattle.std.proofs.lemmas.Bool.{le-ltb}
use Rattle.html_references.specs.Order.{ordered_name}
use Rattle.html_references.specs.References.{goes_on}
use Rattle.html_references.proofs.Matches.{goes_on_first, goes_on_none}
use Rattle.html_references.proofs.references.order.goes_on_at.Goals as goal

pub returns-then-index-order : goal.returns-then-index-order
returns-then-index-order c =
    let index = c.args.index in
    let rows = c.args.rows.now in
    let order = c.args.order.now in
    let held = c.args.held.now in
    let value : c.starts_with.result ≡ starts_with nat_eq (ordered_name rows order index) held =
    c.starts_with.ensures.value ∙ ap (λ name. starts_with nat_eq name held) c.ordered_bytes.ensures in
    let decided : (b : Bool) → starts_with nat_eq (ordered_name rows order index) held ≡ b → b ≡ goes_on rows held =
    λ b. elim b as (λ v. starts_with nat_eq (ordered_name rows order index) held ≡ v → v ≡ goes_on rows held) [
      | true ↦ λ e. sym (goes_on_first rows order held index c.requires.order.ordered c.if-index-order.true
          (c.requires.behind index (omega arith) c.if-index-order.true) e)
      | false ↦ λ e. sym (goes_on_none rows order held index c.requires.order c.requires.behind c.requires.first (λ _. e))
    ] in
    value ∙ decided _ refl

pub returns-else-index-order : goal.returns-else-index-order
returns-else-index-order c =
    le-ltb c.args.index (length c.args.order.now) c.if-index-order.false
    ∙ sym (goes_on_none c.args.rows.now c.args.order.now c.args.held.now c.args.index c.requires.order
    c.requires.behind c.requires.first (λ l. absurd (omega arith)))
