use Rattle.std.proofs.Common.{◌∙◌, refl, sym}
use Rattle.markup.proofs.AttributeIndex.{AddsPlace-put}
use Rattle.markup.proofs.attribute_index.add.Goals as goal

pub returns-clause-ok : goal.returns-clause-ok
returns-clause-ok c =
    AddsPlace-put c.args.index.now
    (record { places = c.insert.new.self; are_distinct = c.args.index.now.are_distinct }) c.in_ok-copy.field-0
    c.args.name.now c.args.place c.in_ok-copy.ensures.ok (sym c.contains_key.ensures ∙ c.if-contains_key.false)
    c.in_ok-insert.ensures.updates.0 refl
