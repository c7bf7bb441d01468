use Rattle.std.proofs.Common.{◌≡◌, ◌∙◌, ap, sym, ◌-◌, ◌+◌, suc, length, arith}
use Rattle.std.specs.Option.{option_map}
use Rattle.html_encodings.specs.Prescan.{attributes}
use Rattle.html_encodings.specs.Prescan as prescan
use Rattle.html_encodings.specs.Attributes.{attribute_view, attempt_view}
use Rattle.html_encodings.proofs.Scans.{attributes_step}
use Rattle.html_encodings.proofs.attributes.tag_from.Goals as goal

pub loop-count-preserved : goal.loop-count-preserved
loop-count-preserved c =
    let more : length c.args.bytes.now - c.loop-count.count ≡ suc (length c.args.bytes.now - (c.loop-count.count + 1)) = omega arith in
    c.loop-count.invariant
    ∙ attributes_step _ _ _ (attempt_view c.get_attribute-got.result) (attribute_view c.in-Some.attribute) more c.get_attribute-got.ensures
    (ap (option_map attribute_view) c.in-Some.is)
    ∙ ap (λ meta. let t : prescan.Tag = record { meta = meta; rest = c.get_attribute-got.result.rest.now } in
    attributes (length c.args.bytes.now - (c.loop-count.count + 1)) t) (sym c.heeding-meta.ensures)
