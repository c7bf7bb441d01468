use Rattle.html_image_reader.proofs.Loose.{loose}
use Rattle.html_image_reader.proofs.links.may_put.Goals as goal

pub returns-then-is_empty : goal.returns-then-is_empty
returns-then-is_empty c apart = record {
  parent_is = c.is_parent.ensures c.if-is_parent.true;
  loose = loose c.args.forest.now c.keeps.ensures.is_forest c.keeps.ensures.contents c.args.child c.args.parent
      (c.is_top.ensures c.if-is_top.true) (c.is_empty.ensures c.if-is_empty.true) (c.is_apart.ensures.other apart)
      (c.is_apart.ensures.contents apart);
}
