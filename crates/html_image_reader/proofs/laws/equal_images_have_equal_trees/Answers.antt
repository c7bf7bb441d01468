use Rattle.html_image_reader.proofs.Inverse.{alike}
use Rattle.html_image_reader.proofs.laws.equal_images_have_equal_trees.Goals as goal

pub returns : goal.returns
returns c f g is is' small small' same = alike f g is is' small small' same
