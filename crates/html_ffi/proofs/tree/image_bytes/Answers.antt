use Rattle.html_ffi.proofs.Trees.{image-failed}
use Rattle.html_ffi.proofs.tree.image_bytes.Goals as goal

pub returns-in-Err-clause-err : goal.returns-in-Err-clause-err
returns-in-Err-clause-err c = image-failed c.args.forest.now c.in-Err.fault c.from.result c.from.ensures c.in-Err.ensures.fault
