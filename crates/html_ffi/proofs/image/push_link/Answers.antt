use lib.Utf8.{encode}
use Rattle.html_ffi.proofs.Lines.{line-pushed}
use Rattle.html_ffi.proofs.image.push_link.Goals as goal

pub returns : goal.returns
unfolding encode
returns c = line-pushed c.push.result c.args.link.now c.as_str.result.now _ _ _ c.as_str.utf8 c.as_str.ensures
    c.in_ok-push_str.ensures.bytes c.push.ensures.bytes
