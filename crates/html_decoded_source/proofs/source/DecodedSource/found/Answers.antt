use Rattle.std.proofs.Common.{◌≡◌, ◌∙◌, ◌≤◌, take, arith, sym}
use Rattle.std.specs.Prelude.{option_copied}
use Rattle.std.specs.Vec.{vec_len}
use Rattle.html_decoded_source.proofs.Found.{all-found, found-short}
use Rattle.html_decoded_source.proofs.source.DecodedSource.found.Goals as goal

pub split_off-requires : goal.split_off-requires
split_off-requires g c =
    let short : c.sniff-sniffed.result.mark_length ≤ 3 =
    found-short c.sniff-sniffed.result (take c.in_ok-buffer.held c.deref.result.now) (option_copied c.args.label) c.args.fallback
    c.sniff-sniffed.ensures in
    let room : vec_len c.in_ok-buffer.buffer ≡ 4096 = sym c.deref.ensures.len ∙ (rw c.deref.ensures.value c.in_ok-buffer.ensures.room) in
    omega arith

pub invariant_of-made : goal.invariant_of-made
invariant_of-made g c =
    let short : c.sniff-sniffed.result.mark_length ≤ 3 =
    found-short c.sniff-sniffed.result (take c.in_ok-buffer.held c.deref.result.now) (option_copied c.args.label) c.args.fallback
    c.sniff-sniffed.ensures in
    let room : vec_len c.in_ok-buffer.buffer ≡ 4096 = sym c.deref.ensures.len ∙ (rw c.deref.ensures.value c.in_ok-buffer.ensures.room) in
    let within = c.in_ok-buffer.ensures.front.within in
    let size = c.in_ok-buffer.ensures.room in
    let left = c.saturating_sub.ensures in
    let tail = c.in-Ok.ensures.tail_len in
    ((omega arith, omega arith), omega arith)

pub returns : goal.returns
returns g c = λ whole told.
    rw (c.new-2.ensures, c.new.ensures, c.saturating_sub.ensures, c.in-Ok.ensures.tail, c.new-3.ensures.bytes)
    (all-found g.R.Source.left c.front_of.new.source (g.R.Source.left c.args.source) c.in_ok-buffer.buffer.items c.in_ok-buffer.held
    (option_copied c.args.label) c.args.fallback c.sniff-sniffed.result c.in_ok-buffer.ensures.front
    (rw c.deref.ensures.value at c.sniff-sniffed.ensures) whole told)
