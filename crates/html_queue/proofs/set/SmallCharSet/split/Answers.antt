use Rattle.std.proofs.lemmas.Str.{IsUtf8-take}
use Rattle.html_queue.proofs.Taking.{cut_before, front_lacks, rest_member}
use Rattle.html_queue.proofs.set.SmallCharSet.split.Goals as goal

pub split_at-requires : goal.split_at-requires
split_at-requires c =
    let width = c.nonmember_prefix_len-width.ensures in
    cut_before _ _ _ width.within width.at

pub returns-clause-lacking : goal.returns-clause-lacking
returns-clause-lacking c =
    let width = c.nonmember_prefix_len-width.ensures in
    rw c.split_at.ensures.front (front_lacks _ _ _ c.utf8.text width.within width.before (cut_before _ _ _ width.within width.at))

pub returns-clause-longest : goal.returns-clause-longest
returns-clause-longest c =
    let width = c.nonmember_prefix_len-width.ensures in
    rw c.split_at.ensures.back (rest_member _ _ _ c.utf8.text width.within width.at (cut_before _ _ _ width.within width.at))

pub returns-clause-cut : goal.returns-clause-cut
returns-clause-cut c =
    let width = c.nonmember_prefix_len-width.ensures in
    rw c.split_at.ensures.front (IsUtf8-take _ _ c.utf8.text (cut_before _ _ _ width.within width.at))
