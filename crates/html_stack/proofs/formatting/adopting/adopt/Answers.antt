use Rattle.std.proofs.Common.{◌≡◌, ◌≢◌, ◌∙◌, ◌∷◌, ◌++◌, Some, refl, take, drop, suc, add-one, ◌+◌, ◌<◌, ◌≤◌, get_or, length}
use Rattle.std.proofs.Common.{sym, ap, subst, arith}
use Rattle.std.specs.Prelude.{slice_range}
use Rattle.std.proofs.lemmas.List.{get_or_default, length-map}
use Rattle.std.proofs.lemmas.List.Edits.{length-between}
use Rattle.markup.specs.Forest.{Last, node_count, put, remove, reparent_children}
use Rattle.html_rules.specs.Adoption.{Walk, listed_as, relist, walk, with_copy}
use Rattle.html_rules.specs.Places.{place_for}
use Rattle.html_rules.specs.State.{Element, Open, current_node}
use Rattle.html_rules_laws.proofs.TreePreserved.AdoptionStanding.{begun}
use Rattle.html_rules_laws.specs.Soundness.{IsStanding}
use Rattle.html_stack.specs.Adopting.{IsRelisted, walk_of}
use Rattle.markup.proofs.PutTexts.{element-IsNode}
use Rattle.html_rules.specs.Names.{element_name_of}
use Rattle.html_stack.specs.Stacks.{entries_of, open_of, opens_of}
use Rattle.html_stack.proofs.Results.{on-err}
use Rattle.html_stack.proofs.Adopted.{grown, no-less, walk-count, walk-keeps}
use Rattle.html_stack.proofs.Turned.{IsAdoption, adoption, block-movable, block-parent, copies-new, handle_of, is-placed}
use Rattle.html_stack.proofs.Turned.{last-loose, none-between, rebuilt, relisted-is, turned-is, opens-count, opened-index}
use Rattle.html_stack.proofs.Turned.{placed-stands, removed-opened, removed-stands, removed-tree, still-opened}
use Rattle.html_stack.proofs.Walked.{opened-Walked}
use Rattle.html_stack.proofs.Noted.{front-kept}
use Rattle.html_stack.proofs.formatting.adopting.adopt.Goals as goal

pub copy_between-requires-clause-block : goal.copy_between-requires-clause-block
copy_between-requires-clause-block g c =
    let node = g.Sink.TreeSink.node in
    let f0 = g.Sink.TreeSink.forest c.args.sink.now in
    let xs = c.args.elements.now.items in
    let named = opened-index f0 node xs c.args.to c.index-3.result.now c.requires.standing.opened c.requires.within in
    rw c.index-3.ensures named

pub place_before-point-requires-clause-opened : goal.place_before-point-requires-clause-opened
place_before-point-requires-clause-opened g c =
    let node = g.Sink.TreeSink.node in
    let f0 = g.Sink.TreeSink.forest c.args.sink.now in
    let f1 = g.Sink.TreeSink.forest c.copy_between.new.sink in
    let xs = c.args.elements.now.items in
    let es = entries_of node c.args.entries.now.items in
    let d = c.index-3.result.now in
    let w : Walk = walk_of node f1 c.copy_between.new.entries.items c.in_ok-copies.copies in
    let e : w ≡ walk 3 (opens_of node (slice_range xs (c.args.from + 1) c.args.to)) (begun c.args.rules f0 (node (get_or xs c.args.to d).handle) es) =
    (rw c.as_slice.ensures.value at c.in_ok-copies.ensures.ok)
    ∙ ap (λ x. walk 3 (opens_of node (slice_range xs (c.args.from + 1) c.args.to))
    (begun c.args.rules f0 (node (handle_of x)) es)) c.index-3.ensures in
    let a : IsAdoption node f0 xs es c.args.from c.args.to d c.args.foster w = adoption node f0 xs es c.args.from
    c.args.to d c.args.foster c.args.rules c.args.tag w c.requires.standing c.requires.order c.requires.within (c.requires.turn d) e in
    let still = still-opened node f0 xs es c.args.from c.args.to d c.args.foster w a in
    rw c.as_slice-2.ensures.value still

pub put_last-requires-clause-node : goal.put_last-requires-clause-node
put_last-requires-clause-node g c =
    let node = g.Sink.TreeSink.node in
    let f0 = g.Sink.TreeSink.forest c.args.sink.now in
    let f1 = g.Sink.TreeSink.forest c.copy_between.new.sink in
    let xs = c.args.elements.now.items in
    let es = entries_of node c.args.entries.now.items in
    let d = c.index-3.result.now in
    let w : Walk = walk_of node f1 c.copy_between.new.entries.items c.in_ok-copies.copies in
    let e : w ≡ walk 3 (opens_of node (slice_range xs (c.args.from + 1) c.args.to)) (begun c.args.rules f0 (node (get_or xs c.args.to d).handle) es) =
    (rw c.as_slice.ensures.value at c.in_ok-copies.ensures.ok)
    ∙ ap (λ x. walk 3 (opens_of node (slice_range xs (c.args.from + 1) c.args.to))
    (begun c.args.rules f0 (node (handle_of x)) es)) c.index-3.ensures in
    let a : IsAdoption node f0 xs es c.args.from c.args.to d c.args.foster w = adoption node f0 xs es c.args.from
    c.args.to d c.args.foster c.args.rules c.args.tag w c.requires.standing c.requires.order c.requires.within (c.requires.turn d) e in
    let there = a.walked.there in
    rw c.place_before-point.ensures.same there

pub put_last-requires-clause-point : goal.put_last-requires-clause-point
put_last-requires-clause-point g c =
    let node = g.Sink.TreeSink.node in
    let f0 = g.Sink.TreeSink.forest c.args.sink.now in
    let f1 = g.Sink.TreeSink.forest c.copy_between.new.sink in
    let xs = c.args.elements.now.items in
    let es = entries_of node c.args.entries.now.items in
    let d = c.index-3.result.now in
    let w : Walk = walk_of node f1 c.copy_between.new.entries.items c.in_ok-copies.copies in
    let e : w ≡ walk 3 (opens_of node (slice_range xs (c.args.from + 1) c.args.to)) (begun c.args.rules f0 (node (get_or xs c.args.to d).handle) es) =
    (rw c.as_slice.ensures.value at c.in_ok-copies.ensures.ok)
    ∙ ap (λ x. walk 3 (opens_of node (slice_range xs (c.args.from + 1) c.args.to))
    (begun c.args.rules f0 (node (handle_of x)) es)) c.index-3.ensures in
    let a : IsAdoption node f0 xs es c.args.from c.args.to d c.args.foster w = adoption node f0 xs es c.args.from
    c.args.to d c.args.foster c.args.rules c.args.tag w c.requires.standing c.requires.order c.requires.within (c.requires.turn d) e in
    let opened = removed-opened node f0 xs es c.args.from c.args.to d c.args.foster w a in
    let tree = removed-tree node f0 xs es c.args.from c.args.to d c.args.foster w a in
    let point = c.place_before-point.ensures.is_point (remove f1 (node c.in_ok-copies.copies.last)) tree
    (rw c.as_slice-2.ensures.value opened) in
    rw c.place_before-point.ensures.same point

pub put_last-requires-clause-loose : goal.put_last-requires-clause-loose
put_last-requires-clause-loose g c =
    let node = g.Sink.TreeSink.node in
    let f0 = g.Sink.TreeSink.forest c.args.sink.now in
    let f1 = g.Sink.TreeSink.forest c.copy_between.new.sink in
    let xs = c.args.elements.now.items in
    let es = entries_of node c.args.entries.now.items in
    let d = c.index-3.result.now in
    let w : Walk = walk_of node f1 c.copy_between.new.entries.items c.in_ok-copies.copies in
    let e : w ≡ walk 3 (opens_of node (slice_range xs (c.args.from + 1) c.args.to)) (begun c.args.rules f0 (node (get_or xs c.args.to d).handle) es) =
    (rw c.as_slice.ensures.value at c.in_ok-copies.ensures.ok)
    ∙ ap (λ x. walk 3 (opens_of node (slice_range xs (c.args.from + 1) c.args.to))
    (begun c.args.rules f0 (node (handle_of x)) es)) c.index-3.ensures in
    let a : IsAdoption node f0 xs es c.args.from c.args.to d c.args.foster w = adoption node f0 xs es c.args.from
    c.args.to d c.args.foster c.args.rules c.args.tag w c.requires.standing c.requires.order c.requires.within (c.requires.turn d) e in
    let pl = rw c.as_slice-2.ensures.value at (c.place_before-point.ensures.place (remove f1 (node c.in_ok-copies.copies.last))) in
    let loose = last-loose node f0 xs es c.args.from c.args.to d c.args.foster w a in
    rw (c.place_before-point.ensures.same, pl) loose

pub returns-in_err-put_last-clause-kept : goal.returns-in_err-put_last-clause-kept
returns-in_err-put_last-clause-kept g c =
    let node = g.Sink.TreeSink.node in
    let f0 = g.Sink.TreeSink.forest c.args.sink.now in
    let f1 = g.Sink.TreeSink.forest c.copy_between.new.sink in
    let xs = c.args.elements.now.items in
    let es = entries_of node c.args.entries.now.items in
    let d = c.index-3.result.now in
    let w : Walk = walk_of node f1 c.copy_between.new.entries.items c.in_ok-copies.copies in
    let e : w ≡ walk 3 (opens_of node (slice_range xs (c.args.from + 1) c.args.to)) (begun c.args.rules f0 (node (get_or xs c.args.to d).handle) es) =
    (rw c.as_slice.ensures.value at c.in_ok-copies.ensures.ok)
    ∙ ap (λ x. walk 3 (opens_of node (slice_range xs (c.args.from + 1) c.args.to))
    (begun c.args.rules f0 (node (handle_of x)) es)) c.index-3.ensures in
    let a : IsAdoption node f0 xs es c.args.from c.args.to d c.args.foster w = adoption node f0 xs es c.args.from
    c.args.to d c.args.foster c.args.rules c.args.tag w c.requires.standing c.requires.order c.requires.within (c.requires.turn d) e in
    let stands = removed-stands node f0 xs es c.args.from c.args.to d c.args.foster w a in
    on-err c.from_residual-in_err-put_last.result (rw (c.in_err-put_last.ensures.err, c.place_before-point.ensures.same) stands)

pub copy_under-requires-clause-block : goal.copy_under-requires-clause-block
copy_under-requires-clause-block g c =
    let node = g.Sink.TreeSink.node in
    let f0 = g.Sink.TreeSink.forest c.args.sink.now in
    let f1 = g.Sink.TreeSink.forest c.copy_between.new.sink in
    let xs = c.args.elements.now.items in
    let es = entries_of node c.args.entries.now.items in
    let d = c.index-3.result.now in
    let w : Walk = walk_of node f1 c.copy_between.new.entries.items c.in_ok-copies.copies in
    let e : w ≡ walk 3 (opens_of node (slice_range xs (c.args.from + 1) c.args.to)) (begun c.args.rules f0 (node (get_or xs c.args.to d).handle) es) =
    (rw c.as_slice.ensures.value at c.in_ok-copies.ensures.ok)
    ∙ ap (λ x. walk 3 (opens_of node (slice_range xs (c.args.from + 1) c.args.to))
    (begun c.args.rules f0 (node (handle_of x)) es)) c.index-3.ensures in
    let a : IsAdoption node f0 xs es c.args.from c.args.to d c.args.foster w = adoption node f0 xs es c.args.from
    c.args.to d c.args.foster c.args.rules c.args.tag w c.requires.standing c.requires.order c.requires.within (c.requires.turn d) e in
    let pl = rw c.as_slice-2.ensures.value at (c.place_before-point.ensures.place (remove f1 (node c.in_ok-copies.copies.last))) in
    let block : c.index-2.result.now ≡ get_or xs c.args.to d = c.index-2.ensures
    ∙ get_or_default xs c.args.to c.index-2.result.now d c.requires.within in
    let movable = block-movable node f0 xs es c.args.from c.args.to d c.args.foster w a in
    rw (c.in_ok-put_last.ensures.ok, c.place_before-point.ensures.same, pl, block) movable

pub copy_under-requires-clause-parent : goal.copy_under-requires-clause-parent
copy_under-requires-clause-parent g c =
    let node = g.Sink.TreeSink.node in
    let f0 = g.Sink.TreeSink.forest c.args.sink.now in
    let f1 = g.Sink.TreeSink.forest c.copy_between.new.sink in
    let xs = c.args.elements.now.items in
    let es = entries_of node c.args.entries.now.items in
    let d = c.index-3.result.now in
    let w : Walk = walk_of node f1 c.copy_between.new.entries.items c.in_ok-copies.copies in
    let e : w ≡ walk 3 (opens_of node (slice_range xs (c.args.from + 1) c.args.to)) (begun c.args.rules f0 (node (get_or xs c.args.to d).handle) es) =
    (rw c.as_slice.ensures.value at c.in_ok-copies.ensures.ok)
    ∙ ap (λ x. walk 3 (opens_of node (slice_range xs (c.args.from + 1) c.args.to))
    (begun c.args.rules f0 (node (handle_of x)) es)) c.index-3.ensures in
    let a : IsAdoption node f0 xs es c.args.from c.args.to d c.args.foster w = adoption node f0 xs es c.args.from
    c.args.to d c.args.foster c.args.rules c.args.tag w c.requires.standing c.requires.order c.requires.within (c.requires.turn d) e in
    let pl = rw c.as_slice-2.ensures.value at (c.place_before-point.ensures.place (remove f1 (node c.in_ok-copies.copies.last))) in
    let block : c.index-2.result.now ≡ get_or xs c.args.to d = c.index-2.ensures
    ∙ get_or_default xs c.args.to c.index-2.result.now d c.requires.within in
    let parent = block-parent node f0 xs es c.args.from c.args.to d c.args.foster w a in
    rw (c.in_ok-put_last.ensures.ok, c.place_before-point.ensures.same, pl, block) parent

pub returns-in_err-copy-clause-kept : goal.returns-in_err-copy-clause-kept
returns-in_err-copy-clause-kept g c =
    let node = g.Sink.TreeSink.node in
    let f0 = g.Sink.TreeSink.forest c.args.sink.now in
    let f1 = g.Sink.TreeSink.forest c.copy_between.new.sink in
    let xs = c.args.elements.now.items in
    let es = entries_of node c.args.entries.now.items in
    let d = c.index-3.result.now in
    let w : Walk = walk_of node f1 c.copy_between.new.entries.items c.in_ok-copies.copies in
    let e : w ≡ walk 3 (opens_of node (slice_range xs (c.args.from + 1) c.args.to)) (begun c.args.rules f0 (node (get_or xs c.args.to d).handle) es) =
    (rw c.as_slice.ensures.value at c.in_ok-copies.ensures.ok)
    ∙ ap (λ x. walk 3 (opens_of node (slice_range xs (c.args.from + 1) c.args.to))
    (begun c.args.rules f0 (node (handle_of x)) es)) c.index-3.ensures in
    let a : IsAdoption node f0 xs es c.args.from c.args.to d c.args.foster w = adoption node f0 xs es c.args.from
    c.args.to d c.args.foster c.args.rules c.args.tag w c.requires.standing c.requires.order c.requires.within (c.requires.turn d) e in
    let pl = rw c.as_slice-2.ensures.value at (c.place_before-point.ensures.place (remove f1 (node c.in_ok-copies.copies.last))) in
    let stands = placed-stands node f0 xs es c.args.from c.args.to d c.args.foster w a in
    let now : IsStanding (g.Sink.TreeSink.forest c.put_last.new.sink) (opens_of node xs)
    (entries_of node c.copy_between.new.entries.items) =
    rw (c.in_ok-put_last.ensures.ok, c.place_before-point.ensures.same, pl) stands in
    on-err c.from_residual-in_err-copy.result
    (c.in_err-copy.ensures.kept (opens_of node xs) (entries_of node c.copy_between.new.entries.items) now)

pub restack-requires-clause-room : goal.restack-requires-clause-room
restack-requires-clause-room g c =
    let node = g.Sink.TreeSink.node in
    let f0 = g.Sink.TreeSink.forest c.args.sink.now in
    let f1 = g.Sink.TreeSink.forest c.copy_between.new.sink in
    let xs = c.args.elements.now.items in
    let es = entries_of node c.args.entries.now.items in
    let d = c.index-3.result.now in
    let w : Walk = walk_of node f1 c.copy_between.new.entries.items c.in_ok-copies.copies in
    let e : w ≡ walk 3 (opens_of node (slice_range xs (c.args.from + 1) c.args.to)) (begun c.args.rules f0 (node (get_or xs c.args.to d).handle) es) =
    (rw c.as_slice.ensures.value at c.in_ok-copies.ensures.ok)
    ∙ ap (λ x. walk 3 (opens_of node (slice_range xs (c.args.from + 1) c.args.to))
    (begun c.args.rules f0 (node (handle_of x)) es)) c.index-3.ensures in
    let a : IsAdoption node f0 xs es c.args.from c.args.to d c.args.foster w = adoption node f0 xs es c.args.from
    c.args.to d c.args.foster c.args.rules c.args.tag w c.requires.standing c.requires.order c.requires.within (c.requires.turn d) e in
    let ys = slice_range xs (c.args.from + 1) c.args.to in
    let count : length w.copies ≡ length c.in_ok-copies.copies.elements.items =
    length-map c.in_ok-copies.copies.elements.items (open_of node) in
    let some = walk-count 3 (opens_of node ys) (begun c.args.rules f0 (node (handle_of (get_or xs c.args.to d))) es) in
    let same : length w.copies ≡ length
    (walk 3 (opens_of node ys) (begun c.args.rules f0 (node (handle_of (get_or xs c.args.to d))) es)).copies =
    ap (λ (v : Walk). length v.copies) e in
    let opens = opens-count node ys in
    let between = length-between xs (c.args.from + 1) c.args.to (omega (arith, c.requires.within)) in
    omega (arith, c.requires.order, count, some, same, opens, between)

pub returns-clause-ok : goal.returns-clause-ok
returns-clause-ok g c s d on by =
    let node = g.Sink.TreeSink.node in
    let f0 = g.Sink.TreeSink.forest c.args.sink.now in
    let f1 = g.Sink.TreeSink.forest c.copy_between.new.sink in
    let xs = c.args.elements.now.items in
    let es = entries_of node c.args.entries.now.items in
    let w : Walk = walk_of node f1 c.copy_between.new.entries.items c.in_ok-copies.copies in
    let e : w ≡ walk 3 (opens_of node (slice_range xs (c.args.from + 1) c.args.to)) (begun c.args.rules f0 (node (get_or xs c.args.to d).handle) es) =
    (rw c.as_slice.ensures.value at c.in_ok-copies.ensures.ok)
    ∙ ap (λ x. walk 3 (opens_of node (slice_range xs (c.args.from + 1) c.args.to))
    (begun c.args.rules f0 (node (handle_of x)) es)) (c.index-3.ensures ∙ get_or_default xs c.args.to c.index-3.result.now d c.requires.within) in
    let a : IsAdoption node f0 xs es c.args.from c.args.to d c.args.foster w = adoption node f0 xs es c.args.from
    c.args.to d c.args.foster c.args.rules c.args.tag w c.requires.standing c.requires.order c.requires.within (c.requires.turn d) e in
    let pl = rw c.as_slice-2.ensures.value at (c.place_before-point.ensures.place (remove f1 (node c.in_ok-copies.copies.last))) in
    let f2 = g.Sink.TreeSink.forest c.put_last.new.sink in
    let n = node (handle_of (get_or xs c.args.from d)) in
    let within : c.args.from < length xs = omega (arith, c.requires.order, c.requires.within) in
    let from_is : c.index.result.now ≡ get_or xs c.args.from d = c.index.ensures
    ∙ get_or_default xs c.args.from c.index.result.now d within in
    let block : c.index-2.result.now ≡ get_or xs c.args.to d = c.index-2.ensures
    ∙ get_or_default xs c.args.to c.index-2.result.now d c.requires.within in
    let last = node c.in_ok-copies.copies.last in
    let b = node (handle_of (get_or xs c.args.to d)) in
    let put_is : f2 ≡ put (remove f1 last) (place_for c.args.foster (remove f1 last) (opens_of node xs)
    (current_node (opens_of node (take c.args.from xs)))) last =
    rw (c.in_ok-put_last.ensures.ok, c.place_before-point.ensures.same, pl) refl in
    let copy = c.in_ok-copy.copy in
    let named : node copy.handle ≡ node_count f2 = ap (λ (x : Open). x.number) c.in_ok-copy.ensures.opened in
    let opened_n = opened-index f0 node xs c.args.from d c.requires.standing.opened within in
    let there : n < node_count f0 = element-IsNode f0 n
    (element_name_of (open_of node (get_or xs c.args.from d)).namespace (open_of node (get_or xs c.args.from d)).name) opened_n.named in
    let placed = is-placed node f0 xs es c.args.from c.args.to d c.args.foster w a in
    let more : node_count f0 ≤ node_count f2 = subst (λ h. node_count f0 ≤ node_count h) (sym put_is) placed.count in
    let forest_is = c.in_ok-copy.ensures.ok
    ∙ ap (λ x. put (reparent_children (with_copy f2 c.args.tag) (node (handle_of x)) (node_count f2))
    (Last (node (handle_of x))) (node_count f2)) block in
    let said : listed_as n w.active_formatting ≡ Some (record { number = n; tag = c.args.tag }) =
    ap (λ (v : Walk). listed_as n v.active_formatting) e
    ∙ walk-keeps f0 b n 3 (opens_of node (slice_range xs (c.args.from + 1) c.args.to)) (begun c.args.rules f0 b es)
    (opened-Walked c.args.rules f0 (open_of node (get_or xs c.args.to d)) es c.requires.standing.tree c.requires.standing.listed a.named) there
    (none-between f0 node xs c.args.from c.args.to d c.requires.standing.apart c.requires.order c.requires.within)
    ∙ (c.requires.turn d).listed in
    let ne : node copy.handle ≢ n = λ same. absurd (omega (arith, named, there, more, same)) in
    let rel = subst (λ x. listed_as (node (handle_of x)) w.active_formatting ≡ Some
    (record { number = n; tag = c.args.tag }) → node copy.handle ≢ node (handle_of x)
    → IsRelisted node (node (handle_of x)) (node copy.handle) c.args.tag c.first_of-first.result
    w.active_formatting (entries_of node c.relist.new.entries.items)) from_is (c.relist.ensures n c.args.tag) in
    let first = rw c.as_slice-3.ensures.value at c.first_of-first.ensures in
    let others_is = relisted-is node n (node copy.handle) c.args.tag c.first_of-first.result
    c.in_ok-copies.copies.elements.items w.active_formatting (entries_of node c.relist.new.entries.items) first
    (copies-new f0 w.forest n w.copies there a.walked.new) (rel said ne)
    ∙ ap (λ m. relist n (Element m c.args.tag) w.copies w.active_formatting) named in
    let opens_is = ap (λ ys. opens_of node ys) (c.restack.ensures d)
    ∙ rebuilt node (take c.args.from xs) c.in_ok-copies.copies.elements.items (drop (c.args.to + 1) xs) (get_or xs c.args.to d) copy
    ∙ ap (λ k. opens_of node (drop k xs) ++ (open_of node copy ∷ open_of node (get_or xs c.args.to d) ∷ w.copies)
    ++ opens_of node (take c.args.from xs)) (add-one c.args.to)
    ∙ ap (λ o. opens_of node (drop (suc c.args.to) xs) ++ (o ∷ open_of node (get_or xs c.args.to d) ∷ w.copies)
    ++ opens_of node (take c.args.from xs)) c.in_ok-copy.ensures.opened in
    turned-is node f0 xs es c.args.from c.args.to d c.args.foster c.args.rules c.args.tag w s f2
    (g.Sink.TreeSink.forest c.copy_under.new.sink) (opens_of node c.restack.new.items.items)
    (entries_of node c.relist.new.entries.items)
    c.requires.standing c.requires.order c.requires.within on by e put_is forest_is others_is opens_is

pub returns-in_err-copies-clause-kept : goal.returns-in_err-copies-clause-kept
returns-in_err-copies-clause-kept g c = on-err c.from_residual.result
    (c.in_err-copies.ensures.kept (opens_of g.Sink.TreeSink.node c.args.elements.now.items) c.requires.standing)

pub returns-in_err-put_last-clause-grows : goal.returns-in_err-put_last-clause-grows
returns-in_err-put_last-clause-grows g c = grown _ _ _ _ _ c.in_ok-copies.ensures.grows
    (ap node_count c.place_before-point.ensures.same) c.in_err-put_last.ensures.grows (no-less _)

pub returns-in_err-copy-clause-grows : goal.returns-in_err-copy-clause-grows
returns-in_err-copy-clause-grows g c = grown _ _ _ _ _ c.in_ok-copies.ensures.grows
    (ap node_count c.place_before-point.ensures.same) c.in_ok-put_last.ensures.grows c.in_err-copy.ensures.grows

pub returns-clause-grows : goal.returns-clause-grows
returns-clause-grows g c = grown _ _ _ _ _ c.in_ok-copies.ensures.grows
    (ap node_count c.place_before-point.ensures.same) c.in_ok-put_last.ensures.grows c.in_ok-copy.ensures.grows

pub restack-requires-clause-within : goal.restack-requires-clause-within
restack-requires-clause-within g c = c.requires.within

pub returns-clause-below : goal.returns-clause-below
returns-clause-below g c =
    let d = c.index-3.result.now in
    front-kept c.args.elements.now.items c.restack.new.items.items _ c.args.from
    (omega (arith, c.requires.order, c.requires.within)) (c.restack.ensures d)
