use Rattle.std.proofs.Common.{◌∙◌, ◌++◌, ◌∷◌, [], Some, None, refl, sym, subst, ap}
use Rattle.html_rules.specs.Adoption.{copy_if}
use Rattle.html_stack.specs.Adopting.{walk_of}
use Rattle.html_stack.specs.Found.{IsNewest, IsTagAt}
use Rattle.html_rules.specs.Formatting.{stands_for}
use Rattle.html_stack.specs.Stacks.{entries_of, entry_of}
use Rattle.html_stack.specs.declared.entries.FormatEntry.TheVariants.{Marker}
use Rattle.html_stack.proofs.ListEdits.{listed_as-none, no-marker}
use Rattle.html_stack.proofs.Results.{on-err}
use Rattle.html_stack.proofs.Walked.{copied}
use Rattle.html_stack.proofs.formatting.copies.copy_node.Goals as goal

pub returns-in_default-clause-ok : goal.returns-in_default-clause-ok
returns-in_default-clause-ok g c =
    let node = g.Sink.TreeSink.node in
    let items = c.args.entries.now.items in
    let none = rw c.as_slice.ensures.value at c.in_default.ensures in
    let w = walk_of node (g.Sink.TreeSink.forest c.args.sink.now) items c.args.copies.now in
    sym (ap (λ o. copy_if o w) (listed_as-none (node c.args.node.now) (entries_of node items) none))

pub returns-in_err-copy-clause-kept : goal.returns-in_err-copy-clause-kept
returns-in_err-copy-clause-kept g c = on-err c.from_residual-in_err-copy.result
    (λ xs h. c.in_err-copy.ensures.kept xs (entries_of g.Sink.TreeSink.node c.args.entries.now.items) h)

pub returns-clause-ok : goal.returns-clause-ok
returns-clause-ok g c =
    let node = g.Sink.TreeSink.node in
    let f = g.Sink.TreeSink.forest c.args.sink.now in
    let k = g.Sink.TreeSink.forest c.copy_over.new.sink in
    let items = c.args.entries.now.items in
    let copy = c.in_ok-copy.copy in
    let is : IsNewest (entry_of node) (stands_for (node c.args.node.now)) items c.in-Some.place =
    rw c.as_slice.ensures.value at c.in-Some.ensures in
    let tagged : IsTagAt items c.in-Some.place (Some c.in-Some-2.tag) = subst (IsTagAt items c.in-Some.place)
    c.in-Some-2.is (rw c.as_slice-2.ensures.value at c.in_ok-tag.ensures.tag) in
    ap (λ xs. walk_of node k xs (record { elements = c.push_reserved.new.self; last = copy.handle; rules = c.args.copies.now.rules })) (c.rename.ensures Marker)
    ∙ copied node f k items c.in-Some.place (node c.args.node.now) tagged.0 c.in-Some-2.tag c.args.copies.now
    (record { elements = c.push_reserved.new.self; last = copy.handle; rules = c.args.copies.now.rules }) copy is tagged.1
    c.in_ok-copy.ensures.ok c.in_ok-copy.ensures.opened
    (c.push_reserved.ensures.items ∙ ap (λ xs. xs ++ copy ∷ []) c.in_ok-reserve.ensures.items) refl refl

pub returns-in_default-2-clause-ok : goal.returns-in_default-2-clause-ok
returns-in_default-2-clause-ok g c =
    let node = g.Sink.TreeSink.node in
    let items = c.args.entries.now.items in
    let is : IsNewest (entry_of node) (stands_for (node c.args.node.now)) items c.in-Some.place =
    rw c.as_slice.ensures.value at c.in-Some.ensures in
    let tagged : IsTagAt items c.in-Some.place None = subst (IsTagAt items c.in-Some.place) c.in_default-2.is
    (rw c.as_slice-2.ensures.value at c.in_ok-tag.ensures.tag) in
    no-marker node (node c.args.node.now) items c.in-Some.place is tagged
