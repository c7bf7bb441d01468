use Rattle.std.proofs.Common.{◌≡◌, ◌∙◌, ◌+◌, Some, None, get_or, length, sym, ap, subst, arith}
use Rattle.markup.specs.Forest.{IsNode}
use Rattle.html_rules_laws.specs.Soundness.{IsStanding}
use Rattle.std.specs.Prelude.{slice_range}
use Rattle.html_rules.specs.Adoption.{furthest_block, listed_as, opened_after}
use Rattle.html_rules.specs.Formatting.{Listed}
use Rattle.html_stack.specs.Adopting.{told, turned, with_all}
use Rattle.html_stack.specs.Found.{IsTagAt}
use Rattle.html_stack.specs.Stacks.{entries_of, open_of, opens_of}
use Rattle.html_stack.specs.declared.entries.FormatEntry.TheVariants.{Marker}
use Rattle.html_stack.proofs.Adopted.{before-place}
use Rattle.html_stack.proofs.Agencies.{after-is, any-of, block-place, number-place, rest-is, same-tag, told-grows}
use Rattle.html_stack.proofs.Agencies.{told-grows-on, told-stands, turn-adopt, turn-cut}
use Rattle.html_stack.proofs.ListEdits.{marker-apart}
use Rattle.html_stack.proofs.Results.{on-err}
use Rattle.html_stack.proofs.StackEdits.{newest-open, open-node}
use Rattle.html_stack.proofs.Noted.{front-cut}
use Rattle.html_stack.proofs.formatting.turns.turn_open.Goals as goal

pub returns-in_default-clause-ok : goal.returns-in_default-clause-ok
returns-in_default-clause-ok g c name s on =
    let node = g.Sink.TreeSink.node in
    let n = node c.args.formatting.node in
    let f = g.Sink.TreeSink.forest c.args.sink.now in
    let xs = c.args.elements.now.items in
    let es = entries_of node c.args.entries.now.items in
    let fe : Listed = record { number = n; tag = c.requires.listed.0 } in
    let is = c.requires.opened in
    let d = any-of xs c.args.from is.within in
    let told_is : g.Sink.TreeSink.forest c.report_unless_current.new.sink ≡ told n (opens_of node xs) f =
    rw c.as_slice.ensures.value at c.report_unless_current.ensures in
    let later = slice_range c.as_slice-2.result.now (c.args.from + 1) (length c.as_slice-2.result.now) in
    let none : furthest_block (opened_after n (opens_of node xs)) ≡ None =
    ap furthest_block (after-is node n xs later c.args.from d is
    (rest-is xs c.as_slice-2.result.now (c.args.from + 1) c.as_slice-2.ensures.value)) ∙ c.in_default.ensures in
    let left = ap (λ zs. opens_of node zs) c.truncate.ensures.items ∙ sym (before-place node n xs c.args.from d is) in
    rw (told_is, c.unlist.ensures)
    (turn-cut c.args.foster c.args.rules f (opens_of node xs) (opens_of node c.truncate.new.self.items) es fe
    c.requires.listed.1.newest (newest-open node n xs c.args.from is) c.requires.scope none left name s on)

pub returns-in_err-tag-clause-kept : goal.returns-in_err-tag-clause-kept
returns-in_err-tag-clause-kept g c =
    let node = g.Sink.TreeSink.node in
    let n = node c.args.formatting.node in
    let f = g.Sink.TreeSink.forest c.args.sink.now in
    let xs = c.args.elements.now.items in
    let es = entries_of node c.args.entries.now.items in
    let told_is : g.Sink.TreeSink.forest c.report_unless_current.new.sink ≡ told n (opens_of node xs) f =
    rw c.as_slice.ensures.value at c.report_unless_current.ensures in
    on-err c.from_residual.result (rw told_is (told-stands n f (opens_of node xs) es c.requires.standing))

pub adopt-requires-clause-standing : goal.adopt-requires-clause-standing
adopt-requires-clause-standing g c =
    let node = g.Sink.TreeSink.node in
    let n = node c.args.formatting.node in
    let f = g.Sink.TreeSink.forest c.args.sink.now in
    let xs = c.args.elements.now.items in
    let es = entries_of node c.args.entries.now.items in
    let told_is : g.Sink.TreeSink.forest c.report_unless_current.new.sink ≡ told n (opens_of node xs) f =
    rw c.as_slice.ensures.value at c.report_unless_current.ensures in
    rw told_is (told-stands n f (opens_of node xs) es c.requires.standing)

pub adopt-requires-clause-turn : goal.adopt-requires-clause-turn
adopt-requires-clause-turn g c d =
    let node = g.Sink.TreeSink.node in
    let n = node c.args.formatting.node in
    let xs = c.args.elements.now.items in
    let items = c.args.entries.now.items in
    let es = entries_of node items in
    let is = c.requires.opened in
    let number = number-place node n xs c.args.from d is in
    let later = slice_range c.as_slice-2.result.now (c.args.from + 1) (length c.as_slice-2.result.now) in
    let block = block-place node n xs later c.args.from c.in-Some.block d is
    (rest-is xs c.as_slice-2.result.now (c.args.from + 1) c.as_slice-2.ensures.value) c.in-Some.ensures in
    let said : IsTagAt items c.args.formatting.place (Some c.in-Some-2.tag) =
    subst (IsTagAt items c.args.formatting.place) c.in-Some-2.is (rw c.as_slice-3.ensures.value at c.in_ok-tag.ensures.tag) in
    let tag_is = same-tag c.args.formatting.node said.0 c.requires.listed.0 c.in-Some-2.tag
    (get_or items c.args.formatting.place Marker) c.requires.listed.1.entry said.1 in
    record {
      listed =
          subst (λ k. listed_as k es ≡ Some (record { number = k; tag = c.in-Some-2.tag })) (sym number)
          (subst (λ t. listed_as n es ≡ Some (record { number = n; tag = t })) tag_is c.requires.listed.1.newest);
      scope = rw number c.requires.scope;
      block = rw number block;
    }

pub pop-requires : goal.pop-requires
pop-requires g c =
    let node = g.Sink.TreeSink.node in
    let n = node c.args.formatting.node in
    let f = g.Sink.TreeSink.forest c.args.sink.now in
    let h = g.Sink.TreeSink.forest c.report_unless_current.new.sink in
    let xs = c.args.elements.now.items in
    let es = entries_of node c.args.entries.now.items in
    let told_is : h ≡ told n (opens_of node xs) f = rw c.as_slice.ensures.value at c.report_unless_current.ensures in
    let standing : IsStanding h (opens_of node xs) es = rw told_is (told-stands n f (opens_of node xs) es c.requires.standing) in
    let before : IsNode h n = open-node h n (opens_of node xs) standing.opened (newest-open node n xs c.args.from c.requires.opened) in
    omega (arith, before, c.in_ok-adopt.ensures.grows)

pub returns-clause-ok : goal.returns-clause-ok
returns-clause-ok g c =
    let node = g.Sink.TreeSink.node in
    let n = node c.args.formatting.node in
    let f = g.Sink.TreeSink.forest c.args.sink.now in
    let xs = c.args.elements.now.items in
    let items = c.args.entries.now.items in
    let es = entries_of node items in
    let fe : Listed = record { number = n; tag = c.requires.listed.0 } in
    let is = c.requires.opened in
    let d = any-of xs c.args.from is.within in
    let told_is : g.Sink.TreeSink.forest c.report_unless_current.new.sink ≡ told n (opens_of node xs) f =
    rw c.as_slice.ensures.value at c.report_unless_current.ensures in
    let number = number-place node n xs c.args.from d is in
    let later = slice_range c.as_slice-2.result.now (c.args.from + 1) (length c.as_slice-2.result.now) in
    let some = block-place node n xs later c.args.from c.in-Some.block d is
    (rest-is xs c.as_slice-2.result.now (c.args.from + 1) c.as_slice-2.ensures.value) c.in-Some.ensures in
    let said : IsTagAt items c.args.formatting.place (Some c.in-Some-2.tag) =
    subst (IsTagAt items c.args.formatting.place) c.in-Some-2.is (rw c.as_slice-3.ensures.value at c.in_ok-tag.ensures.tag) in
    let tag_is = same-tag said.0 c.args.formatting.node c.in-Some-2.tag c.requires.listed.0
    (get_or items c.args.formatting.place Marker) said.1 c.requires.listed.1.entry in
    let block = open_of node (get_or xs (c.args.from + 1 + c.in-Some.block) d) in
    rw c.pop.ensures
    (turn-adopt c.args.foster c.args.rules f (g.Sink.TreeSink.forest c.adopt.new.sink) (opens_of node xs)
    (opens_of node c.adopt.new.elements.items) es (entries_of node c.adopt.new.entries.items) fe block
    c.requires.listed.1.newest (newest-open node n xs c.args.from is) c.requires.scope some
    (λ s on by. c.in_ok-adopt.ensures.ok s d on by
    ∙ ap (λ h. turned (with_all s h (opens_of node xs) es) (record {
      number = node (get_or xs c.args.from d).handle;
      tag = c.in-Some-2.tag;
    }) block) told_is
    ∙ ap (λ k. turned (with_all s (told n (opens_of node xs) f) (opens_of node xs) es)
    (record { number = k; tag = c.in-Some-2.tag }) block) number
    ∙ ap (λ t. turned (with_all s (told n (opens_of node xs) f) (opens_of node xs) es) (record { number = n; tag = t }) block) tag_is))

pub returns-in_default-2-clause-ok : goal.returns-in_default-2-clause-ok
returns-in_default-2-clause-ok g c =
    let items = c.args.entries.now.items in
    let none : IsTagAt items c.args.formatting.place None = subst (IsTagAt items c.args.formatting.place)
    c.in_default-2.is (rw c.as_slice-3.ensures.value at c.in_ok-tag.ensures.tag) in
    marker-apart (get_or items c.args.formatting.place Marker) c.args.formatting.node c.requires.listed.0 c.requires.listed.1.entry none

pub returns-in_default-clause-grows : goal.returns-in_default-clause-grows
returns-in_default-clause-grows g c =
    let node = g.Sink.TreeSink.node in
    let n = node c.args.formatting.node in
    let f = g.Sink.TreeSink.forest c.args.sink.now in
    let xs = opens_of node c.args.elements.now.items in
    let told_is : g.Sink.TreeSink.forest c.report_unless_current.new.sink ≡ told n xs f =
    rw c.as_slice.ensures.value at c.report_unless_current.ensures in
    told-grows n xs f (g.Sink.TreeSink.forest c.report_unless_current.new.sink) told_is

pub returns-in_err-tag-clause-grows : goal.returns-in_err-tag-clause-grows
returns-in_err-tag-clause-grows g c =
    let node = g.Sink.TreeSink.node in
    let n = node c.args.formatting.node in
    let f = g.Sink.TreeSink.forest c.args.sink.now in
    let xs = opens_of node c.args.elements.now.items in
    let told_is : g.Sink.TreeSink.forest c.report_unless_current.new.sink ≡ told n xs f =
    rw c.as_slice.ensures.value at c.report_unless_current.ensures in
    told-grows n xs f (g.Sink.TreeSink.forest c.report_unless_current.new.sink) told_is

pub returns-in_default-2-clause-grows : goal.returns-in_default-2-clause-grows
returns-in_default-2-clause-grows g c =
    let node = g.Sink.TreeSink.node in
    let n = node c.args.formatting.node in
    let f = g.Sink.TreeSink.forest c.args.sink.now in
    let xs = opens_of node c.args.elements.now.items in
    let told_is : g.Sink.TreeSink.forest c.report_unless_current.new.sink ≡ told n xs f =
    rw c.as_slice.ensures.value at c.report_unless_current.ensures in
    told-grows n xs f (g.Sink.TreeSink.forest c.report_unless_current.new.sink) told_is

pub returns-in_err-adopt-clause-grows : goal.returns-in_err-adopt-clause-grows
returns-in_err-adopt-clause-grows g c =
    let node = g.Sink.TreeSink.node in
    let n = node c.args.formatting.node in
    let f = g.Sink.TreeSink.forest c.args.sink.now in
    let xs = opens_of node c.args.elements.now.items in
    let told_is : g.Sink.TreeSink.forest c.report_unless_current.new.sink ≡ told n xs f =
    rw c.as_slice.ensures.value at c.report_unless_current.ensures in
    told-grows-on n xs f (g.Sink.TreeSink.forest c.report_unless_current.new.sink)
    (g.Sink.TreeSink.forest c.adopt.new.sink) told_is c.in_err-adopt.ensures.grows

pub returns-clause-grows : goal.returns-clause-grows
returns-clause-grows g c =
    let node = g.Sink.TreeSink.node in
    let n = node c.args.formatting.node in
    let f = g.Sink.TreeSink.forest c.args.sink.now in
    let xs = opens_of node c.args.elements.now.items in
    let told_is : g.Sink.TreeSink.forest c.report_unless_current.new.sink ≡ told n xs f =
    rw c.as_slice.ensures.value at c.report_unless_current.ensures in
    rw c.pop.ensures (told-grows-on n xs f (g.Sink.TreeSink.forest c.report_unless_current.new.sink)
    (g.Sink.TreeSink.forest c.adopt.new.sink) told_is c.in_ok-adopt.ensures.grows)

pub returns-in_default-clause-below : goal.returns-in_default-clause-below
returns-in_default-clause-below g c = front-cut c.args.elements.now.items c.truncate.new.self.items c.args.from c.truncate.ensures.items
