use Rattle.std.proofs.Common.{◌≡◌, ◌∙◌, length, set, get_or, sym, ap, subst, arith, remove}
use Rattle.std.proofs.lemmas.List.{get_or-set_same, get_or_read, length-set}
use Rattle.html_rules.specs.Formatting.{stands_for}
use Rattle.html_stack.specs.Adopting.{IsRelisted}
use Rattle.html_stack.specs.Found.{IsNewest, renamed}
use Rattle.html_stack.specs.Stacks.{entries_of, entry_of}
use Rattle.html_stack.specs.declared.entries.FormatEntry.TheVariants.{Marker}
use Rattle.html_stack.proofs.Relisted.{not-missing, relisted-after, relisted-gone, relisted-in_place, taken-out}
use Rattle.html_stack.proofs.formatting.listing.relist.Goals as goal

pub returns-in_default : goal.returns-in_default
returns-in_default g c number tag said ne =
    absurd (not-missing (g.Sink.TreeSink.node c.args.formatting_element.now) number tag
    (entries_of g.Sink.TreeSink.node c.args.entries.now.items) (rw c.as_slice.ensures.value at c.in_default.ensures) said)

pub returns-in_default-first : goal.returns-in_default-first
returns-in_default-first g c number tag said ne =
    let node = g.Sink.TreeSink.node in
    let n = node c.args.formatting_element.now in
    let items = c.args.entries.now.items in
    let is : IsNewest (entry_of node) (stands_for n) items c.in-Some.from = rw c.as_slice.ensures.value at c.in-Some.ensures in
    subst (λ o. IsRelisted node n (node c.args.new) tag o (entries_of node items)
    (entries_of node c.rename.new.entries.items)) (sym c.in_default-first.is)
    (ap (λ xs. entries_of node xs) (c.rename.ensures Marker) ∙ relisted-in_place node n number tag items c.in-Some.from c.args.new is said)

pub remove-entry-requires : goal.remove-entry-requires
remove-entry-requires g c =
    let node = g.Sink.TreeSink.node in
    let items = c.args.entries.now.items in
    let is : IsNewest (entry_of node) (stands_for (node c.args.formatting_element.now)) items c.in-Some.from =
    rw c.as_slice.ensures.value at c.in-Some.ensures in
    let within = is.within in
    let count = ap length (c.rename.ensures Marker) ∙ length-set items c.in-Some.from
    (renamed c.args.new (get_or items c.in-Some.from Marker)) in
    omega (arith, count)

pub returns-in-None : goal.returns-in-None
returns-in-None g c number tag said ne =
    let node = g.Sink.TreeSink.node in
    let n = node c.args.formatting_element.now in
    let items = c.args.entries.now.items in
    let i = c.in-Some.from in
    let is : IsNewest (entry_of node) (stands_for n) items i = rw c.as_slice.ensures.value at c.in-Some.ensures in
    let rest = c.remove-entry.new.self.items in
    let left = ap (λ xs. entries_of node xs)
    (c.remove-entry.ensures.items ∙ ap (λ xs. remove xs i) (c.rename.ensures Marker)) ∙ taken-out node n items i
    (renamed c.args.new (get_or items i Marker)) is in
    let none = rw c.as_slice-2.ensures.value at c.in-None.ensures in
    subst (λ o. IsRelisted node n (node c.args.new) tag o (entries_of node items) (entries_of node rest)) (sym c.in-Some-first.is)
    (λ ne'. relisted-gone node n (node c.in-Some-first.first) tag items rest c.args.new left none ne ne')

pub returns-in-Some-in_list : goal.returns-in-Some-in_list
returns-in-Some-in_list g c number tag said ne =
    let node = g.Sink.TreeSink.node in
    let n = node c.args.formatting_element.now in
    let items = c.args.entries.now.items in
    let i = c.in-Some.from in
    let is : IsNewest (entry_of node) (stands_for n) items i = rw c.as_slice.ensures.value at c.in-Some.ensures in
    let within = is.within in
    let x = renamed c.args.new (get_or items i Marker) in
    let rest = c.remove-entry.new.self.items in
    let left = ap (λ xs. entries_of node xs)
    (c.remove-entry.ensures.items ∙ ap (λ xs. remove xs i) (c.rename.ensures Marker)) ∙ taken-out node n items i x is in
    let taken : c.remove-entry.result ≡ x = get_or_read (set items i x) i c.remove-entry.result
    (omega (arith, length-set items i x)) (rw (c.rename.ensures Marker) at c.remove-entry.ensures.value) Marker
    ∙ get_or-set_same items i x Marker within in
    let here : IsNewest (entry_of node) (stands_for (node c.in-Some-first.first)) rest c.in-Some-in_list.place =
    rw c.as_slice-2.ensures.value at c.in-Some-in_list.ensures in
    subst (λ o. IsRelisted node n (node c.args.new) tag o (entries_of node items)
    (entries_of node c.put_back.new.entries.items)) (sym c.in-Some-first.is)
    (λ ne'. ap (λ xs. entries_of node xs) c.put_back.ensures ∙ relisted-after node n number
    (node c.in-Some-first.first) tag items rest i c.in-Some-in_list.place c.args.new c.remove-entry.result is
    said left taken here ne ne')
