use Rattle.std.proofs.Common.{◌≡◌, ◌∙◌, ◌<◌, ◌++◌, ◌∷◌, length, sym, ap, refl, arith}
use Rattle.html_rules.specs.State.{Element}
use Rattle.html_stack.specs.Stacks.{Stacked, entries_of}
use Rattle.html_stack.specs.declared.entries.FormatEntry.TheVariants.{Marker}
use Rattle.html_stack.proofs.Reopened.{count-entries, renamed-at}
use Rattle.html_stack.proofs.stack.Stack.relist_at.Goals as goal

pub rename-requires : goal.rename-requires
rename-requires g c =
    let node = g.Sink.TreeSink.node in
    let count : length c.args.self.now.active_formatting ≡ length c.self.inside.active_formatting.items =
    ap (λ (v : Stacked). length v.active_formatting) (sym c.self.view_is) ∙ count-entries node c.self.inside.active_formatting.items in
    omega (arith, c.requires, count)

pub returns : goal.returns
returns g c newer older n tag e size =
    let node = g.Sink.TreeSink.node in
    let items = c.self.inside.active_formatting.items in
    let count : length c.args.self.now.active_formatting ≡ length items =
    ap (λ (v : Stacked). length v.active_formatting) (sym c.self.view_is) ∙ count-entries node items in
    let less : c.args.place < length items = omega (arith, c.requires, count) in
    let was : entries_of node items ≡ newer ++ Element n tag ∷ older = ap (λ (v : Stacked). v.active_formatting) c.self.view_is ∙ e in
    let now = ap (λ ys. entries_of node ys) (c.rename.ensures Marker) ∙ renamed-at node items c.args.place
    c.args.element newer older n tag was size less in
    rw (← c.self.view_is, now) refl
