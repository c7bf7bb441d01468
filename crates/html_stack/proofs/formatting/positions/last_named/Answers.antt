use Rattle.std.proofs.Common.{◌∙◌, ◌<◌, ◌-◌, length, sym, ap, arith, is_some}
use Rattle.std.proofs.lemmas.List.{get_or_default}
use Rattle.html_rules.specs.Formatting.{last_named}
use Rattle.html_stack.specs.Found.{listed_of}
use Rattle.html_stack.specs.Stacks.{entry_of}
use Rattle.html_stack.specs.declared.entries.FormatEntry.TheVariants.{Marker}
use Rattle.html_stack.proofs.ListEdits.{named-here, named-marker, named-other}
use Rattle.html_stack.proofs.WalksBack.{walk-at, walk-none, walk-on}
use Rattle.html_stack.proofs.formatting.positions.last_named.Goals as goal

pub returns-in-Marker : goal.returns-in-Marker
returns-in-Marker g c =
    walk-at entry_of (last_named c.args.name.now) c.args.entries.now c.loop-i.i _ c.index-entries-i.result
    c.loop-i.invariant (omega arith) c.index-entries-i.is g.Sink.TreeSink.node
    ∙ named-marker g.Sink.TreeSink.node c.args.name.now c.index-entries-i.result _ c.in-Marker.is

pub returns-then-eq : goal.returns-then-eq
returns-then-eq g c =
    let within = c.loop-i.invariant.within in
    let less : c.loop-i.i - 1 < length c.args.entries.now = omega arith in
    let at = get_or_default c.args.entries.now (c.loop-i.i - 1) Marker c.index-entries-i.result less ∙ sym c.index-entries-i.is in
    record {
      within = less;
      some = ap (λ e. is_some (listed_of g.Sink.TreeSink.node e)) (at ∙ c.in-Element.is);
      found =
          walk-at entry_of (last_named c.args.name.now) c.args.entries.now c.loop-i.i _ c.index-entries-i.result
          c.loop-i.invariant (omega arith) c.index-entries-i.is g.Sink.TreeSink.node
          ∙ named-here g.Sink.TreeSink.node c.args.name.now c.index-entries-i.result c.in-Element.field-0
          c.in-Element.tag _ c.in-Element.is (sym c.if-eq.ensures)
          ∙ ap (λ e. listed_of g.Sink.TreeSink.node e) (sym at);
    }

pub loop-i-preserved : goal.loop-i-preserved
loop-i-preserved g c =
    walk-on entry_of (last_named c.args.name.now) c.args.entries.now c.loop-i.i _ c.index-entries-i.result
    c.loop-i.invariant (omega arith) c.index-entries-i.is
    (λ node. named-other node c.args.name.now c.index-entries-i.result c.in-Element.field-0 c.in-Element.tag _
    c.in-Element.is (sym c.if-eq.ensures))

pub returns : goal.returns
returns g c = walk-none entry_of (last_named c.args.name.now) c.args.entries.now c.loop-i.i c.loop-i.invariant
    (omega arith) g.Sink.TreeSink.node
