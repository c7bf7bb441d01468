use Rattle.std.proofs.Common.{rules, ◌∙◌, sym, ap, refl}
use Rattle.std.proofs.lemmas.Result.{IfOk-weaker}
use Rattle.markup.specs.Forest.{children_of}
use Rattle.html_faithful.specs.Walk.{is_at_end}
use Rattle.html_faithful_judge.specs.Spots.{spot_of}
use Rattle.html_faithful_walk.specs.Left.{walk_of}
use Rattle.html_faithful_walk.proofs.Firsts.{first-end, first-here, first-up, leads-as, leads-up, some-weaker, start-leads}
use Rattle.html_faithful_walk.proofs.Left.{ascended, ascent-less, ended, first, kept, none-left, stopped}
use Rattle.html_faithful_walk.proofs.walker.first_unfaithful.Goals as goal

pub loop-id-init : goal.loop-id-init
loop-id-init c =
    let spot = ap (λ m. m.spot) c.nothing_yet.ensures ∙ c.first_spot.ensures in
    let nodes = c.children.ensures ∙ ap (children_of c.args.forest.now) c.requires.document in
    record {
      same = first c.args.scripting c.args.forest.now (spot_of c.nothing_yet.result.spot) c.children.result c.new.result.items spot nodes
          (search rules);
      leads = start-leads c.args.scripting c.args.forest.now
          (spot_of c.nothing_yet.result.spot) c.children.result c.new.result.items spot nodes
          (search rules);
    }

pub returns-then-not-branch-2-clause-ok : goal.returns-then-not-branch-2-clause-ok
returns-then-not-branch-2-clause-ok c =
    stopped _ _ _ _ (ascended c.args.scripting c.args.forest.now c.requires.tree (walk_of c.loop-id.judge c.loop-id.nodes) _
    (walk_of c.go_on.new.judge c.go_on.new.nodes) c.pop.new.self.items c.in-Some-pop.level _ c.in-None.ensures.steps.0
    c.in-Some-pop.ensures.items refl refl c.in_ok-go_on-in-Some-pop.ensures.ok c.go_on.ensures.rest
    (ap (λ w. w.items) c.go_on.ensures.waiting))
    c.if-not-branch-2.true c.loop-id.invariant.same

pub loop-id-smaller : goal.loop-id-smaller
loop-id-smaller c =
    ascent-less c.args.scripting c.args.forest.now c.requires.tree (walk_of c.loop-id.judge c.loop-id.nodes)
    (walk_of c.go_on.new.judge c.go_on.new.nodes) c.pop.new.self.items c.in-Some-pop.level c.in-None.ensures.steps.0
    c.in-Some-pop.ensures.items c.go_on.ensures.rest (ap (λ w. w.items) c.go_on.ensures.waiting)

pub loop-id-preserved : goal.loop-id-preserved
loop-id-preserved c = record {
  same = kept _ _ _ _ (ascended c.args.scripting c.args.forest.now c.requires.tree (walk_of c.loop-id.judge c.loop-id.nodes) _
      (walk_of c.go_on.new.judge c.go_on.new.nodes) c.pop.new.self.items c.in-Some-pop.level _ c.in-None.ensures.steps.0
      c.in-Some-pop.ensures.items refl refl c.in_ok-go_on-in-Some-pop.ensures.ok c.go_on.ensures.rest
      (ap (λ w. w.items) c.go_on.ensures.waiting))
      c.if-not-branch-2.false c.loop-id.invariant.same;
  leads = leads-up c.args.scripting c.args.forest.now (walk_of c.loop-id.judge c.loop-id.nodes) (walk_of c.loop-id.judge c.loop-id.nodes)
      (walk_of c.go_on.new.judge c.go_on.new.nodes) c.pop.new.self.items c.in-Some-pop.level _ c.if-not-branch-2.false
      c.in-None.ensures.steps.0 c.in-Some-pop.ensures.items refl c.in_ok-go_on-in-Some-pop.ensures.up c.go_on.ensures.rest
      (ap (λ w. w.items) c.go_on.ensures.waiting) c.loop-id.invariant.leads;
}

pub returns-in-None-pop-clause-ok : goal.returns-in-None-pop-clause-ok
returns-in-None-pop-clause-ok c =
    IfOk-weaker c.unended.result _ _
    (λ b h. sym (h c.args.scripting) ∙ (sym (ap is_at_end (ended c.args.scripting c.args.forest.now c.requires.tree
    (walk_of c.loop-id.judge c.loop-id.nodes) c.in-None.ensures.steps.0
    (none-left c.loop-id.nodes.waiting.items (sym c.loop-id.nodes.waiting.ok.0 ∙ c.in-None-pop.ensures.cases.0))))
    ∙ c.loop-id.invariant.same))
    c.unended.ensures.ok

-- WHICH IS THE FIRST

pub returns-then-not-branch-2-clause-first : goal.returns-then-not-branch-2-clause-first
returns-then-not-branch-2-clause-first c =
    first-up c.args.scripting c.args.forest.now (walk_of c.loop-id.judge c.loop-id.nodes) (walk_of c.loop-id.judge c.loop-id.nodes)
    (walk_of c.go_on.new.judge c.go_on.new.nodes) c.pop.new.self.items c.in-Some-pop.level _ c.if-not-branch-2.true
    c.in-None.ensures.steps.0 c.in-Some-pop.ensures.items refl c.in_ok-go_on-in-Some-pop.ensures.up c.loop-id.invariant.leads

pub returns-in-None-pop-clause-first : goal.returns-in-None-pop-clause-first
returns-in-None-pop-clause-first c =
    IfOk-weaker c.unended.result _ _
    (λ node h. some-weaker node _ _ (λ n k. first-end c.args.scripting c.args.forest.now (walk_of c.loop-id.judge c.loop-id.nodes) n
    c.in-None.ensures.steps.0
    (none-left c.loop-id.nodes.waiting.items (sym c.loop-id.nodes.waiting.ok.0 ∙ c.in-None-pop.ensures.cases.0))
    (k.0 ∙ c.requires.document) k.1 c.loop-id.invariant.leads) h) c.unended.ensures.point

pub returns-then-not-branch-clause-first : goal.returns-then-not-branch-clause-first
returns-then-not-branch-clause-first c =
    first-here c.args.scripting c.args.forest.now
    (walk_of c.loop-id.judge (record { rest = c.next.new.self; waiting = c.loop-id.nodes.waiting }))
    (walk_of c.take.new.judge c.take.new.nodes) c.in-Some.id c.in_ok-take-in-Some.field-0 c.if-not-branch.true
    c.in_ok-take-in-Some.ensures.past
    (leads-as c.args.scripting c.args.forest.now
    (walk_of c.loop-id.judge c.loop-id.nodes) _ c.in-Some.ensures.steps c.loop-id.invariant.leads)
