use Rattle.std.proofs.Common.{rules, sym, subst, ◌∙◌, ap}
use Rattle.html_tokens.specs.declared.token.Token.TheVariants.{EOFToken}
use Rattle.html_rules.specs.Rules.{Again, concluded, turn_of, using_rules_for}
use Rattle.html_rules.specs.Table.{RestoreMode, SwitchTo}
use Rattle.html_modes.specs.Tables.{conclusion_of}
use Rattle.html_tree_builder.specs.Rows.{next_turn}
use Rattle.html_tree_builder.specs.States.{state_of}
use Rattle.html_tree_builder.specs.Told.{token_of}
use Rattle.html_tree_builder.specs.Turning.{MayConclude, MayGoOn, MayUse}
use Rattle.html_tree_builder.proofs.Acted.{acted-stands, no_answers}
use Rattle.html_tree_builder.proofs.construction.Construction.conclude.Goals as goal

pub returns-in-Reprocess-clause-stands : goal.returns-in-Reprocess-clause-stands
returns-in-Reprocess-clause-stands g c f stands =
    acted-stands no_answers c.args.self.now c.set_mode.new.self f f (SwitchTo c.in-Reprocess.mode) EOFToken tt
    stands (c.set_mode.ensures no_answers f)

pub returns-in-ReprocessInOriginal-clause-stands : goal.returns-in-ReprocessInOriginal-clause-stands
returns-in-ReprocessInOriginal-clause-stands g c f stands =
    acted-stands no_answers c.args.self.now c.restore_mode.new.self f f RestoreMode EOFToken tt stands (c.restore_mode.ensures no_answers f)

pub returns-in-Acknowledged-clause-ok : goal.returns-in-Acknowledged-clause-ok
returns-in-Acknowledged-clause-ok g c = search rules

pub returns-in-Done-clause-ok : goal.returns-in-Done-clause-ok
returns-in-Done-clause-ok g c = λ a f using.
    ap (λ ends. concluded using (conclusion_of ends) (token_of c.args.told.now.content)
    (g.Sink.TreeSink.node c.args.script) (state_of a c.args.self.now f)) c.in-Done.is

pub returns-in-ReprocessInMode-clause-ok : goal.returns-in-ReprocessInMode-clause-ok
returns-in-ReprocessInMode-clause-ok g c = λ a f using.
    ap (λ ends. concluded using (conclusion_of ends) (token_of c.args.told.now.content)
    (g.Sink.TreeSink.node c.args.script) (state_of a c.args.self.now f)) c.in-ReprocessInMode.is

pub returns-in-Using-clause-ok : goal.returns-in-Using-clause-ok
returns-in-Using-clause-ok g c = λ a f using.
    ap (λ ends. concluded using (conclusion_of ends) (token_of c.args.told.now.content)
    (g.Sink.TreeSink.node c.args.script) (state_of a c.args.self.now f)) c.in-Using.is

pub returns-in-UsingThen-clause-ok : goal.returns-in-UsingThen-clause-ok
returns-in-UsingThen-clause-ok g c = λ a f using.
    ap (λ ends. concluded using (conclusion_of ends) (token_of c.args.told.now.content)
    (g.Sink.TreeSink.node c.args.script) (state_of a c.args.self.now f)) c.in-UsingThen.is

pub returns-in-Reprocess-clause-ok : goal.returns-in-Reprocess-clause-ok
returns-in-Reprocess-clause-ok g c = λ a f using.
    ap (λ ends. concluded using (conclusion_of ends) (token_of c.args.told.now.content)
    (g.Sink.TreeSink.node c.args.script) (state_of a c.args.self.now f)) c.in-Reprocess.is
    ∙ ap (λ s. turn_of s Again) (sym (c.set_mode.ensures a f))

pub returns-in-ReprocessInOriginal-clause-ok : goal.returns-in-ReprocessInOriginal-clause-ok
returns-in-ReprocessInOriginal-clause-ok g c = λ a f using.
    ap (λ ends. concluded using (conclusion_of ends) (token_of c.args.told.now.content)
    (g.Sink.TreeSink.node c.args.script) (state_of a c.args.self.now f)) c.in-ReprocessInOriginal.is
    ∙ ap (λ s. turn_of s Again) (sym (c.restore_mode.ensures a f))

pub returns-in-RawText-clause-ok : goal.returns-in-RawText-clause-ok
returns-in-RawText-clause-ok g c = λ a f using.
    ap (λ ends. concluded using (conclusion_of ends) (token_of c.args.told.now.content)
    (g.Sink.TreeSink.node c.args.script) (state_of a c.args.self.now f)) c.in-RawText.is
    ∙ ap (λ next. next_turn g.Sink.TreeSink.node using next (token_of c.args.told.now.content)
    (state_of a c.args.self.now f)) (sym c.replied.ensures)

pub returns-in-RawText-clause-may : goal.returns-in-RawText-clause-may
returns-in-RawText-clause-may g c = λ n a f may.
    subst (λ next. MayGoOn (MayUse n) (using_rules_for n) next (token_of c.args.told.now.content)
    (state_of a c.args.self.now f)) (sym c.replied.ensures) tt

pub returns-in-PlainText-clause-ok : goal.returns-in-PlainText-clause-ok
returns-in-PlainText-clause-ok g c = λ a f using.
    ap (λ ends. concluded using (conclusion_of ends) (token_of c.args.told.now.content)
    (g.Sink.TreeSink.node c.args.script) (state_of a c.args.self.now f)) c.in-PlainText.is
    ∙ ap (λ next. next_turn g.Sink.TreeSink.node using next (token_of c.args.told.now.content)
    (state_of a c.args.self.now f)) (sym c.replied-in-PlainText.ensures)

pub returns-in-PlainText-clause-may : goal.returns-in-PlainText-clause-may
returns-in-PlainText-clause-may g c = λ n a f may.
    subst (λ next. MayGoOn (MayUse n) (using_rules_for n) next (token_of c.args.told.now.content)
    (state_of a c.args.self.now f)) (sym c.replied-in-PlainText.ensures) tt

pub returns-in-RunScript-clause-ok : goal.returns-in-RunScript-clause-ok
returns-in-RunScript-clause-ok g c = λ a f using.
    ap (λ ends. concluded using (conclusion_of ends) (token_of c.args.told.now.content)
    (g.Sink.TreeSink.node c.args.script) (state_of a c.args.self.now f)) c.in-RunScript.is
    ∙ ap (λ next. next_turn g.Sink.TreeSink.node using next (token_of c.args.told.now.content)
    (state_of a c.args.self.now f)) (sym c.replied-in-RunScript.ensures)

pub returns-in-RunScript-clause-may : goal.returns-in-RunScript-clause-may
returns-in-RunScript-clause-may g c = λ n a f may.
    subst (λ next. MayGoOn (MayUse n) (using_rules_for n) next (token_of c.args.told.now.content)
    (state_of a c.args.self.now f)) (sym c.replied-in-RunScript.ensures) tt

pub returns-in-Using-clause-may : goal.returns-in-Using-clause-may
returns-in-Using-clause-may g c = λ n a f may.
    subst (λ ends. MayConclude (MayUse n) (using_rules_for n) (conclusion_of ends)
    (token_of c.args.told.now.content) (state_of a c.args.self.now f)) c.in-Using.is may

pub returns-in-UsingThen-clause-may : goal.returns-in-UsingThen-clause-may
returns-in-UsingThen-clause-may g c = λ n a f may.
    subst (λ ends. MayConclude (MayUse n) (using_rules_for n) (conclusion_of ends)
    (token_of c.args.told.now.content) (state_of a c.args.self.now f)) c.in-UsingThen.is may
