-- Usable states take tokens, and lead to usable states.
use Rattle.std.proofs.Common.{◌≡◌, ℕ, Bool, true, false, true≢false, Option, Some, None, Result, Ok, Err, refl}
use Rattle.std.specs.Prelude.{IfOk, IfSome, codes}
use Rattle.markup.specs.Forest.{Forest, IsNode, above_of, data_of, element_name}
use Rattle.markup.specs.Named.{IsTree}
use Rattle.markup.specs.TreeLaws.{with_errors}
use Rattle.html_tokens.specs.Sink.{Reply, Refusal, SinkLaws}
use Rattle.html_tokens.specs.declared.token.Token.{Token}
use Rattle.html_rules.specs.Documents.{Setting, before_document, before_fragment, modes_of_context, form_of_context}
use Rattle.html_rules.specs.Names.{Html, element_name_of}
use Rattle.html_rules.specs.Shape.{is_fit}
use Rattle.html_rules.specs.State.{Open, State, hushed}
use Rattle.html_rules.specs.Step.{ended, is_barred, is_idle, is_quiet, step, taken}
use Rattle.html_rules_laws.specs.Nesting.{IsNested}
use Rattle.html_rules_laws.specs.Sound.{Sound}
use Rattle.html_rules_laws.specs.Soundness.{IsOwn}
use Rattle.html_rules_laws.specs.Upright.{Steady, Upright}
use Rattle.html_rules_laws.proofs.Soundness.Sink.{rules-are-lawful}
use Rattle.html_rules_laws.proofs.TreePreserved.Standing.{changed-Standing, part-same}
use Rattle.html_rules_laws.proofs.TreePreserved.StandingTrees.{stays-nodes}
use Rattle.html_rules_laws.proofs.StepLaws.{refusal_with, step-is}
use Rattle.html_rules_laws.proofs.TreePreserved.Eases.{eased-part}
use Rattle.html_rules_laws.proofs.TreePreserved.Poised.{eased-Upright}
use Rattle.html_rules_laws.proofs.TreePreserved.Tokens.{states-steady}
use Rattle.html_rules_laws.proofs.ModesPreserved.Begins.{nested-states}
use Rattle.html_rules_laws.proofs.ModesPreserved.Fluid.{form-kept}
use Rattle.html_rules_laws.proofs.ModesPreserved.Tokens.{reached-states}
use Rattle.html_rules_laws.specs.Usable.{AreStatesUsable, Usable}
use Rattle.html_rules_laws.proofs.Frames.Larger.{context-stays, taken-larger, root-larger}

-- a state with another number of errors
abbrev renumbered : ℕ → State → State
renumbered n s = record s { forest = with_errors n s.forest }

upright-renumbered : (n : ℕ) (s : State) → Upright s → Upright (renumbered n s)
upright-renumbered n s h =
    let stays = stays-nodes s.forest s.forest.quirks n h.standing.tree in
    eased-Upright s (renumbered n s) h
    (changed-Standing s.forest (renumbered n s).forest s.open_elems s.active_formatting stays h.standing)
    (eased-part s (renumbered n s) h.standing.opened stays (part-same s.open_elems)) refl refl

sound-renumbered : (n : ℕ) (s : State) → Sound s → Sound (renumbered n s)
sound-renumbered n s h = record { listed = h.listed; modes = h.modes; head = h.head; original = h.original; placed = h.placed }

nested-renumbered : (n : ℕ) (s : State) → Upright s → IsNested s → IsNested (renumbered n s)
nested-renumbered n s up h = record {
  fits = h.fits;
  count = h.count;
  framed = h.framed;
  form = form-kept s.form_elem s.forest (renumbered n s).forest
      (stays-nodes s.forest s.forest.quirks n up.standing.tree).names.names h.form;
}

-- the number of errors is of no account
pub usable-renumbered : (n : ℕ) (s : State) → Usable s → Usable (renumbered n s)
usable-renumbered n s h = record {
  steady = record { sound = sound-renumbered n s h.steady.sound; upright = upright-renumbered n s h.steady.upright };
  nested = λ going. nested-renumbered n s h.steady.upright (h.nested going);
  context = h.context;
}

pub usable-hushed : (s : State) → Usable s → Usable (hushed s)
usable-hushed s h = usable-renumbered 0 s h

pub usable-unhushed : (s : State) → Usable (hushed s) → Usable s
usable-unhushed s h = usable-renumbered s.forest.errors (hushed s) h

-- a usable state takes tokens up to the end
pub usable-fit : (s : State) → Usable s → s.has_ended ≡ false → is_fit s ≡ true
usable-fit s h going = nested-states.fit s h.steady.sound (h.nested going)

-- the step

context-by : (ended idle fit barred : Bool) (s : State) (t : Token) (line : ℕ) → s.has_ended ≡ ended
    → is_idle t ≡ idle → is_fit s ≡ fit → is_barred s.mode t ≡ barred → IfSome s.context_elem (λ c. IsNode s.forest c.number)
    → IfOk (step s t line) (λ p. IfSome p.0.context_elem (λ c. IsNode p.0.forest c.number))
unfolding refusal_with
context-by true idle fit barred s t line e i f b is = rw (step-is s t line true idle fit barred e i f b) tt
context-by false true fit barred s t line e i f b is = rw (step-is s t line false true fit barred e i f b) (rw i is)
context-by false false false barred s t line e i f b is = rw (step-is s t line false false false barred e i f b) tt
context-by false false true true s t line e i f b is = rw (step-is s t line false false true true e i f b) tt
context-by false false true false s t line e i f b is =
    rw (step-is s t line false false true false e i f b)
    (rw i (context-stays (hushed s) (taken t (hushed s)).state (taken-larger t (hushed s)) is))

usable-all : (r : Result (State × Reply) Refusal) → IfOk r (λ p. Steady p.0) → IfOk r (λ p. IsNested p.0)
    → IfOk r (λ p. IfSome p.0.context_elem (λ c. IsNode p.0.forest c.number)) → IfOk r (λ p. Usable p.0)
usable-all (Ok p) h k l = record { steady = h; nested = λ going. k; context = l }
usable-all (Err refusal) h k l = tt

keeps-by : (b : Bool) (s : State) → s.has_ended ≡ b → Usable s → (t : Token) (line : ℕ) → IfOk (step s t line) (λ p. Usable p.0)
unfolding refusal_with
keeps-by true s e h t line = rw (step-is s t line true (is_idle t) (is_fit s) (is_barred s.mode t) e refl refl refl) tt
keeps-by false s e h t line =
    usable-all (step s t line) (states-steady.step s h.steady t line) (reached-states.kept s h.steady (h.nested e) t line)
    (context-by s.has_ended (is_idle t) (is_fit s) (is_barred s.mode t) s t line refl refl refl refl h.context)

pub usable-step : (s : State) → Usable s → (t : Token) (line : ℕ) → IfOk (step s t line) (λ p. Usable p.0)
usable-step s h t line = keeps-by s.has_ended s refl h t line

pub usable-ended : (s : State) → Usable s → Usable (ended s)
unfolding ended
usable-ended s h = record { steady = states-steady.ended s h.steady; nested = λ going. absurd (true≢false going); context = h.context }

pub usable_laws : SinkLaws Usable step ended is_quiet
usable_laws = record {
  keeps = usable-step;
  ends = usable-ended;
  pieces = λ s h. rules-are-lawful.sink.pieces s h.steady.sound;
  lines = λ s h. rules-are-lawful.sink.lines s h.steady.sound;
  idle = λ s h. rules-are-lawful.sink.idle s h.steady.sound;
  idle_refused = λ s h. rules-are-lawful.sink.idle_refused s h.steady.sound;
  replies = λ s h. rules-are-lawful.sink.replies s h.steady.sound;
  quiet = λ s h. rules-are-lawful.sink.quiet s h.steady.sound;
}

-- where documents and fragments begin

document-usable : (setting : Setting) (f : Forest) → IsTree f → above_of f 0 ≡ None → Usable (before_document setting f)
document-usable setting f tree top = record {
  steady = states-steady.document setting f tree top;
  nested = λ going. nested-states.document setting f;
  context = tt;
}

fragment-usable : (setting : Setting) (context : Open) (form : Option ℕ) (f : Forest) → IsTree f
    → above_of f 0 ≡ None → IsOwn context.namespace → IsNode f context.number
    → IfSome (form_of_context setting.opts.rules context form) (λ n. element_name (data_of f n) ≡ Some (element_name_of Html (codes "form")))
    → Usable (before_fragment setting context form f)
fragment-usable setting context form f tree top own at named = record {
  steady = states-steady.fragment setting context form f tree top own;
  nested = λ going. nested-states.fragment setting context form f tree named;
  context = context-stays (record (before_document setting f) {
    context_elem = Some context;
    form_elem = form_of_context setting.opts.rules context form;
    template_modes = modes_of_context context;
  }) (before_fragment setting context form f)
      (root-larger (record (before_document setting f) {
        context_elem = Some context;
        form_elem = form_of_context setting.opts.rules context form;
        template_modes = modes_of_context context;
      })) at;
}

pub states-usable : AreStatesUsable
states-usable = record {
  sink = usable_laws;
  document = λ setting f tree top. usable-hushed (before_document setting f) (document-usable setting f tree top);
  fragment = λ setting context form f tree top own at named. usable-hushed (before_fragment setting context form f)
      (fragment-usable setting context form f tree top own at named);
}
