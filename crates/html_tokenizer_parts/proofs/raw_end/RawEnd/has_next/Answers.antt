use Rattle.std.proofs.Common.{◌≡◌, ◌∙◌, ◌∷◌, [], ◌++◌, true, ap, subst, sym}
use Rattle.html_tokens.specs.RawText.{is_fitting_end}
use Rattle.html_tokenizer_parts.specs.Words.{FittingEnd, begins_end}
use Rattle.html_tokenizer_parts.proofs.EndFronts.{name-begins}
use Rattle.html_tokenizer_parts.proofs.RawKinds.{fitting-apart, fitting-word}
use Rattle.html_tokenizer_parts.proofs.raw_end.RawEnd.has_next.Goals as goal

pub returns-then-not-is_ascii_alphabetic-clause-apart : goal.returns-then-not-is_ascii_alphabetic-clause-apart
returns-then-not-is_ascii_alphabetic-clause-apart c = λ f e t. fitting-word c.args.self.now.name c.args.letters.now
    c.args.c t c.as_str-letters.ensures.letters (sym c.if-not-is_ascii_alphabetic.ensures.value) ∙ e

pub returns-in-Some-clause-front : goal.returns-in-Some-clause-front
returns-in-Some-clause-front c = λ h f.
    subst (λ last. begins_end last (c.args.letters.now ++ c.args.c ∷ []) ≡ true)
    (sym c.in-Some.is ∙ ap (λ (e : FittingEnd). e.name) c.self.view_is)
    (name-begins c.as_str.result.now _ c.args.letters.now c.args.c c.as_str.utf8 c.as_str.ensures
    c.as_str-letters.ensures.letters (sym c.if-not-is_ascii_alphabetic.ensures.value)
    (sym c.is_next_in.ensures ∙ h)
    (ap (λ last. begins_end last c.args.letters.now) (sym c.in-Some.is ∙ ap (λ (e : FittingEnd). e.name) c.self.view_is) ∙ f))

pub returns-in-Some-clause-apart : goal.returns-in-Some-clause-apart
returns-in-Some-clause-apart c = λ f e t.
    ap (λ last. is_fitting_end last (47 ∷ (c.args.letters.now ++ c.args.c ∷ t)))
    (ap (λ (e : FittingEnd). e.name) (sym c.self.view_is) ∙ c.in-Some.is)
    ∙ fitting-apart c.as_str.result.now _ c.args.letters.now c.args.c t c.as_str.utf8 c.as_str.ensures
    c.as_str-letters.ensures.letters (sym c.if-not-is_ascii_alphabetic.ensures.value) (sym c.is_next_in.ensures ∙ f)
