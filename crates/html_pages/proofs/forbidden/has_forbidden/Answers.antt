use Rattle.std.proofs.Common.{◌∙◌, ℕ, Bool, ◌||◌, List, ap, subst, sym}
use Rattle.std.specs.List.{list_any}
use Rattle.std.specs.Str.{IsUtf8, chars}
use Rattle.html_tokens.specs.Forbidden.{is_forbidden}
use Rattle.html_pages.proofs.Leads.{any-after, none-in}
use Rattle.html_pages.proofs.forbidden.has_forbidden.Goals as goal

abbrev any-of : List ℕ → Bool
any-of bytes = list_any is_forbidden (chars bytes)

pub returns-then-is_forbidden : goal.returns-then-is_forbidden
returns-then-is_forbidden c =
    ap (λ b. b || any-of c.next.new.self.rest.now) c.if-is_forbidden.ensures
    ∙ (sym (any-after _ _ _ c.loop-c.invariant.0 c.in-Some.ensures.steps.0) ∙ c.loop-c.invariant.1)

pub loop-c-preserved : goal.loop-c-preserved
loop-c-preserved c =
    let is = c.chars-characters-in-Some.ensures.rest in (
      subst IsUtf8 (sym is) c.from_suspect-in-Some.utf8,
      ap any-of is ∙ c.from_suspect-in-Some.ensures.same ∙ ap any-of c.as_str.ensures
          ∙ ap (λ b. b || any-of c.next.new.self.rest.now) c.if-is_forbidden.ensures
          ∙ sym (any-after _ _ _ c.loop-c.invariant.0 c.in-Some.ensures.steps.0) ∙ c.loop-c.invariant.1,
    )

pub returns : goal.returns
returns c = sym (none-in _ c.in_default.ensures.steps.0.0) ∙ c.loop-c.invariant.1
