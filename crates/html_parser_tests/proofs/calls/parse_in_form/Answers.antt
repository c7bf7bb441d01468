use Rattle.std.proofs.Common.{refl, subst, sym}
use Rattle.std.specs.Prelude.{IsSome}
use Rattle.html_parser_tests.proofs.calls.parse_in_form.Goals as goal

pub parse_fragment_for_element-requires-clause-top : goal.parse_fragment_for_element-requires-clause-top
parse_fragment_for_element-requires-clause-top g c = c.in_ok-form.ensures.top

pub parse_fragment_for_element-requires-clause-context : goal.parse_fragment_for_element-requires-clause-context
parse_fragment_for_element-requires-clause-context g c = subst (λ o. IsSome o) (sym c.in_ok-form.ensures.named) refl
