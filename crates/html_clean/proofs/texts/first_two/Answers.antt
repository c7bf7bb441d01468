use Rattle.std.proofs.Common.{◌≡◌, ◌∙◌, ◌++◌, sym}
use Rattle.std.proofs.Math.Utf8.{encode}
use Rattle.html_clean.proofs.KeptTexts.{two-none, two-some}
use Rattle.html_clean.proofs.texts.first_two.Goals as goal

pub returns-in_default-next : goal.returns-in_default-next
returns-in_default-next c =
    let e : c.args.text.now ≡ encode c.in-Some.first ++ c.next.new.self.rest.now =
    sym c.chars-characters.ensures.rest ∙ c.in-Some.ensures.steps.0 in
    two-none c.args.text.now c.next.new.self.rest.now c.in-Some.first c.utf8.text e c.in_default-next.ensures.steps.0.0

pub returns : goal.returns
returns c =
    let e : c.args.text.now ≡ encode c.in-Some.first ++ c.next.new.self.rest.now =
    sym c.chars-characters.ensures.rest ∙ c.in-Some.ensures.steps.0 in
    two-some c.args.text.now c.next.new.self.rest.now c.next-2.new.self.rest.now c.in-Some.first
    c.in-Some-next.second c.utf8.text e c.in-Some-next.ensures.steps.0
