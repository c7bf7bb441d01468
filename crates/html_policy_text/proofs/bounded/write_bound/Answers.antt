use Rattle.std.proofs.Common.{◌≡◌, ◌∙◌, ℕ, Bool, false, List, [], ◌∷◌, ◌++◌, ap, append_assoc, arith, sym}
use Rattle.std.specs.Prelude.{◌==◌, cond}
use Rattle.std.specs.Fmt.{decimal}
use Rattle.std.specs.Str.{chars}
use Rattle.html_policy_text.specs.Bounded.{no_bound}
use Rattle.html_policy_text.specs.Written.{line_of}
use Rattle.html_policy_text.proofs.Numbers.{digits-chars}
use Rattle.html_policy_text.proofs.Writes.{on-ok}
use Rattle.html_policy_text.proofs.bounded.write_bound.Goals as goal

-- a line of a keyword and a word
line-one : (text keyword word : List ℕ) → ((text ++ keyword) ++ 32 ∷ word) ++ 10 ∷ [] ≡ text ++ line_of keyword (word ∷ [])
line-one text keyword word = simp append_assoc

pub returns-clause-ok : goal.returns-clause-ok
returns-clause-ok c =
    let text = c.args.text.now in
    let keyword = chars c.args.keyword.now in
    let digits = decimal c.args.n in
    let other : (c.args.n == no_bound) ≡ false = grind (arith, c.if-n.false) in
    let is = digits-chars c.args.n c.as_str.result.now (omega (arith, c.ranges.n.fits))
    (c.as_str.ensures.value ∙ c.in_ok-digits.ensures.ok) in
    on-ok c.push.result _ _ c.push.ensures.ok (λ ok. ok
    ∙ (ap (λ (t : List ℕ). t ++ 10 ∷ []) (c.in_ok-push_spaced.ensures.ok
    ∙ (ap (λ (word : List ℕ). c.push_str.new.self ++ 32 ∷ word) is
    ∙ ap (λ (t : List ℕ). t ++ 32 ∷ digits) c.in_ok-push_str.ensures.ok))
    ∙ (line-one text keyword digits
    ∙ ap (λ (b : Bool). text ++ cond b [] (line_of keyword (digits ∷ []))) (sym other))))
