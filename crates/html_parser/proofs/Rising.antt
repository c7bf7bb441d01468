-- How the number of errors of a sink rises by what is owed for what was noted.
use Rattle.std.proofs.Common.{◌≡◌, ◌∙◌, ℕ, ◌+◌, ◌≤◌, Bool, true, false, List, [], ◌++◌, Result, Ok, arith, append-nil, refl, ap, sym, subst}
use Rattle.std.specs.Prelude.{◌&&◌, min}
use Rattle.std.proofs.lemmas.Bool.{and_parts}
use Rattle.std.proofs.lemmas.Bool.Decides.{nat_tests}
use Rattle.html_tokens.specs.NormalText.{newlines_after, without_mark}
use Rattle.html_tokens.specs.Notes.{Notes, errors_of, no_notes, was_quiet}
use Rattle.html_tokens.specs.Sink.{Refusal, Reply, one_more}
use Rattle.html_tokenizer.specs.Calls.{owed_for_text}
use Rattle.html_tokenizer.specs.Rest.{coming}
use Rattle.html_tokenizer.specs.Steps.{Owed, Rises, more, together}
use Rattle.html_tokenizer.specs.declared.tokenizer.Tokenizer.{Tokenizer}
use Rattle.html_tokenizer.proofs.Errors.Rises.{IsNoMore, more-sum, none-no-more, rises-besides, rises-less, rises-same}
use Rattle.html_parser.specs.Read.{RisesTo, owed_in}

no-text : (cr mark : Bool) → newlines_after cr (without_mark mark []) ≡ []
no-text cr true = refl
no-text cr false = refl

-- of nothing that is taken nothing comes
pub nothing-comes : {K : Type 0} (k : Tokenizer K) → coming k [] ≡ []
nothing-comes k = no-text k.stream.ignore_lf k.stream.discard_bom

-- what rose by the count of sinks rose by their numbers
pub by-number : {K : Type 0} {owed : Owed} (errors : K → ℕ) (a b : K) → Rises errors owed a b → RisesTo owed (errors a) (errors b)
by-number errors a b r = record { enough = r.enough; stays = r.stays }

-- before all text
pub rises-new : (exact : Bool) (m n : ℕ) → n ≡ m → RisesTo (together (owed_in no_notes) (owed_for_text exact [])) m n
rises-new exact m n e = rises-less (λ (errors : ℕ). errors) m n (none-no-more exact) (rises-same (λ (errors : ℕ). errors) m n e)

-- what is owed after what was noted is noted with it
owed-more : (owed : Owed) (notes : Notes ℕ) (pauses : List Reply)
    → owed_in (record (more owed notes) { pauses = pauses }) ≡ together owed (owed_in notes)
owed-more owed notes pauses = ap (λ n. record { faults = n; is_quiet = owed.is_quiet && notes.is_quiet })
    (more-sum owed.faults notes.errors)

-- by what was noted, and then by a call
pub rises-moved : (exact : Bool) (owed : Owed) (notes : Notes ℕ) (pauses : List Reply) (came more_came : List ℕ)
    (l m n : ℕ) → RisesTo (together (owed_in notes) (owed_for_text exact came)) l m
    → RisesTo (together owed (owed_for_text exact more_came)) m n
    → RisesTo (together (owed_in (record (more owed notes) { pauses = pauses })) (owed_for_text exact (came ++ more_came))) l n
rises-moved exact owed notes pauses came more_came l m n h k =
    subst (λ o. RisesTo (together o (owed_for_text exact (came ++ more_came))) l n) (sym (owed-more owed notes pauses))
    (rises-besides (λ (errors : ℕ). errors) exact (owed_in notes) owed came more_came l m n h k)

-- no text owes nothing more on its own
none-besides : (exact : Bool) (owed : Owed) → IsNoMore (together owed (owed_for_text exact [])) owed
none-besides true owed = record { faults = omega arith; quiet = λ e. (and_parts owed.is_quiet true e).0 }
none-besides false owed = record { faults = omega arith; quiet = λ e. (and_parts owed.is_quiet true e).0 }

-- by what was noted, and then by the end
pub rises-ended : {S : Type 0} (exact : Bool) (owed : Owed) (notes : Notes ℕ)
    (whole : Result (S × Notes ℕ) (Refusal × ℕ)) (s : S) (text came : List ℕ) (l m n : ℕ) → whole ≡ Ok (s, more owed notes) → text ≡ came
    → RisesTo (together (owed_in notes) (owed_for_text exact came)) l m → RisesTo owed m n
    → RisesTo (together (record { faults = errors_of whole; is_quiet = was_quiet whole }) (owed_for_text exact text)) l n
rises-ended {S} exact owed notes whole s text came l m n is text_is h k =
    let both = rises-moved exact owed notes notes.pauses came [] l m n h
    (rises-less (λ (errors : ℕ). errors) m n (none-besides exact owed) k) in
    let all : RisesTo (together (owed_in (more owed notes)) (owed_for_text exact text)) l n =
    subst (λ t. RisesTo (together (owed_in (more owed notes)) (owed_for_text exact t)) l n) (append-nil came ∙ sym text_is) both in
    subst (λ (r : Result (S × Notes ℕ) (Refusal × ℕ)). RisesTo
    (together (record { faults = errors_of r; is_quiet = was_quiet r }) (owed_for_text exact text)) l n) (sym is) all

one-more : (l m n : ℕ) → min (l + n) 0xffff_ffff_ffff_ffff ≤ m → min (one_more l + n) 0xffff_ffff_ffff_ffff ≤ one_more m
one-more l m n h = grind (arith, nat_tests)

-- after one error more
pub rises-behind : {owed : Owed} (l m n : ℕ) → n ≡ one_more m → RisesTo owed l m → RisesTo owed (one_more l) n
rises-behind {owed} l m n e r = subst (λ k. RisesTo owed (one_more l) k) (sym e)
    (record { enough = one-more l m owed.faults r.enough; stays = λ quiet. ap one_more (r.stays quiet) })
