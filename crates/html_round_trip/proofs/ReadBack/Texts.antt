-- Escaped text is read character by character.
use Rattle.std.proofs.Common.{◌≡◌, ℕ, Bool, true, false, List, [], ◌∷◌, Option, arith, nat_eq, refl}
use Rattle.std.proofs.lemmas.Bool.Decides.{nat_tests}
use Rattle.std.specs.List.{list_all}
use Rattle.std.proofs.lemmas.Bool.{and_parts}
use Rattle.markup.specs.Escape.{escape, escaped}
use Rattle.markup.specs.Forest.{Forest, put_text}
use Rattle.markup.specs.Forest.Place.{Last}
use Rattle.markup.proofs.TextPieces.{put_text-append}
use Rattle.html_plain.specs.Grammar.{is_white}
use Rattle.html_rules.specs.State.{State}
use Rattle.html_round_trip.specs.Slices.Forms.{TextPlace, in_text}
use Rattle.html_round_trip.proofs.Slices.SpelledForms.{character-spelled}
use Rattle.html_tokens.specs.Laws.{ReadsEscapes, has_no_null, is_not_null}
use Rattle.html_tokens.specs.Table.{Row}
use Rattle.html_tokens.specs.declared.replies.TokenSinkResult.TheVariants.{Continue}
use Rattle.html_tokens.specs.declared.token.Token.TheVariants.{CharacterTokens}
use Rattle.html_round_trip.specs.ReadBack.Places.{IsGood}
use Rattle.html_round_trip.specs.ReadBack.Runs.{NoText, Reads, TakesQuietly}
use Rattle.html_round_trip.proofs.ReadBack.Goods.{good-text}
use Rattle.html_round_trip.proofs.ReadBack.Runs.{reads-both, reads-one}

-- what characters make of a flag, one after the other
abbrev pub flag_after : (ℕ → Bool → Bool) → List ℕ → Bool → Bool
flag_after next [] ok = ok
flag_after next (c ∷ cs) ok = flag_after next cs (next c ok)

-- white space is no U+0000
pub white-not_null : (cs : List ℕ) → list_all is_white cs ≡ true → has_no_null cs ≡ true
white-not_null [] h = refl
white-not_null (c ∷ cs) h =
    let p = and_parts (is_white c) (list_all is_white cs) h in
    let white : is_white c ≡ true = p.0 in
    let one : nat_eq c 0 ≡ false = grind (arith, nat_tests) in
    rw one (white-not_null cs p.1)

-- every text passes the test that nothing fails
pub every : (t : List ℕ) → list_all (λ c. true) t ≡ true
every [] = refl
every (c ∷ t) = every t

module _ (rows : List Row) (reads : ReadsEscapes rows) where
  -- text that goes into a node, character by character
  pub text-reads : (place : TextPlace) (last : Option (List ℕ)) (n : ℕ) (state : Forest → Bool → State)
      (next : ℕ → Bool → Bool) (test : ℕ → Bool)
      → ((f : Forest) (ok : Bool) (c : ℕ) → IsGood f n → test c ≡ true → TakesQuietly rows (state f ok)
      (CharacterTokens (c ∷ [])) (state (put_text f (Last n) (c ∷ [])) (next c ok)) Continue)
      → (cs : List ℕ) → has_no_null cs ≡ true → list_all test cs ≡ true → (f : Forest) (ok : Bool) → IsGood f n
      → Reads rows (in_text place last) (state f ok) (escape cs) (in_text place last)
      (state (put_text f (Last n) cs) (flag_after next cs ok))
  text-reads place last n state next test takes [] shown tested f ok good = NoText
  text-reads place last n state next test takes (c ∷ cs) shown tested f ok good =
      let p = and_parts (is_not_null c) (has_no_null cs) shown in
      let q = and_parts (test c) (list_all test cs) tested in
      let st = in_text place last in
      let g = put_text f (Last n) (c ∷ []) in
      let joined : put_text g (Last n) cs ≡ put_text f (Last n) (c ∷ cs) = put_text-append f (Last n)
      (c ∷ []) cs good.tree.forest good.parent in
      let more = text-reads place last n state next test takes cs p.1 q.1 g (next c ok) (good-text f n (c ∷ []) good) in
      reads-both rows st st st (state f ok) (state g (next c ok))
      (state (put_text f (Last n) (c ∷ cs)) (flag_after next (c ∷ cs) ok)) (escaped c) (escape cs)
      (reads-one rows st st (state f ok) (state g (next c ok)) (escaped c) (CharacterTokens (c ∷ [])) Continue
      (character-spelled rows reads place last c p.0) (takes f ok c good q.0))
      (rw joined at more)
