-- Texts and comments, at a spot where they are faithful.
use Rattle.std.proofs.Common.{◌≡◌, ◌∙◌, ℕ, Bool, true, false, not, List, [], ◌∷◌, Option, Some, None, refl, sym, ap, ap₂, subst, true≢false}
use Rattle.std.proofs.lemmas.Bool.{and_parts}
use Rattle.std.specs.Prelude.{◌&&◌, IfSome}
use Rattle.markup.specs.Forest.{Forest, put_text}
use Rattle.html_tokens.specs.declared.token.Token.TheVariants.{CharacterTokens}
use Rattle.html_rules.specs.Actions.{set_ignore_lf}
use Rattle.html_rules.specs.Choice.{choose}
use Rattle.html_rules.specs.Places.{append_text, place_for}
use Rattle.html_rules.specs.Rules.{Settled, settle}
use Rattle.html_rules.specs.State.{Open, State, current_node}
use Rattle.html_rules.specs.Step.{after_line_feed, followed_by, taken, text_taken, untouched}
use Rattle.html_faithful.specs.Checks.{is_kept_so}
use Rattle.html_faithful.specs.Faces.{Face}
use Rattle.html_faithful.specs.Harmless.{Made, Put, and_then, made_of}
use Rattle.html_faithful.specs.Harmless as put
use Rattle.html_faithful.specs.Keeping.{IsAt}
use Rattle.html_faithful.specs.Spots.{Spot}
use Rattle.html_faithful.specs.Steps.{forest_by, stack_by}
use Rattle.html_faithful.specs.Texts.{IsTextTaken, characters_put, place_in}
use Rattle.html_faithful.specs.Walk.{begins_with_line_feed, is_plain, is_text_put, text_walked}
use Rattle.html_faithful.specs.Ways.{path_by}
use Rattle.html_faithful.proofs.Keeping.{Kept, spots-kept}
use Rattle.html_faithful.proofs.Tags.{choose-so, then-so}

pub weaker : {A : Type 0} (o : Option A) (P Q : A → Type 0) → IfSome o P → ((m : A) → P m → Q m) → IfSome o Q
weaker None P Q h g = tt
weaker (Some m) P Q h g = g m h

not-no : (b : Bool) → not b ≡ true → b ≡ false
not-no true h = absurd (true≢false (sym h))
not-no false h = refl

text-is : (o : Option Put) → is_text_put o ≡ true → o ≡ Some put.TextHere
text-is (Some put.TextHere) h = refl
text-is o h = absurd (true≢false (sym h))

pub place-here : (b : Bool) (f : Forest) (xs : List Open) → b ≡ false → place_for b f xs (current_node xs) ≡ place_in xs
place-here b f [] e = refl
place-here b f (x ∷ xs) e = rw e refl

pub foster-none : (s : State) (p : Spot) → IsAt s p → s.foster_parenting ≡ false
foster-none s p here = ap (λ (f : Face). f.foster) here.looks

-- ONE CHARACTER

module _ (c : ℕ) (s : State) (p : Spot) (here : IsAt s p) (plain_lf : s.ignore_lf ≡ false) where
  put-there : (append_text (c ∷ []) s).forest ≡ put_text s.forest (place_in s.open_elems) (c ∷ [])
  unfolding append_text
  put-there = ap (λ place. put_text s.forest place (c ∷ [])) (place-here s.foster_parenting s.forest s.open_elems (foster-none s p here))

  one : (made : Made) → Kept s p here (CharacterTokens (c ∷ [])) refl (settle (CharacterTokens (c ∷ [])) s) made
      → ((is_text_put made.put && is_plain made) && is_kept_so [] p made) ≡ true
      → IsTextTaken (c ∷ []) p s (settle (CharacterTokens (c ∷ [])) s) made.spot
  one made kept h =
      let t = CharacterTokens (c ∷ []) in
      let parts = and_parts (is_text_put made.put && is_plain made) (is_kept_so [] p made) h in
      let more = and_parts (is_text_put made.put) (is_plain made) parts.0 in
      let plain = and_parts (not made.closed) (not made.drops_line_feed) more.1 in
      let is : made.put ≡ Some put.TextHere = text-is made.put more.0 in
      let shut : made.closed ≡ false = not-no made.closed plain.0 in
      let all = kept parts.1 in
      record {
        is_done = all.0.1;
        now = all.1;
        keeps_line_feeds = all.0.0.6 plain_lf ∙ not-no made.drops_line_feed plain.1;
        tree = all.0.0.2 ∙ (ap (λ o. forest_by t o s) is ∙ put-there);
        stack = all.0.0.1 ∙ ap₂ (λ o c. stack_by o c s) is shut;
        path = all.2 ∙ ap₂ (λ o c. path_by made.spot.rules o c p.path) is shut;
      }

-- ALL OF THEM

more : (c : ℕ) (cs : List ℕ) (p q r : Spot) (before settled left : Settled) → IsTextTaken (c ∷ []) p before.state settled q
    → IsTextTaken cs q settled.state left r → IsTextTaken (c ∷ cs) p before.state left r
more c cs p q r before settled left one rest = record {
  is_done = rest.is_done;
  now = rest.now;
  keeps_line_feeds = rest.keeps_line_feeds;
  tree = rest.tree ∙ ap₂ (λ xs f. characters_put (place_in xs) cs f) one.stack one.tree;
  stack = rest.stack ∙ one.stack;
  path = rest.path ∙ one.path;
}

both-so : (a b : Bool) → a ≡ true → b ≡ true → (a && b) ≡ true
both-so true b h g = g
both-so false b h g = h

characters : (text : List ℕ) (before : Settled) (p : Spot) → IsAt before.state p → before.state.ignore_lf ≡ false → before.is_settled ≡ true
    → IfSome (text_walked text p) (λ after. IsTextTaken text p before.state (text_taken text before) after)
characters [] before p here plain done = record {
  is_done = done;
  now = here;
  keeps_line_feeds = plain;
  tree = refl;
  stack = refl;
  path = refl;
}
characters (c ∷ cs) before p here plain done =
    let t = CharacterTokens (c ∷ []) in
    let settled = settle t before.state in
    let P = λ (after : Spot). IsTextTaken (c ∷ cs) p before.state (text_taken cs (followed_by before settled)) after in
    let f = λ (made : Made). choose ((is_text_put made.put && is_plain made)
    && is_kept_so [] p made) (λ _. text_walked cs made.spot) (λ _. None) in
    then-so (made_of t p) f (Kept before.state p here t refl settled) P (spots-kept before.state p here t refl)
    (λ made kept. choose-so ((is_text_put made.put && is_plain made) && is_kept_so [] p made) (text_walked cs made.spot) P
    (λ h. let o = one c before.state p here plain made kept h in
    weaker (text_walked cs made.spot)
    (λ after. IsTextTaken cs made.spot settled.state (text_taken cs (followed_by before settled)) after) P
    (characters cs (followed_by before settled) made.spot o.now o.keeps_line_feeds
    (both-so before.is_settled settled.is_settled done o.is_done))
    (λ after rest. more c cs p made.spot after before settled (text_taken cs (followed_by before settled)) o rest)))

pub no-line_feed : (drops : Bool) (text : List ℕ) → (drops && begins_with_line_feed text) ≡ false → after_line_feed drops text ≡ text
no-line_feed false text h = refl
no-line_feed true [] h = refl
no-line_feed true (c ∷ cs) h = rw h refl

pub ready : (s : State) (p : Spot) → IsAt s p → IsAt (set_ignore_lf false s) p
unfolding set_ignore_lf
ready s p here = record {
  looks = here.looks;
  lists = here.lists;
  form = here.form;
  numbered = here.numbered;
  counted = here.counted;
  unasked = here.unasked;
  no_text = here.no_text;
}

pub texts-followed : (text : List ℕ) (drops : Bool) (p : Spot) (s : State) → IsAt s p → s.ignore_lf ≡ drops
    → (drops && begins_with_line_feed text) ≡ false
    → IfSome (text_walked text p) (λ after. IsTextTaken text p s (taken (CharacterTokens text) s) after)
unfolding taken set_ignore_lf
texts-followed text drops p s here e h =
    let ready_state = set_ignore_lf false s in
    let same_text : after_line_feed s.ignore_lf text ≡ text = ap (λ b. after_line_feed b text) e ∙ no-line_feed drops text h in
    subst (λ cs. IfSome (text_walked text p) (λ after. IsTextTaken text p s (text_taken cs (untouched ready_state)) after)) (sym same_text)
    (weaker (text_walked text p) (λ after. IsTextTaken text p ready_state (text_taken text (untouched ready_state)) after)
    (λ after. IsTextTaken text p s (text_taken text (untouched ready_state)) after)
    (characters text (untouched ready_state) p (ready s p here) refl refl)
    (λ after o. record {
      is_done = o.is_done;
      now = o.now;
      keeps_line_feeds = o.keeps_line_feeds;
      tree = o.tree;
      stack = o.stack;
      path = o.path;
    }))
