-- What is made of tokens, if they do what is asked of them.
use Rattle.std.proofs.Common.{◌≡◌, ◌∙◌, ◌++◌, ℕ, Bool, true, false, List, [], ◌∷◌, refl, ap, sym, append_assoc, append-nil}
use Rattle.std.specs.Prelude.{◌&&◌, not, Option, Some, None}
use Rattle.markup.specs.declared.attributes.Attribute.{Attribute}
use Rattle.markup.specs.declared.names.QualName.{QualName}
use Rattle.html_tokens.specs.Tags.{named}
use Rattle.html_tokens.specs.declared.tags.Tag.{Tag}
use Rattle.html_tokens.specs.declared.tags.TagKind.TheVariants.{EndTag}
use Rattle.html_tokens.specs.declared.token.Token.TheVariants.{CharacterTokens, CommentToken, TagToken}
use Rattle.html_rules.specs.Choice.{choose}
use Rattle.html_faithful.specs.Checks.{is_kept_so}
use Rattle.html_faithful.specs.Forms.{lowered}
use Rattle.html_faithful.specs.Harmless.{Made, and_then, made_of, provided}
use Rattle.html_faithful.specs.Spots.{Spot}
use Rattle.html_faithful.specs.Walk.{Parent, comment_put, finished, is_plain, is_written_tag, started, text_walked}
use Rattle.html_faithful_walk.specs.Steps.{ends_as, is_character_walked, is_comment_made, is_started, is_text_made, spot_if, start_of}
use Rattle.html_faithful_walk.specs.Steps.{started_by}
use Rattle.html_faithful_walk.specs.Steps.{written_of}

pub refused : (b : Bool) (m : Made) → b ≡ false → provided b m ≡ None
refused false m h = refl
refused true m h = absurd cc

pub passed : (b : Bool) (m : Made) → b ≡ true → provided b m ≡ Some m
passed true m h = refl
passed false m h = absurd cc

-- an answer after a test that failed, and after one that passed
pub not-both : (a b : Bool) → not a ≡ true → false ≡ (a && b)
not-both false b h = refl
not-both true b h = absurd cc

pub and-both : (a b r : Bool) → not a ≡ false → r ≡ b → r ≡ (a && b)
and-both true b r h e = e
and-both false b r h e = absurd cc

last-of : (a b : Bool) → not (a && b) ≡ false → b ≡ true
last-of true true h = refl
last-of true false h = absurd cc
last-of false b h = absurd cc

first-of : (a b : Bool) → (a && b) ≡ true → a ≡ true
first-of true b h = refl
first-of false b h = absurd cc

is-not : (b : Bool) → not b ≡ true → b ≡ false
is-not false h = refl
is-not true h = absurd cc

-- nothing was closed
pub plain-open : (a : Bool) (made : Made) (p : Bool) → p ≡ is_plain made → not (a && p) ≡ false → made.closed ≡ false
plain-open a made p e h = is-not made.closed (first-of (not made.closed) (not made.drops_line_feed) (sym e ∙ last-of a p h))

pub closed-not : (a : Bool) (closed : Bool) → not (a && not closed) ≡ false → closed ≡ false
closed-not a closed h = is-not closed (last-of a (not closed) h)

spot-choose : (b : Bool) (made : Made) → choose b (λ _. Some made.spot) (λ _. None) ≡ spot_if b made.spot
spot-choose true made = refl
spot-choose false made = refl

provided-choose : (b : Bool) (made : Made) → choose b (λ _. Some made) (λ _. None) ≡ provided b made
provided-choose true made = refl
provided-choose false made = refl

-- COMMENTS AND CHARACTERS

pub comment-refused : (parent : Parent) (text : List ℕ) (p q : Spot) (b : Bool) (m : Made) → made_of (CommentToken text) p ≡ provided b m
    → b ≡ false → comment_put parent text p ≡ spot_if false q
comment-refused parent text p q b m e h =
    ap (λ o. and_then o (λ made. choose (is_comment_made parent p made) (λ _. Some made.spot) (λ _. None))) (e ∙ refused b m h)

pub comment-made : (parent : Parent) (text : List ℕ) (p : Spot) (b r : Bool) (m : Made) → made_of (CommentToken text) p ≡ provided b m
    → b ≡ true → r ≡ is_comment_made parent p m → comment_put parent text p ≡ spot_if r m.spot
comment-made parent text p b r m e h is =
    ap (λ o. and_then o (λ made. choose (is_comment_made parent p made) (λ _. Some made.spot) (λ _. None))) (e ∙ passed b m h)
    ∙ (spot-choose (is_comment_made parent p m) m ∙ ap (λ r. spot_if r m.spot) (sym is))

pub character-refused : (c : ℕ) (p q : Spot) (b : Bool) (m : Made) → made_of (CharacterTokens (c ∷ [])) p ≡ provided b m → b ≡ false
    → is_character_walked c p q false
character-refused c p q b m e h cs =
    ap (λ o. and_then o (λ made. choose (is_text_made p made) (λ _. text_walked cs made.spot) (λ _. None))) (e ∙ refused b m h)

pub character-made : (c : ℕ) (p : Spot) (b r : Bool) (m : Made) → made_of (CharacterTokens (c ∷ [])) p ≡ provided b m → b ≡ true
    → r ≡ is_text_made p m → is_character_walked c p m.spot r
character-made c p b r m e h is cs =
    ap (λ o. and_then o (λ made. choose (is_text_made p made) (λ _. text_walked cs made.spot) (λ _. None))) (e ∙ passed b m h)
    ∙ ap (λ r. choose r (λ _. text_walked cs m.spot) (λ _. None)) (sym is)

-- TAGS

pub start-refused : (name : QualName) (attributes : List Attribute) (tag : Tag) (p : Spot) (b : Bool) (m n : Made)
    → made_of (TagToken tag) p ≡ provided b m → b ≡ false → started_by name attributes tag p ≡ provided false n
start-refused name attributes tag p b m n e h =
    ap (λ o. and_then o (λ made. choose (is_started name attributes tag p made) (λ _. Some made) (λ _. None))) (e ∙ refused b m h)

pub start-made : (name : QualName) (attributes : List Attribute) (tag : Tag) (p : Spot) (b r : Bool) (m : Made)
    → made_of (TagToken tag) p ≡ provided b m → b ≡ true → r ≡ is_started name attributes tag p m
    → started_by name attributes tag p ≡ provided r m
start-made name attributes tag p b r m e h is =
    ap (λ o. and_then o (λ made. choose (is_started name attributes tag p made) (λ _. Some made) (λ _. None))) (e ∙ passed b m h)
    ∙ (provided-choose (is_started name attributes tag p m) m ∙ ap (λ r. provided r m) (sym is))

written-by : (b : Bool) (name : QualName) (attributes : List Attribute) (o : Option Tag) (f : Tag → Option Made)
    → o ≡ choose b (λ _. Some (start_of name attributes)) (λ _. None)
    → choose b (λ _. f (start_of name attributes)) (λ _. None) ≡ and_then o f
written-by true name attributes o f e = ap (λ o. and_then o f) (sym e)
written-by false name attributes o f e = ap (λ o. and_then o f) (sym e)

-- by the tag that is written
pub started-as : (name : QualName) (attributes : List Attribute) (template : Bool) (p : Spot) (o : Option Tag)
    → o ≡ written_of name attributes template
    → started name attributes template p ≡ and_then o (λ tag. started_by name attributes tag p)
started-as name attributes template p o e =
    written-by (is_written_tag name attributes template) name attributes o (λ tag. started_by name attributes tag p) e

pub end-refused : (name : QualName) (tag : Tag) (p q : Spot) (b : Bool) (m : Made) → tag ≡ named EndTag (lowered name.local)
    → made_of (TagToken tag) p ≡ provided b m → b ≡ false → finished name p ≡ spot_if false q
end-refused name tag p q b m is e h =
    ap (λ o. and_then o (λ made. choose (ends_as name made && is_kept_so (lowered name.local) p made) (λ _. Some made.spot) (λ _. None)))
    (ap (λ tag. made_of (TagToken tag) p) (sym is) ∙ (e ∙ refused b m h))

pub end-made : (name : QualName) (tag : Tag) (p : Spot) (b r : Bool) (m : Made) → tag ≡ named EndTag (lowered name.local)
    → made_of (TagToken tag) p ≡ provided b m → b ≡ true → r ≡ (ends_as name m && is_kept_so tag.name p m)
    → finished name p ≡ spot_if r m.spot
end-made name tag p b r m is e h so =
    ap (λ o. and_then o (λ made. choose (ends_as name made && is_kept_so (lowered name.local) p made) (λ _. Some made.spot) (λ _. None)))
    (ap (λ tag. made_of (TagToken tag) p) (sym is) ∙ (e ∙ passed b m h))
    ∙ (spot-choose (ends_as name m && is_kept_so (lowered name.local) p m) m
    ∙ ap (λ r. spot_if r m.spot) (ap (λ (tag : Tag). ends_as name m && is_kept_so tag.name p m) (sym is) ∙ sym so))

-- TEXTS

text-end : (goes_on : Bool) (p : Spot) → choose goes_on (λ _. text_walked [] p) (λ _. None) ≡ spot_if goes_on p
text-end true p = refl
text-end false p = refl

-- a text that was walked to its end
pub text-whole : (text yielded : List ℕ) (p q : Spot) (goes_on : Bool) → yielded ≡ text
    → ((cs : List ℕ) → text_walked (yielded ++ cs) p ≡ choose goes_on (λ _. text_walked cs q) (λ _. None))
    → text_walked text p ≡ spot_if goes_on q
text-whole text yielded p q goes_on e h =
    ap (λ cs. text_walked cs p) (sym (append-nil yielded ∙ e)) ∙ (h [] ∙ text-end goes_on q)

-- one character more
pub text-more : (yielded : List ℕ) (c : ℕ) (p q r : Spot) (goes_on : Bool)
    → ((cs : List ℕ) → text_walked (yielded ++ cs) p ≡ choose true (λ _. text_walked cs q) (λ _. None))
    → is_character_walked c q r goes_on → (cs : List ℕ)
    → text_walked ((yielded ++ c ∷ []) ++ cs) p ≡ choose goes_on (λ _. text_walked cs r) (λ _. None)
text-more yielded c p q r goes_on h step cs =
    ap (λ cs. text_walked cs p) (append_assoc yielded (c ∷ []) cs) ∙ (h (c ∷ cs) ∙ step cs)

-- none is walked once one was not
pub text-stopped : (yielded : List ℕ) (c : ℕ) (p q r : Spot)
    → ((cs : List ℕ) → text_walked (yielded ++ cs) p ≡ choose false (λ _. text_walked cs q) (λ _. None)) → (cs : List ℕ)
    → text_walked ((yielded ++ c ∷ []) ++ cs) p ≡ choose false (λ _. text_walked cs r) (λ _. None)
text-stopped yielded c p q r h cs = ap (λ cs. text_walked cs p) (append_assoc yielded (c ∷ []) cs) ∙ h (c ∷ cs)
