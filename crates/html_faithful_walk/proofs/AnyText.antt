-- Where every text is put in the current node, and changes nothing else.
use Rattle.std.proofs.Common.{◌≡◌, ◌∙◌, ℕ, Bool, true, false, List, [], ◌∷◌, Some, None, refl, sym, true≢false}
use Rattle.std.specs.Prelude.{◌&&◌, not}
use Rattle.std.proofs.lemmas.Bool.{and_parts}
use Rattle.html_tokens.specs.declared.token.Token.{Token}
use Rattle.html_tokens.specs.declared.token.Token.TheVariants.{CharacterTokens, CommentToken}
use Rattle.html_rules.specs.Choice.{choose}
use Rattle.html_rules.specs.Encodings.{is_space}
use Rattle.html_rules.specs.ForeignContent.{is_foreign, is_foreign_at, is_html_element}
use Rattle.html_rules.specs.Modes.Foreign.{in_foreign_content}
use Rattle.html_rules.specs.Rules.{rows}
use Rattle.html_rules.specs.State.{Open, adjusted_by, current_is}
use Rattle.html_rules.specs.Tokens.{is_white}
use Rattle.html_rules.specs.declared.insertion_mode.InsertionMode.{InsertionMode}
use Rattle.html_rules.specs.declared.insertion_mode.InsertionMode.TheVariants as mode
use Rattle.html_faithful.specs.Harmless.{CommentHere, TextHere, by_rows, made_of, nothing_yet}
use Rattle.html_faithful.specs.Spots.{Spot, hollow}
use Rattle.html_faithful.specs.Walk.{Parent, comment_put, is_current, text_walked}
use Rattle.html_faithful.proofs.Waiting.{at-html}
use Rattle.html_faithful_walk.specs.Steps.{is_character_walked, takes_any_text, takes_comment, takes_comments, takes_text, takes_white}
use Rattle.html_faithful_walk.specs.Steps.{takes_white_text}
use Rattle.html_faithful_walk.specs.Svg.{takes_svg}
use Rattle.html_faithful_walk.proofs.CommonTags.{is-not}
use Rattle.html_faithful_walk.proofs.SvgTags.{svg-text}

own-by : (p : Spot) (t : Token) (xs : List Open) → current_is is_html_element xs ≡ true
    → is_foreign_at (hollow p) (adjusted_by None xs) t ≡ false
own-by p t [] h = absurd (true≢false (sym h))
own-by p t (x ∷ xs) h = at-html (hollow p) x t h

-- a character in HTML is not in foreign content
own-text : (p : Spot) (c : ℕ) → current_is is_html_element p.path ≡ true → is_foreign (hollow p) (CharacterTokens (c ∷ [])) ≡ false
unfolding is_foreign
own-text p c h = own-by p (CharacterTokens (c ∷ [])) p.path h

-- nor is a comment
own-comment : (p : Spot) (text : List ℕ) → current_is is_html_element p.path ≡ true → is_foreign (hollow p) (CommentToken text) ≡ false
unfolding is_foreign
own-comment p text h = own-by p (CommentToken text) p.path h

character-by : (m : InsertionMode) (ok : Bool) (p : Spot) (c : ℕ) (b : Bool) → takes_text m ok ≡ true → b ≡ false
    → by_rows 4 (choose b (λ _. in_foreign_content) (λ _. rows m)) (CharacterTokens (c ∷ []))
    (nothing_yet (record p { mode = m; frameset_ok = ok }))
    ≡ Some (record (nothing_yet (record p { mode = m; frameset_ok = ok })) { put = Some TextHere })
unfolding by_rows rows
character-by mode.Text ok p c b h e = rw e refl
character-by mode.InBody false p c b h e = rw e refl
character-by mode.InBody true p c b h e = absurd (true≢false (sym h))
character-by mode.InCell false p c b h e = rw e refl
character-by mode.InCell true p c b h e = absurd (true≢false (sym h))
character-by mode.InCaption false p c b h e = rw e refl
character-by mode.InCaption true p c b h e = absurd (true≢false (sym h))
character-by m ok p c b h e = absurd (true≢false (sym h))

character-put : (p : Spot) (c : ℕ) → takes_text p.mode p.frameset_ok ≡ true → current_is is_html_element p.path ≡ true
    → made_of (CharacterTokens (c ∷ [])) p ≡ Some (record (nothing_yet p) { put = Some TextHere })
unfolding made_of
character-put p c h k = character-by p.mode p.frameset_ok p c (is_foreign (hollow p) (CharacterTokens (c ∷ []))) h (own-text p c k)

character-at : (p : Spot) (c : ℕ) (own : Bool) → current_is is_html_element p.path ≡ own
    → choose own (λ _. takes_text p.mode p.frameset_ok) (λ _. not p.frameset_ok && takes_svg p.path) ≡ true
    → made_of (CharacterTokens (c ∷ [])) p ≡ Some (record (nothing_yet p) { put = Some TextHere })
character-at p c true e h = character-put p c h e
character-at p c false e h =
    let parts = and_parts (not p.frameset_ok) (takes_svg p.path) h in
    svg-text p c parts.1 (is-not p.frameset_ok parts.0)

pub character-stays : (p : Spot) (c : ℕ) → takes_any_text p ≡ true → is_character_walked c p p true
character-stays p c h cs = rw (character-at p c (current_is is_html_element p.path) refl h) refl

pub text-stays : (p : Spot) (text : List ℕ) → takes_any_text p ≡ true → text_walked text p ≡ Some p
text-stays p [] h = refl
text-stays p (c ∷ cs) h = character-stays p c h cs ∙ text-stays p cs h

-- WHITE SPACE

white-by : (m : InsertionMode) (ok : Bool) (p : Spot) (c : ℕ) (b : Bool) → takes_white m ≡ true → is_space c ≡ true → b ≡ false
    → by_rows 4 (choose b (λ _. in_foreign_content) (λ _. rows m)) (CharacterTokens (c ∷ []))
    (nothing_yet (record p { mode = m; frameset_ok = ok }))
    ≡ Some (record (nothing_yet (record p { mode = m; frameset_ok = ok })) { put = Some TextHere })
unfolding by_rows rows
white-by mode.InHead ok p c b h w e = rw (e, w) refl
white-by mode.AfterHead ok p c b h w e = rw (e, w) refl
white-by mode.InColumnGroup ok p c b h w e = rw (e, w) refl
white-by mode.InBody true p c b h w e = rw (e, w) refl
white-by mode.InBody false p c b h w e = rw e refl
white-by mode.InCell true p c b h w e = rw (e, w) refl
white-by mode.InCell false p c b h w e = rw e refl
white-by mode.InCaption true p c b h w e = rw (e, w) refl
white-by mode.InCaption false p c b h w e = rw e refl
white-by m ok p c b h w e = absurd (true≢false (sym h))

white-put : (p : Spot) (c : ℕ) → takes_white p.mode ≡ true → current_is is_html_element p.path ≡ true → is_space c ≡ true
    → made_of (CharacterTokens (c ∷ [])) p ≡ Some (record (nothing_yet p) { put = Some TextHere })
unfolding made_of
white-put p c h k w = white-by p.mode p.frameset_ok p c (is_foreign (hollow p) (CharacterTokens (c ∷ []))) h w
    (own-text p c k)

white-walked : (p : Spot) (text : List ℕ) → takes_white p.mode ≡ true → current_is is_html_element p.path ≡ true → is_white text ≡ true
    → text_walked text p ≡ Some p
white-walked p [] h k w = refl
white-walked p (c ∷ cs) h k w =
    let parts = and_parts (is_space c) (is_white cs) w in
    rw (white-put p c h k parts.0) (white-walked p cs h k parts.1)

pub white-stays : (p : Spot) (text : List ℕ) → takes_white_text text p ≡ true → text_walked text p ≡ Some p
white-stays p text h =
    let parts = and_parts (current_is is_html_element p.path && takes_white p.mode) (is_white text) h in
    let place = and_parts (current_is is_html_element p.path) (takes_white p.mode) parts.0 in
    white-walked p text place.1 place.0 parts.1

-- COMMENTS

comment-by : (m : InsertionMode) (p : Spot) (text : List ℕ) (b : Bool) → takes_comments m ≡ true → b ≡ false
    → by_rows 4 (choose b (λ _. in_foreign_content) (λ _. rows m)) (CommentToken text) (nothing_yet (record p { mode = m }))
    ≡ Some (record (nothing_yet (record p { mode = m })) { put = Some CommentHere })
unfolding by_rows rows
comment-by mode.BeforeHead p text b h e = rw e refl
comment-by mode.InHead p text b h e = rw e refl
comment-by mode.AfterHead p text b h e = rw e refl
comment-by mode.InBody p text b h e = rw e refl
comment-by mode.InTable p text b h e = rw e refl
comment-by mode.InCaption p text b h e = rw e refl
comment-by mode.InColumnGroup p text b h e = rw e refl
comment-by mode.InTableBody p text b h e = rw e refl
comment-by mode.InRow p text b h e = rw e refl
comment-by mode.InCell p text b h e = rw e refl
comment-by m p text b h e = absurd (true≢false (sym h))

comment-here : (p : Spot) (text : List ℕ) → takes_comments p.mode ≡ true → current_is is_html_element p.path ≡ true
    → made_of (CommentToken text) p ≡ Some (record (nothing_yet p) { put = Some CommentHere })
unfolding made_of
comment-here p text h k = comment-by p.mode p text (is_foreign (hollow p) (CommentToken text)) h (own-comment p text k)

-- where its parent is the current node
pub comment-stays : (parent : Parent) (text : List ℕ) (p : Spot) → is_current parent p ≡ true → takes_comment p ≡ true
    → comment_put parent text p ≡ Some p
comment-stays parent text p current h =
    let parts = and_parts (current_is is_html_element p.path) (takes_comments p.mode) h in
    rw (comment-here p text parts.1 parts.0, current) refl
