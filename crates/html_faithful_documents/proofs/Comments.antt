-- Comments are read as their tokens.
use Rattle.std.proofs.Common.{◌≡◌, ◌∙◌, ℕ, suc, ◌≤◌, Bool, true, false, nat_eq, not, List, [], ◌∷◌, ◌++◌, length, refl, sym}
use Rattle.std.proofs.Common.{ap, arith}
use Rattle.std.proofs.Common.{codes, subst, Option, Some, None, append_assoc, append-nil, length-append, true≢false}
use Rattle.std.specs.Prelude.{◌&&◌, ◌||◌, is_none}
use Rattle.std.proofs.lemmas.Bool.{and_parts}
use Rattle.std.proofs.lemmas.Bool.Decides.{nat_tests}
use Rattle.markup.specs.Escape.{written_comment}
use Rattle.html_tokens.specs.Characters.{begins, begins_by, shown}
use Rattle.html_tokens.specs.Comments.{comment_after, comment_at, comment_by, comment_end, is_odd_in_comment}
use Rattle.html_tokens.specs.Item.{Stand}
use Rattle.html_tokens.specs.Laws.{in_data}
use Rattle.html_tokens.specs.Table.{Row}
use Rattle.html_tokens.specs.declared.token.Token.TheVariants.{CommentToken}
use Rattle.html_tokens.proofs.CleanComments.{end-mark}
use Rattle.html_faithful.specs.Forms.{has_no_end, is_comment_text, is_kept}
use Rattle.html_faithful_documents.specs.Slices.{IsItem, IsTold, Last}
use Rattle.html_faithful_documents.proofs.Names.{longer_by-item}

-- WHAT STANDS LATER IS OF NO ACCOUNT

pub begins-more : (w a u : List ℕ) → length w ≤ length a → begins w (a ++ u) ≡ begins w a
begins-more [] a u h = refl
begins-more (x ∷ w) [] u h = absurd (omega arith)
begins-more (x ∷ w) (c ∷ a) u h =
    ap (λ (b : Bool). begins_by (nat_eq x c) (λ _. b)) (begins-more w a u (omega arith))

end-more : (c : ℕ) (cs u : List ℕ) → comment_end (((c ∷ cs) ++ codes "-->") ++ u) ≡ comment_end ((c ∷ cs) ++ codes "-->")
end-more c [] u = refl
end-more c (d ∷ []) u = refl
end-more c (d ∷ e ∷ []) u = refl
end-more c (d ∷ e ∷ f ∷ cs) u = refl

no-end : (o : Option ℕ) → is_none o ≡ true → o ≡ None
no-end None h = refl
no-end (Some n) h = absurd (true≢false (sym h))

not-null : (c : ℕ) → (not (nat_eq c 0) && not (nat_eq c 13)) ≡ true → shown c ≡ c
not-null c h = grind (arith, nat_tests)

-- the rest of a comment, after what was read of it
rest-item : (st : Stand) (front text u : List ℕ) → is_kept text ≡ true → has_no_end text ≡ true
    → IsItem (comment_after st front ((text ++ codes "-->") ++ u)) (Some (CommentToken (front ++ text))) (length (text ++ codes "-->")) st
rest-item st front [] u h k = rw (end-mark u, append-nil) (record { gives = refl; takes = refl; leaves = refl })
rest-item st front (c ∷ text) u h k =
    let p = and_parts (not (nat_eq c 0) && not (nat_eq c 13)) (is_kept text) h in
    let q = and_parts (is_none (comment_end ((c ∷ text) ++ codes "-->"))) (has_no_end text) k in
    let none : comment_end (((c ∷ text) ++ codes "-->") ++ u) ≡ None =
    end-more c text u ∙ no-end (comment_end ((c ∷ text) ++ codes "-->")) q.0 in
    let later = (text ++ codes "-->") ++ u in
    let token = Some (CommentToken (front ++ c ∷ text)) in
    let len = length (text ++ codes "-->") in
    let rest : IsItem (comment_after st (front ++ c ∷ []) later) token len st =
    subst (λ w. IsItem (comment_after st (front ++ c ∷ []) later) (Some (CommentToken w)) len st) (append_assoc front (c ∷ []) text)
    (rest-item st (front ++ c ∷ []) text u p.1 q.1) in
    let shown_rest : IsItem (comment_after st (front ++ shown c ∷ []) later) token len st =
    subst (λ d. IsItem (comment_after st (front ++ d ∷ []) later) token len st) (sym (not-null c p.0)) rest in
    subst (λ o. IsItem (comment_by o (not (begins (codes "-->") (c ∷ later))) (is_odd_in_comment c) st front
    (λ _. comment_after st (front ++ shown c ∷ []) later)) token (suc len) st) (sym none)
    (record { gives = shown_rest.gives; takes = ap suc shown_rest.takes; leaves = shown_rest.leaves })

or-no : (a b : Bool) → not (a || b) ≡ true → (a ≡ false) × (b ≡ false)
or-no true b h = absurd (true≢false (sym h))
or-no false true h = absurd (true≢false (sym h))
or-no false false h = (refl, refl)

longer-text : (text : List ℕ) → 2 ≤ length (text ++ codes "-->")
longer-text text = omega (arith, length-append text (codes "-->"))

-- after "<!--"
comment-item : (st : Stand) (text u : List ℕ) → is_comment_text text ≡ true
    → IsItem (comment_at st ((text ++ codes "-->") ++ u)) (Some (CommentToken text)) (length (text ++ codes "-->")) st
comment-item st text u h =
    let p = and_parts (is_kept text && has_no_end text)
    (not (begins (codes ">") (text ++ codes "-->") || begins (codes "->") (text ++ codes "-->"))) h in
    let q = and_parts (is_kept text) (has_no_end text) p.0 in
    let none = or-no (begins (codes ">") (text ++ codes "-->")) (begins (codes "->") (text ++ codes "-->")) p.1 in
    let whole = text ++ codes "-->" in
    let two : 2 ≤ length whole = longer-text text in
    let close : begins (codes ">") (whole ++ u) ≡ false = begins-more (codes ">") whole u (omega arith) ∙ none.0 in
    let dash : begins (codes "->") (whole ++ u) ≡ false = begins-more (codes "->") whole u two ∙ none.1 in
    rw (close, dash) (rest-item st [] text u q.0 q.1)

pub comment-told : (rows : List Row) (last : Option (List ℕ)) (text : List ℕ) → is_comment_text text ≡ true
    → IsTold rows (in_data last) (written_comment text) (CommentToken text) (in_data last)
comment-told rows last text h = λ asked t. Last 60 (codes "!--" ++ (text ++ codes "-->"))
    (longer_by-item 4 (comment_at (in_data last) ((text ++ codes "-->") ++ t)) (Some (CommentToken text)) (length (text ++ codes "-->"))
    (length (written_comment text)) (in_data last) (comment-item (in_data last) text t h) (omega arith))
