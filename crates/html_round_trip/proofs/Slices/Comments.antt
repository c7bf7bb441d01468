-- A comment is one item, which is clean.
use Rattle.std.proofs.Common.{◌≡◌, ◌∙◌, ℕ, suc, Bool, true, List, [], ◌∷◌, ◌++◌, length, drop, Option, refl, ap, append_assoc, append-nil}
use Rattle.std.proofs.Math.Seq.{drop-append_seam}
use Rattle.std.specs.Prelude.{codes}
use Rattle.std.specs.List.{list_all}
use Rattle.std.proofs.lemmas.Bool.{and_parts}
use Rattle.markup.specs.Escape.{written_comment}
use Rattle.html_tokens.specs.Characters
use Rattle.html_tokens.specs.Clean.{clean_comment, is_clean, is_clean_comment, is_clean_in_comment}
use Rattle.html_tokens.specs.Comments.{comment_after, comment_at}
use Rattle.html_tokens.specs.Item.{Stand, longer, longer_by, clean_item}
use Rattle.html_tokens.specs.Items.{item}
use Rattle.html_tokens.specs.Laws.{in_data}
use Rattle.html_tokens.specs.Table.{Row}
use Rattle.html_tokens.specs.declared.token.Token.TheVariants.{CommentToken}
use Rattle.html_tokens.proofs.CleanComments.{begun, end-mark, goes-on}
use Rattle.html_round_trip.specs.Slices.Forms.{is_read_comment}
use Rattle.html_round_trip.specs.Slices.Slices.{IsSpelled, Last}

-- the rest of a comment, after what was read of it
rest-told : (st : Stand) (front text u : List ℕ) → is_read_comment text ≡ true → comment_after st front
    (text ++ (codes "-->" ++ u)) ≡ clean_item (CommentToken (front ++ text)) (length (text ++ codes "-->")) st
rest-told st front [] u h = rw (end-mark u, append-nil front) refl
rest-told st front (c ∷ text) u h =
    let p = and_parts (is_clean_in_comment c) (list_all is_clean_in_comment text) h in
    goes-on st front c (text ++ (codes "-->" ++ u)) p.0
    ∙ (ap longer (rest-told st (front ++ c ∷ []) text u p.1)
    ∙ ap (λ w. clean_item (CommentToken w) (suc (length (text ++ codes "-->"))) st) (append_assoc front (c ∷ []) text))

-- after "<!--"
comment-told : (st : Stand) (text u : List ℕ) → is_read_comment text ≡ true
    → comment_at st (text ++ (codes "-->" ++ u)) ≡ clean_item (CommentToken text) (length (text ++ codes "-->")) st
comment-told st [] u h = rest-told st [] [] u refl
comment-told st (c ∷ text) u h = begun st c (text ++ (codes "-->" ++ u))
    (and_parts (is_clean_in_comment c) (list_all is_clean_in_comment text) h).0 ∙ rest-told st [] (c ∷ text) u h

comment-item : (rows : List Row) (cdata : Bool) (last : Option (List ℕ)) (text t : List ℕ) → is_read_comment text ≡ true
    → item rows cdata (in_data last) 60 ((codes "!--" ++ (text ++ codes "-->")) ++ t) ≡ clean_item
    (CommentToken text) (length (written_comment text)) (in_data last)
comment-item rows cdata last text t h = ap (λ u. longer_by 4 (comment_at (in_data last) u))
    (append_assoc text (codes "-->") t) ∙ ap (longer_by 4) (comment-told (in_data last) text t h)

-- a comment's text ends before its end
text-run : (text u : List ℕ) → is_read_comment text ≡ true → clean_comment (text ++ (codes "-->" ++ u)) ≡ length text
text-run [] u h = refl
text-run (c ∷ text) u h =
    let p = and_parts (is_clean_in_comment c) (list_all is_clean_in_comment text) h in
    rw p.0 (ap suc (text-run text u p.1))

text-clean : (text u : List ℕ) → is_read_comment text ≡ true → is_clean_comment (text ++ (codes "-->" ++ u)) ≡ true
text-clean text u h =
    ap (λ n. Characters.begins (codes "-->") (drop n (text ++ (codes "-->" ++ u)))) (text-run text u h)
    ∙ ap (Characters.begins (codes "-->")) (drop-append_seam text (codes "-->" ++ u))

comment-clean : (rows : List Row) (last : Option (List ℕ)) (text t : List ℕ) → is_read_comment text ≡ true
    → is_clean rows (in_data last) 60 ((codes "!--" ++ (text ++ codes "-->")) ++ t) ≡ true
comment-clean rows last text t h = ap is_clean_comment (append_assoc text (codes "-->") t) ∙ text-clean text t h

pub comment-spelled : (rows : List Row) (last : Option (List ℕ)) (text : List ℕ) → is_read_comment text ≡ true
    → IsSpelled rows (in_data last) (written_comment text) (CommentToken text) (in_data last)
comment-spelled rows last text h = λ asked t. Last 60 (codes "!--" ++ (text ++ codes "-->"))
    (comment-item rows asked last text t h) (comment-clean rows last text t h)
