-- Comments (HTML Standard, sections 13.2.5.41 and 13.2.5.43 to 13.2.5.52).
use Rattle.std.specs.Prelude.{ℕ, Bool, true, false, ◌&&◌, ◌||◌, not, nat_eq, List, [], ◌∷◌, ◌++◌, codes, Option, Some, None, if◌then◌else◌}
use Rattle.html_tokens.specs.declared.token.Token.TheVariants.{CommentToken}
use Rattle.html_tokens.specs.Characters.{shown, begins}
use Rattle.html_tokens.specs.Item.{Stand, Item, Grave, grave_if, marked, longer, token_item}

-- whether a comment ends here, and the characters of that end: "-->" or "--!>", and at the end of input also "--!", "--" or "-"
abbrev pub comment_end : List ℕ → Option ℕ
comment_end [] = Some 0
comment_end (a ∷ []) = if nat_eq a 45 then Some 1 else None
comment_end (a ∷ b ∷ []) = if nat_eq a 45 && nat_eq b 45 then Some 2 else None
comment_end (a ∷ b ∷ c ∷ []) =
    if nat_eq a 45 && nat_eq b 45 && nat_eq c 62 then Some 3
    else if nat_eq a 45 && nat_eq b 45 && nat_eq c 33 then Some 3 else None
comment_end (a ∷ b ∷ c ∷ d ∷ t) =
    if nat_eq a 45 && nat_eq b 45 && nat_eq c 62 then Some 3
    else if nat_eq a 45 && nat_eq b 45 && nat_eq c 33 && nat_eq d 62 then Some 4 else None

-- a character of a comment's text for which errors may be told: U+0000, and a hyphen, since "<!--" in a comment is an error
abbrev pub is_odd_in_comment : ℕ → Bool
is_odd_in_comment c = nat_eq c 45 || nat_eq c 0

abbrev pub comment_by : Option ℕ → Bool → Bool → Stand → List ℕ → (Unit {0} → Item) → Item
comment_by (Some n) faulty odd st front go = token_item (grave_if faulty) (CommentToken front) n st
comment_by None faulty odd st front go = marked odd (longer (go tt))

-- the rest of a comment, after what was read of it; any end but "-->" makes it faulty
abbrev pub comment_after : Stand → List ℕ → List ℕ → Item
comment_after st front [] = token_item (Some Grave) (CommentToken front) 0 st
comment_after st front (c ∷ t) = comment_by (comment_end (c ∷ t)) (not (begins (codes "-->") (c ∷ t)))
    (is_odd_in_comment c) st front (λ _. comment_after st (front ++ shown c ∷ []) t)

abbrev pub empty_by : Bool → Bool → Stand → List ℕ → Item
empty_by true dashed st t = token_item (Some Grave) (CommentToken []) 1 st
empty_by false true st t = token_item (Some Grave) (CommentToken []) 2 st
empty_by false false st t = comment_after st [] t

-- after "<!--": a rest that begins with ">" or "->" gives the empty comment, which is a fault
abbrev pub comment_at : Stand → List ℕ → Item
comment_at st t = empty_by (begins (codes ">") t) (begins (codes "->") t) st t

abbrev pub bogus_by : Bool → Stand → List ℕ → (Unit {0} → Item) → Item
bogus_by true st front go = token_item (Some Grave) (CommentToken front) 1 st
bogus_by false st front go = longer (go tt)

-- the rest of a bogus comment, which is a fault, up to ">" or the end of input
abbrev pub bogus_comment_after : Stand → List ℕ → List ℕ → Item
bogus_comment_after st front [] = token_item (Some Grave) (CommentToken front) 0 st
bogus_comment_after st front (c ∷ t) = bogus_by (nat_eq c 62) st front (λ _. bogus_comment_after st (front ++ shown c ∷ []) t)
