-- What becomes of the list around the newest entry of an element.
use Rattle.std.proofs.Common.{◌≡◌, ◌∙◌, ℕ, true, false, true≢false, List, [], ◌∷◌, ◌++◌, Option, Some, None, refl, sym, ap, suc}
use Rattle.std.proofs.Common.{drop, take, get_or, map, remove, reverse}
use Rattle.std.specs.Prelude.{◌||◌, nat_eq}
use Rattle.std.specs.List.{list_any}
use Rattle.html_tokens.specs.declared.tags.Tag.{Tag}
use Rattle.html_rules.specs.Adoption.{listed_as}
use Rattle.html_rules.specs.Formatting.{Listed, is_listed, put_after, stands_for, with_in_place, without_entry}
use Rattle.html_rules.specs.State.{Entry, Element, Marker}
use Rattle.std.specs.Str.{bytes_eq}
use Rattle.html_rules.specs.Formatting.{last_named}
use Rattle.html_stack.specs.Stacks.{entries_of, entry_of}
use Rattle.html_stack.specs.Found.{IsNewest, listed_of}
use Rattle.html_stack.specs.declared.entries.FormatEntry.{FormatEntry}
use Rattle.html_stack.specs.declared.entries.FormatEntry.TheVariants as held
use Rattle.html_stack.proofs.Newest.{or-left, or-right, removed-at, split-at}

pub listed-any : (n : ℕ) (entries : List Entry) → is_listed n entries ≡ list_any (stands_for n) entries
listed-any n [] = refl
listed-any n (entry ∷ entries) = ap (λ b. stands_for n entry || b) (listed-any n entries)

-- where an element is not listed
pub without-none : (n : ℕ) (entries : List Entry) → is_listed n entries ≡ false → without_entry n entries ≡ entries
without-none n [] h = refl
without-none n (entry ∷ entries) h = rw (or-left (stands_for n entry) (is_listed n entries) h)
    (ap (λ es. entry ∷ es) (without-none n entries (or-right (stands_for n entry) (is_listed n entries) h)))

pub in_place-none : (n : ℕ) (new : Entry) (entries : List Entry) → is_listed n entries ≡ false → with_in_place n new entries ≡ entries
in_place-none n new [] h = refl
in_place-none n new (entry ∷ entries) h = rw (or-left (stands_for n entry) (is_listed n entries) h)
    (ap (λ es. entry ∷ es) (in_place-none n new entries (or-right (stands_for n entry) (is_listed n entries) h)))

pub after-none : (n : ℕ) (new : Entry) (entries : List Entry) → is_listed n entries ≡ false → put_after n new entries ≡ entries
after-none n new [] h = refl
after-none n new (entry ∷ entries) h = rw (or-left (stands_for n entry) (is_listed n entries) h)
    (ap (λ es. entry ∷ es) (after-none n new entries (or-right (stands_for n entry) (is_listed n entries) h)))

pub listed_as-none : (n : ℕ) (entries : List Entry) → is_listed n entries ≡ false → listed_as n entries ≡ None
listed_as-none n [] h = refl
listed_as-none n (Marker ∷ entries) h = listed_as-none n entries h
listed_as-none n (Element m tag ∷ entries) h = rw (or-left (nat_eq m n) (is_listed n entries) h)
    (listed_as-none n entries (or-right (nat_eq m n) (is_listed n entries) h))

-- where it is
pub without-at : (n : ℕ) (newer : List Entry) (entry : Entry) (older : List Entry)
    → list_any (stands_for n) newer ≡ false → stands_for n entry ≡ true → without_entry n (newer ++ entry ∷ older) ≡ newer ++ older
without-at n [] entry older h here = rw here refl
without-at n (e ∷ newer) entry older h here = rw (or-left (stands_for n e) (list_any (stands_for n) newer) h)
    (ap (λ es. e ∷ es) (without-at n newer entry older (or-right (stands_for n e) (list_any (stands_for n) newer) h) here))

pub in_place-at : (n : ℕ) (new : Entry) (newer : List Entry) (entry : Entry) (older : List Entry)
    → list_any (stands_for n) newer ≡ false → stands_for n entry ≡ true → with_in_place n new
    (newer ++ entry ∷ older) ≡ newer ++ new ∷ older
in_place-at n new [] entry older h here = rw here refl
in_place-at n new (e ∷ newer) entry older h here = rw (or-left (stands_for n e) (list_any (stands_for n) newer) h)
    (ap (λ es. e ∷ es) (in_place-at n new newer entry older (or-right (stands_for n e) (list_any (stands_for n) newer) h) here))

pub after-at : (n : ℕ) (new : Entry) (newer : List Entry) (entry : Entry) (older : List Entry)
    → list_any (stands_for n) newer ≡ false → stands_for n entry ≡ true
    → put_after n new (newer ++ entry ∷ older) ≡ newer ++ new ∷ entry ∷ older
after-at n new [] entry older h here = rw here refl
after-at n new (e ∷ newer) entry older h here = rw (or-left (stands_for n e) (list_any (stands_for n) newer) h)
    (ap (λ es. e ∷ es) (after-at n new newer entry older (or-right (stands_for n e) (list_any (stands_for n) newer) h) here))

-- what an entry says, where it is an element's
abbrev pub said_by : Entry → Option Listed
said_by Marker = None
said_by (Element n tag) = Some (record { number = n; tag = tag })

pub listed_as-at : (n : ℕ) (newer : List Entry) (entry : Entry) (older : List Entry)
    → list_any (stands_for n) newer ≡ false → stands_for n entry ≡ true → listed_as n (newer ++ entry ∷ older) ≡ said_by entry
listed_as-at n [] Marker older h here = absurd cc
listed_as-at n [] (Element m tag) older h here = rw here refl
listed_as-at n (Marker ∷ newer) entry older h here = listed_as-at n newer entry older h here
listed_as-at n (Element m tag ∷ newer) entry older h here =
    rw (or-left (nat_eq m n) (list_any (stands_for n) newer) h)
    (listed_as-at n newer entry older (or-right (nat_eq m n) (list_any (stands_for n) newer) h) here)

-- the last entry with a name, one by one
pub named-marker : {H : Type 0} (node : H → ℕ) (name : List ℕ) (x : FormatEntry H) (rest : List Entry)
    → x ≡ held.Marker → last_named name (entry_of node x ∷ rest) ≡ None
named-marker node name x rest e = rw e refl

pub named-here : {H : Type 0} (node : H → ℕ) (name : List ℕ) (x : FormatEntry H) (handle : H) (tag : Tag)
    (rest : List Entry) → x ≡ held.Element handle tag → bytes_eq tag.name name ≡ true
    → last_named name (entry_of node x ∷ rest) ≡ listed_of node x
named-here node name x handle tag rest e same = rw (e, same) refl

pub named-other : {H : Type 0} (node : H → ℕ) (name : List ℕ) (x : FormatEntry H) (handle : H) (tag : Tag)
    (rest : List Entry) → x ≡ held.Element handle tag → bytes_eq tag.name name ≡ false
    → last_named name (entry_of node x ∷ rest) ≡ last_named name rest
named-other node name x handle tag rest e same = rw (e, same) refl

-- an entry leaves the vector
pub unlisted : {H : Type 0} (node : H → ℕ) (n : ℕ) (xs : List (FormatEntry H)) (i : ℕ) → IsNewest (entry_of node)
    (stands_for n) xs i → without_entry n (entries_of node xs) ≡ entries_of node (remove xs i)
unlisted node n xs i is =
    ap (without_entry n) (split-at (entry_of node) xs i held.Marker is.within)
    ∙ without-at n (reverse (map (entry_of node) (drop (suc i) xs))) (entry_of node (get_or xs i held.Marker))
    (reverse (map (entry_of node) (take i xs))) is.newer (is.here held.Marker)
    ∙ sym (removed-at (entry_of node) xs i)

-- a marker stands for no element
pub no-marker : {H : Type 0} {X : Type 0} (node : H → ℕ) (n : ℕ) (items : List (FormatEntry H)) (i : ℕ)
    → IsNewest (entry_of node) (stands_for n) items i → get_or items i held.Marker ≡ held.Marker → X
no-marker node n items i is e =
    let here : stands_for n (entry_of node (get_or items i held.Marker)) ≡ true = is.here held.Marker in
    let none : stands_for n (entry_of node (get_or items i held.Marker)) ≡ false = ap (λ x. stands_for n (entry_of node x)) e in
    absurd (true≢false (sym here ∙ none))

pub marker-apart : {H : Type 0} {X : Type 0} (entry : FormatEntry H) (handle : H) (tag : Tag)
    → entry ≡ held.Element handle tag → entry ≡ held.Marker → X
marker-apart entry handle tag e m = absurd cc
