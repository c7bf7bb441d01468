-- The pieces of what is kept.
use Rattle.std.proofs.Common.{◌≡◌, ◌∙◌, ℕ, Bool, true, false, ◌&&◌, ◌||◌, List, [], ◌∷◌, ◌++◌, refl, sym, ap, append_assoc}
use Rattle.std.specs.Prelude.{not, codes}
use Rattle.std.specs.List.{list_all}
use Rattle.std.specs.Str.{bytes_eq}
use Rattle.std.proofs.lemmas.Bool.{and_parts, not-true}
use Rattle.std.proofs.lemmas.Slice.Eq.{bytes_eq-Decides}
use Rattle.markup.specs.Escape.{end_tag, escape, start_tag}
use Rattle.markup.specs.Trees.{Entry, Trees, Nothing, Text, Comment, ProcessingInstruction, Doctype, Element, default_entry}
use Rattle.markup.specs.Trees.{end_of, entry_under, is_among, is_html, is_raw, raw_names, written}
use Rattle.markup.specs.declared.attributes.Attribute.{Attribute}
use Rattle.markup.specs.declared.names.QualName.{QualName}
use Rattle.html_round_trip.specs.Slices.Forms.{is_no_text, is_tag_name}
use Rattle.html_clean.specs.Pieces as piece
use Rattle.html_clean.specs.Pieces.{Piece, are_read_pieces, is_read_piece, written_pieces}
use Rattle.html_clean.specs.Cleaned.{are_kept, are_kept_pieces, are_lawful_attributes, end_before, is_balanced, opened}
use Rattle.html_clean.specs.Cleaned.{is_kept_piece, is_lawful_text, is_nothing, pieces_before}
use Rattle.html_clean.specs.Names.{is_safe_name, is_void, safe_names}
use Rattle.html_clean.specs.Policies.{is_kept_name, is_plain_character, is_ruled}
use Rattle.html_clean.specs.declared.policy.Policy.{Policy}
use Rattle.html_clean.proofs.Lawful.{and-both, attributes-read, no-null, no-return}

-- the parts of an element that is kept
pub record IsKeptElement (policy : Policy) (name : QualName) (attributes : List Attribute) (template : Bool)
    (kids rest : Trees) : Type 0 where
  pub html : is_html name ≡ true
  pub named : is_kept_name policy name.local ≡ true
  pub lawful : are_lawful_attributes policy name.local attributes ≡ true
  pub void : (not (is_void name.local) || is_nothing kids) ≡ true
  pub kids_kept : are_kept policy kids ≡ true
  pub rest_kept : are_kept policy rest ≡ true
  pub own : template ≡ false

pub parts : (policy : Policy) (name : QualName) (attributes : List Attribute) (template : Bool) (kids rest : Trees)
    → are_kept policy (Element name attributes template kids rest) ≡ true → IsKeptElement policy name attributes template kids rest
parts policy name attributes template kids rest h =
    let p = and_parts ((is_html name && is_kept_name policy name.local) && are_lawful_attributes policy name.local attributes) _ h in
    let q = and_parts (is_html name && is_kept_name policy name.local) _ p.0 in
    let n = and_parts (is_html name) (is_kept_name policy name.local) q.0 in
    let r = and_parts ((not (is_void name.local) || is_nothing kids) && are_kept policy kids) (not template && are_kept policy rest) p.1 in
    let l = and_parts (not template) (are_kept policy rest) r.1 in
    let k = and_parts (not (is_void name.local) || is_nothing kids) (are_kept policy kids) r.0 in
    record { html = n.0; named = n.1; lawful = q.1; void = k.0; kids_kept = k.1; rest_kept = l.1; own = not-true template l.0 }

pub nothing-in : (v : Bool) (kids : Trees) → v ≡ true → (not v || is_nothing kids) ≡ true → kids ≡ Nothing
nothing-in false kids e h = absurd cc
nothing-in true Nothing e h = refl
nothing-in true (Text text rest) e h = absurd cc
nothing-in true (Comment text rest) e h = absurd cc
nothing-in true (ProcessingInstruction target text rest) e h = absurd cc
nothing-in true (Doctype name public_id system_id rest) e h = absurd cc
nothing-in true (Element name attributes template kids rest) e h = absurd cc

-- NAMES

among-by : (p : List ℕ → Bool) (name x : List ℕ) (rest : List (List ℕ)) → p x ≡ true → (b : Bool)
    → bytes_eq name x ≡ b → (b || is_among name rest) ≡ true → (is_among name rest ≡ true → p name ≡ true) → p name ≡ true
among-by p name x rest h true e k later = ap p ((bytes_eq-Decides name x).0 e) ∙ h
among-by p name x rest h false e k later = later k

-- what holds of each of some names holds of one that is among them
pub among-all : (p : List ℕ → Bool) (names : List (List ℕ)) → list_all p names ≡ true → (name : List ℕ)
    → is_among name names ≡ true → p name ≡ true
among-all p [] h name k = absurd cc
among-all p (x ∷ rest) h name k = let q = and_parts (p x) (list_all p rest) h in among-by p name x rest q.0
    (bytes_eq name x) refl k (among-all p rest q.1 name)

-- a name of a tag, whose text is escaped
abbrev is_fit : List ℕ → Bool
is_fit name = is_tag_name name && not (is_raw true name)

all-fit : list_all is_fit safe_names ≡ true
all-fit = refl

safe-fit : (name : List ℕ) → is_safe_name name ≡ true → is_fit name ≡ true
unfolding is_safe_name
safe-fit name h = among-all is_fit safe_names all-fit name h

kept-fit : (policy : Policy) (name : List ℕ) → is_kept_name policy name ≡ true → is_fit name ≡ true
kept-fit policy name h = safe-fit name (and_parts (is_safe_name name) (is_ruled policy.kept.items name) h).0

pub kept-tag : (policy : Policy) (name : List ℕ) → is_kept_name policy name ≡ true → is_tag_name name ≡ true
kept-tag policy name h = (and_parts (is_tag_name name) (not (is_raw true name)) (kept-fit policy name h)).0

raw-any : (scripting a n : Bool) → (a || n) ≡ false → (a || (scripting && n)) ≡ false
raw-any scripting true n h = absurd cc
raw-any true false n h = h
raw-any false false n h = refl

-- the text of a kept element is escaped
not-raw : (policy : Policy) (scripting : Bool) (name : List ℕ) → is_kept_name policy name ≡ true → is_raw scripting name ≡ false
not-raw policy scripting name h =
    raw-any scripting (is_among name raw_names) (bytes_eq name (codes "noscript"))
    (not-true _ (and_parts (is_tag_name name) (not (is_raw true name)) (kept-fit policy name h)).1)

entry-under : (policy : Policy) (scripting : Bool) (name : QualName) (v : Bool) → is_html name ≡ true
    → is_kept_name policy name.local ≡ true → is_void name.local ≡ v
    → entry_under scripting default_entry name ≡ record { raw_text = false; ignores_children = v }
entry-under policy scripting name v html named e = rw (html, not-raw policy scripting name.local named, e) refl

-- WRITTEN

abbrev W : Bool → Trees → List ℕ
W scripting trees = written scripting default_entry trees

joined : (s k e w a : List ℕ) → (s ++ (k ++ (e ++ w))) ++ a ≡ s ++ (k ++ (e ++ (w ++ a)))
joined s k e w a = simp append_assoc

element-written : (policy : Policy) (scripting : Bool) (name : QualName) (attributes : List Attribute)
    (template : Bool) (kids rest : Trees) (v : Bool) → is_void name.local ≡ v → IsKeptElement policy name attributes template kids rest
    → ((after : List Piece) → W scripting kids ++ written_pieces after ≡ written_pieces (pieces_before kids after))
    → ((after : List Piece) → W scripting rest ++ written_pieces after ≡ written_pieces (pieces_before rest after)) → (after : List Piece)
    → W scripting (Element name attributes template kids rest) ++ written_pieces after ≡ start_tag name.local
    attributes ++ written_pieces (pieces_before kids (end_before v name.local (pieces_before rest after)))
unfolding written
element-written policy scripting name attributes template kids rest true e p inside behind after =
    let tag = start_tag name.local attributes in
    let nothing : kids ≡ Nothing = nothing-in (is_void name.local) kids e p.void in
    let void : Entry = record { raw_text = false; ignores_children = true } in
    ap (λ (own : Entry). (tag ++ (written scripting own kids ++ (end_of own name ++ W scripting rest)))
    ++ written_pieces after) (entry-under policy scripting name true p.html p.named e)
    ∙ (ap (λ (kids : Trees). (tag ++ (written scripting void kids ++ W scripting rest)) ++ written_pieces after) nothing
    ∙ (append_assoc tag (W scripting rest) (written_pieces after)
    ∙ (ap (λ w. tag ++ w) (behind after)
    ∙ ap (λ (kids : Trees). tag ++ written_pieces (pieces_before kids (pieces_before rest after))) (sym nothing))))
element-written policy scripting name attributes template kids rest false e p inside behind after =
    let tag = start_tag name.local attributes in
    let close = end_tag name.local in
    ap (λ (own : Entry). (tag ++ (written scripting own kids ++ (end_of own name ++ W scripting rest)))
    ++ written_pieces after) (entry-under policy scripting name false p.html p.named e)
    ∙ (joined tag (W scripting kids) close (W scripting rest) (written_pieces after)
    ∙ ap (λ w. tag ++ w) (ap (λ w. W scripting kids ++ (close ++ w)) (behind after)
    ∙ inside (piece.End name.local ∷ pieces_before rest after)))

pub written-pieces : (policy : Policy) (scripting : Bool) (trees : Trees) → are_kept policy trees ≡ true
    → (after : List Piece) → W scripting trees ++ written_pieces after ≡ written_pieces (pieces_before trees after)
unfolding written
written-pieces policy scripting Nothing h after = refl
written-pieces policy scripting (Text text rest) h after =
    let p = and_parts (is_lawful_text text) (are_kept policy rest) h in
    append_assoc (escape text) (W scripting rest) (written_pieces after) ∙ ap (λ w. escape text ++ w)
    (written-pieces policy scripting rest p.1 after)
written-pieces policy scripting (Comment text rest) h after = absurd cc
written-pieces policy scripting (ProcessingInstruction target text rest) h after = absurd cc
written-pieces policy scripting (Doctype name public_id system_id rest) h after = absurd cc
written-pieces policy scripting (Element name attributes template kids rest) h after =
    let p = parts policy name attributes template kids rest h in
    element-written policy scripting name attributes template kids rest (is_void name.local) refl p
    (written-pieces policy scripting kids p.kids_kept) (written-pieces policy scripting rest p.rest_kept) after

-- KEPT

end-kept : (policy : Policy) (v : Bool) (name : List ℕ) (after : List Piece) → is_kept_name policy name ≡ true
    → are_kept_pieces policy after ≡ true → are_kept_pieces policy (end_before v name after) ≡ true
end-kept policy true name after h k = k
end-kept policy false name after h k = and-both (is_kept_name policy name) (are_kept_pieces policy after) h k

pub pieces-kept : (policy : Policy) (trees : Trees) → are_kept policy trees ≡ true → (after : List Piece)
    → are_kept_pieces policy after ≡ true → are_kept_pieces policy (pieces_before trees after) ≡ true
pieces-kept policy Nothing h after k = k
pieces-kept policy (Text text rest) h after k =
    let p = and_parts (is_lawful_text text) (are_kept policy rest) h in
    and-both (is_lawful_text text) _ p.0 (pieces-kept policy rest p.1 after k)
pieces-kept policy (Comment text rest) h after k = absurd cc
pieces-kept policy (ProcessingInstruction target text rest) h after k = absurd cc
pieces-kept policy (Doctype name public_id system_id rest) h after k = absurd cc
pieces-kept policy (Element name attributes template kids rest) h after k =
    let p = parts policy name attributes template kids rest h in
    and-both (is_kept_name policy name.local && are_lawful_attributes policy name.local attributes) _ (and-both _ _ p.named p.lawful)
    (pieces-kept policy kids p.kids_kept _ (end-kept policy (is_void name.local) name.local _ p.named
    (pieces-kept policy rest p.rest_kept after k)))

-- a piece that is kept is read back
piece-read : (policy : Policy) (one : Piece) → is_kept_piece policy one ≡ true → is_read_piece (is_kept_name policy) one ≡ true
piece-read policy (piece.Start name attributes) h =
    let p = and_parts (is_kept_name policy name) (are_lawful_attributes policy name attributes) h in
    let q = attributes-read policy name attributes p.1 in
    and-both _ _ (and-both _ _ (and-both _ _ (kept-tag policy name p.0) p.0) q.0) q.1
piece-read policy (piece.Text text) h =
    let p = and_parts (not (is_no_text text)) (list_all is_plain_character text) h in
    and-both _ _ (and-both _ _ p.0 (no-null text p.1)) (no-return text p.1)
piece-read policy (piece.End name) h = and-both _ _ (kept-tag policy name h) h

pub pieces-read : (policy : Policy) (pieces : List Piece) → are_kept_pieces policy pieces ≡ true
    → are_read_pieces (is_kept_name policy) pieces ≡ true
pieces-read policy [] h = refl
pieces-read policy (one ∷ rest) h =
    let p = and_parts (is_kept_piece policy one) (are_kept_pieces policy rest) h in
    and-both _ _ (piece-read policy one p.0) (pieces-read policy rest p.1)

-- BALANCED

same-name : (name : List ℕ) → bytes_eq name name ≡ true
same-name name = (bytes_eq-Decides name name).1 refl

element-balanced : (v : Bool) (name : List ℕ) (kids : Trees) (after : List Piece) (stack : List (List ℕ))
    → ((more : List Piece) (stack : List (List ℕ)) → is_balanced (pieces_before kids more) stack ≡ is_balanced more stack)
    → is_balanced (pieces_before kids (end_before v name after)) (opened v name stack) ≡ is_balanced after stack
element-balanced true name kids after stack inside = inside after stack
element-balanced false name kids after stack inside = inside (piece.End name ∷ after) (name ∷ stack) ∙ rw (same-name name) refl

pub pieces-balanced : (trees : Trees) (after : List Piece) (stack : List (List ℕ))
    → is_balanced (pieces_before trees after) stack ≡ is_balanced after stack
pieces-balanced Nothing after stack = refl
pieces-balanced (Text text rest) after stack = pieces-balanced rest after stack
pieces-balanced (Comment text rest) after stack = pieces-balanced rest after stack
pieces-balanced (ProcessingInstruction target text rest) after stack = pieces-balanced rest after stack
pieces-balanced (Doctype name public_id system_id rest) after stack = pieces-balanced rest after stack
pieces-balanced (Element name attributes template kids rest) after stack =
    element-balanced (is_void name.local) name.local kids (pieces_before rest after) stack (pieces-balanced kids)
    ∙ pieces-balanced rest after stack
