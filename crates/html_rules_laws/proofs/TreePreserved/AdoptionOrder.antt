-- The open elements after a turn of the adoption agency are in order.
use Rattle.std.proofs.Common.{◌≡◌, ℕ, ◌<◌, ◌≤◌, List, [], ◌∷◌, ◌++◌, None, arith, inl, inr, ◌⊎◌}
use Rattle.markup.specs.Forest.{Above, Forest, above_of, node_count}
use Rattle.markup.proofs.PutTexts.{KeepsNames, element-IsNode}
use Rattle.markup.proofs.Walks.{Above-IsNode}
use Rattle.html_tokens.specs.declared.tags.Tag.{Tag}
use Rattle.html_rules.specs.Names.{Html, element_name_of}
use Rattle.html_rules.specs.State.{Open, Entry}
use Rattle.html_rules.specs.declared.rules.Rules.{Rules}
use Rattle.html_rules_laws.specs.Soundness.{AreListed, AreOpened, IsApart, IsClear, IsStanding}
use Rattle.html_rules_laws.proofs.TreePreserved.AdoptionTurn.{Adopted, AreNewOr, Placed}
use Rattle.html_rules_laws.proofs.TreePreserved.AdoptionWalk.{AreClear, append-apart, append-clear, append-opened}

-- none of these stands above a node
abbrev pub NoneAbove : Forest → List Open → ℕ → Type 0
NoneAbove f [] n = Unit {0}
NoneAbove f (x ∷ xs) n = (Above f x.number n → ⊥) × NoneAbove f xs n

abbrev pub Each : (Open → Type 0) → List Open → Type 0
Each P [] = Unit {0}
Each P (x ∷ xs) = P x × Each P xs

clear-by : (g : Forest) (n : ℕ) (P : Open → Type 0) (xs : List Open) → ((x : Open) → P x → Above g n x.number → ⊥)
    → Each P xs → IsClear g n xs
clear-by g n P [] never h = tt
clear-by g n P (x ∷ xs) never h = (λ up. never x h.0 up, clear-by g n P xs never h.1)

each-clear : (g : Forest) (P Q : Open → Type 0) (xs ys : List Open)
    → ((x y : Open) → P x → Q y → Above g x.number y.number → ⊥) → Each P xs → Each Q ys → AreClear g xs ys
each-clear g P Q [] ys never h k = tt
each-clear g P Q (x ∷ xs) ys never h k = (clear-by g x.number Q ys (λ y q up. never x y h.0 q up) k, each-clear g P Q xs ys never h.1 k)

pub each-map : (P Q : Open → Type 0) (xs : List Open) → ((x : Open) → P x → Q x) → Each P xs → Each Q xs
each-map P Q [] f h = tt
each-map P Q (x ∷ xs) f h = (f x h.0, each-map P Q xs f h.1)

each-both : (P Q : Open → Type 0) (xs : List Open) → Each P xs → Each Q xs → Each (λ x. P x × Q x) xs
each-both P Q [] h k = tt
each-both P Q (x ∷ xs) h k = ((h.0, k.0), each-both P Q xs h.1 k.1)

each-append : (P : Open → Type 0) (xs ys : List Open) → Each P xs → Each P ys → Each P (xs ++ ys)
each-append P [] ys h k = k
each-append P (x ∷ xs) ys h k = (h.0, each-append P xs ys h.1 k)

-- elements that stay in order where nothing new comes above them
apart-by : (f g : Forest) (xs : List Open) → IsApart f xs → Each (λ x. (a : ℕ) → Above g a x.number → Above f a x.number) xs → IsApart g xs
apart-by f g [] a h = tt
apart-by f g (x ∷ xs) a h = (clear-down f g x.number xs a.0 h.1, apart-by f g xs a.1 h.1) where
  clear-down : (f g : Forest) (n : ℕ) (xs : List Open) → IsClear f n xs
      → Each (λ x. (a : ℕ) → Above g a x.number → Above f a x.number) xs → IsClear g n xs
  clear-down f g n [] c h = tt
  clear-down f g n (x ∷ xs) c h = (λ up. c.0 (h.0 n up), clear-down f g n xs c.1 h.1)

opened-each : (f : Forest) (xs : List Open) → AreOpened f xs → Each (λ x. x.number < node_count f) xs
opened-each f [] h = tt
opened-each f (x ∷ xs) h = (element-IsNode f x.number (element_name_of x.namespace x.name) h.0.named, opened-each f xs h.1)

pub named-opened : (f g : Forest) (xs : List Open) → KeepsNames f g → AreOpened f xs → AreOpened g xs
named-opened f g [] names h = tt
named-opened f g (x ∷ xs) names h =
    (record { named = names.names x.number (element_name_of x.namespace x.name) h.0.named; own = h.0.own }, named-opened f g xs names h.1)

clear-each : (f : Forest) (n : ℕ) (xs : List Open) → IsClear f n xs → Each (λ x. Above f n x.number → ⊥) xs
clear-each f n [] h = tt
clear-each f n (x ∷ xs) h = (h.0, clear-each f n xs h.1)

none-each : (f : Forest) (q : ℕ) (xs : List Open) → NoneAbove f xs q → Each (λ x. Above f x.number q → ⊥) xs
none-each f q [] h = tt
none-each f q (x ∷ xs) h = (h.0, none-each f q xs h.1)

new-each : (f0 f : Forest) (q : ℕ) (xs : List Open) → AreNewOr f0 f q xs
    → Each (λ x. (node_count f0 ≤ x.number) × ((a : ℕ) → Above f a x.number → (node_count f0 ≤ a) ⊎ Above f0 a q)) xs
new-each f0 f q [] h = tt
new-each f0 f q (x ∷ xs) h = (h.0, new-each f0 f q xs h.1)

-- lists in two parts
pub opened-left : (f : Forest) (xs ys : List Open) → AreOpened f (xs ++ ys) → AreOpened f xs
opened-left f [] ys h = tt
opened-left f (x ∷ xs) ys h = (h.0, opened-left f xs ys h.1)

pub opened-right : (f : Forest) (xs ys : List Open) → AreOpened f (xs ++ ys) → AreOpened f ys
opened-right f [] ys h = h
opened-right f (x ∷ xs) ys h = opened-right f xs ys h.1

clear-left : (f : Forest) (n : ℕ) (xs ys : List Open) → IsClear f n (xs ++ ys) → IsClear f n xs
clear-left f n [] ys h = tt
clear-left f n (x ∷ xs) ys h = (h.0, clear-left f n xs ys h.1)

clear-right : (f : Forest) (n : ℕ) (xs ys : List Open) → IsClear f n (xs ++ ys) → IsClear f n ys
clear-right f n [] ys h = h
clear-right f n (x ∷ xs) ys h = clear-right f n xs ys h.1

apart-left : (f : Forest) (xs ys : List Open) → IsApart f (xs ++ ys) → IsApart f xs
apart-left f [] ys h = tt
apart-left f (x ∷ xs) ys h = (clear-left f x.number xs ys h.0, apart-left f xs ys h.1)

pub apart-right : (f : Forest) (xs ys : List Open) → IsApart f (xs ++ ys) → IsApart f ys
apart-right f [] ys h = h
apart-right f (x ∷ xs) ys h = apart-right f xs ys h.1

pub apart-between : (f : Forest) (xs ys : List Open) → IsApart f (xs ++ ys) → AreClear f xs ys
apart-between f [] ys h = tt
apart-between f (x ∷ xs) ys h = (clear-right f x.number xs ys h.0, apart-between f xs ys h.1)

pub clear-rows : (f : Forest) (xs ys : List Open) → AreClear f xs ys → Each (λ x. IsClear f x.number ys) xs
clear-rows f [] ys h = tt
clear-rows f (x ∷ xs) ys h = (h.0, clear-rows f xs ys h.1)

rows-clear : (g : Forest) (P : Open → Type 0) (xs ys : List Open) → ((x : Open) → P x → IsClear g x.number ys)
    → Each P xs → AreClear g xs ys
rows-clear g P [] ys f h = tt
rows-clear g P (x ∷ xs) ys f h = (f x h.0, rows-clear g P xs ys f h.1)

-- an older element that is later than the block: what it is not above
record Later (f0 : Forest) (b q : ℕ) (anc : List Open) (x : Open) : Type 0 where
  there : x.number < node_count f0
  block : Above f0 x.number b → ⊥
  place : Above f0 x.number q → ⊥
  before : IsClear f0 x.number anc

-- those that are later than the block stay in order
later-apart : (f0 f g : Forest) (b q : ℕ) (copies anc xs : List Open) (entries : List Entry) (tag : Tag)
    → Placed f0 f b q copies entries → Adopted f g b tag → b < node_count f0 → Each (Later f0 b q anc) xs → IsApart f0 xs → IsApart g xs
later-apart f0 f g b q copies anc [] entries tag is made there h a = tt
later-apart f0 f g b q copies anc (x ∷ xs) entries tag is made there h a =
    (clear x h.0 xs h.1 a.0, later-apart f0 f g b q copies anc xs entries tag is made there h.1 a.1)
  where
    -- no later one comes above another one
    clear : (x : Open) → Later f0 b q anc x → (ys : List Open) → Each (Later f0 b q anc) ys → IsClear f0 x.number ys → IsClear g x.number ys
    clear x l [] h c = tt
    clear x l (y ∷ ys) h c =
        let count : node_count f0 ≤ node_count f = is.count in
        let at : x.number < node_count f0 = l.there in
        let at' : y.number < node_count f0 = h.0.there in (
          λ up. elim (made.inner x.number y.number (omega arith) up) [
            | inl old ↦ elim (is.inside x.number y.number at' old)
                [ inl older ↦ c.0 older | inr other ↦ elim other [ inl new ↦ absurd (omega arith) | inr above ↦ l.place above ] ]
            | inr other ↦ elim other [
              | inl block ↦ elim (is.inside x.number b there block)
                  [ inl older ↦ l.block older | inr other ↦ elim other [ inl new ↦ absurd (omega arith) | inr above ↦ l.place above ] ]
              | inr same ↦ absurd (omega arith)
            ]
          ],
          clear x l ys h.1 c.1,
        )

-- after a turn: those later than the block, the new element, the block, the copies, and those before the formatting element
pub turn-IsStanding : (rules : Rules) (f0 f g : Forest) (block : Open) (q : ℕ) (inner copies anc : List Open) (entries0 entries : List Entry) (tag : Tag)
    → IsStanding f0 (inner ++ block ∷ anc) entries0 → Placed f0 f block.number q copies entries
    → Adopted f g block.number tag → q < node_count f0 → NoneAbove f0 inner q → (Above f0 block.number q → ⊥)
    → (relisted : List Entry) → AreListed g relisted → above_of g 0 ≡ None
    → IsStanding g (inner ++ (record { number = node_count f; namespace = Html; name = tag.name; rules = rules } ∷ block ∷ (copies ++ anc))) relisted
turn-IsStanding rules f0 f g block q inner copies anc entries0 entries tag is placed made less none none_b relisted listed top =
    let b : ℕ = block.number in
    let new : Open = record { number = node_count f; namespace = Html; name = tag.name; rules = rules } in
    let rest : List Open = block ∷ anc in
    let all = is.opened in
    let opened_inner = opened-left f0 inner rest all in
    let opened_rest = opened-right f0 inner rest all in
    let apart_inner = apart-left f0 inner rest is.apart in
    let apart_rest = apart-right f0 inner rest is.apart in
    let between = apart-between f0 inner rest is.apart in
    let count : node_count f0 ≤ node_count f = placed.count in
    let there : b < node_count f0 = element-IsNode f0 b (element_name_of block.namespace block.name) opened_rest.0.named in
    let older_copies = each-both _ _ copies (opened-each f copies placed.opened) (new-each f0 f q copies placed.above_new) in
    let block_copy : (c : Open) → (c.number < node_count f)
    × ((node_count f0 ≤ c.number) × ((a : ℕ) → Above f a c.number → (node_count f0 ≤ a) ⊎ Above f0 a q)) → Above f b c.number → ⊥ =
    λ c h up. elim (h.1.1 b up) [ inl late ↦ (omega arith) | inr above ↦ none_b above ] in
    let down_copies : Each (λ c. (a : ℕ) → Above g a c.number → Above f a c.number) copies = each-map _ _ copies
    (λ c h a up. made.clean a c.number h.0 (block_copy c h) up) older_copies in
    let older_anc = each-both _ _ anc (opened-each f0 anc opened_rest.1) (clear-each f0 b anc apart_rest.0) in
    let down_anc : Each (λ z. (a : ℕ) → Above g a z.number → Above f0 a z.number) anc =
    each-map _ _ anc (λ z h a up. let less : z.number < node_count f0 = h.0 in placed.outside a z.number less h.1
    (made.clean a z.number (omega arith) (λ above. h.1 (placed.outside b z.number less h.1 above)) up)) older_anc in
    let apart_copies : IsApart g copies = apart-by f g copies placed.apart down_copies in
    let apart_anc : IsApart g anc = apart-by f0 g anc apart_rest.1 down_anc in
    let both_anc = each-both _ _ anc (opened-each f0 anc opened_rest.1) down_anc in
    let both_copies = each-both _ _ copies older_copies down_copies in
    let copies_anc : AreClear g copies anc = each-clear g _ _ copies anc
    (λ c z h k up. let late : node_count f0 ≤ c.number = h.1.0 in let early = Above-IsNode f0 c.number z.number
    k.0 (k.1 c.number up) in omega arith) older_copies both_anc in
    let below : IsApart g (copies ++ anc) = append-apart g copies anc apart_copies apart_anc copies_anc in
    let clear_b : IsClear g b (copies ++ anc) = append-clear g b copies anc
    (clear-by g b _ copies (λ c h up. block_copy c h.0 (h.1 b up)) both_copies)
    (clear-by g b _ anc (λ z h up. h.0 (h.1 b up)) (each-both _ _ anc (clear-each f0 b anc apart_rest.0) down_anc)) in
    let clear_new : IsClear g (node_count f) (block ∷ (copies ++ anc)) = (
      λ up. let less = Above-IsNode f (node_count f) b (omega arith) (made.block (node_count f) up) in (omega arith),
      append-clear g (node_count f) copies anc
          (clear-by g (node_count f) _ copies (λ c h up. let less = Above-IsNode f (node_count f) c.number h.0.0
          (h.1 (node_count f) up) in (omega arith)) both_copies)
          (clear-by g (node_count f) _ anc (λ z h up. let less = Above-IsNode f0 (node_count f) z.number h.0
          (h.1 (node_count f) up) in (omega arith)) both_anc),
    ) in
    let later : Each (Later f0 b q anc) inner =
    each-map _ _ inner (λ y h. record { there = h.0.0; block = h.1.0; place = h.0.1; before = h.1.1 })
    (each-both _ _ inner (each-both _ _ inner (opened-each f0 inner opened_inner) (none-each f0 q inner none))
    (clear-rows f0 inner rest between)) in
    let not_block : (y : Open) → Later f0 b q anc y → Above f y.number b → ⊥ =
    λ y l up. let at : y.number < node_count f0 = l.there in elim (placed.inside y.number b there up)
    [ inl older ↦ l.block older | inr other ↦ elim other [ inl late ↦ (omega arith) | inr above ↦ l.place above ] ] in
    let clear_inner : AreClear g inner (new ∷ block ∷ (copies ++ anc)) =
    rows-clear g (Later f0 b q anc) inner (new ∷ block ∷ (copies ++ anc)) (λ y l.
    let at : y.number < node_count f0 = l.there in (
      λ up. elim (made.new y.number up) [ inl same ↦ (omega arith) | inr under ↦ not_block y l under ],
      (
        λ up. not_block y l (made.block y.number up),
        append-clear g y.number copies anc
            (clear-by g y.number _ copies
            (λ c h up. elim (h.0.1.1 y.number (h.1 y.number up))
            [ inl late ↦ (omega arith) | inr above ↦ l.place above ]) both_copies)
            (clear-by g y.number _ anc (λ z h up. h.0 (h.1 y.number up))
            (each-both _ _ anc (clear-each f0 y.number anc l.before) down_anc)),
      ),
    )) later in
    let names : KeepsNames f0 g =
    record {
      names = λ k name e. made.names.names k name (placed.names.names k name e);
      holds = λ k at. made.names.holds k (placed.names.holds k at);
    } in
    record {
      tree = made.tree;
      opened = append-opened g inner (new ∷ block ∷ (copies ++ anc)) (named-opened f0 g inner names opened_inner) (
        record { named = made.named; own = tt },
        (
          (named-opened f0 g rest names opened_rest).0,
          append-opened g copies anc
              (named-opened f g copies made.names placed.opened) (named-opened f0 g anc names opened_rest.1),
        ),
      );
      apart = append-apart g inner (new ∷ block ∷ (copies ++ anc))
          (later-apart f0 f g b q copies anc inner entries tag placed made there later apart_inner)
          (clear_new, (clear_b, below)) clear_inner;
      listed = listed;
      top = top;
    }
