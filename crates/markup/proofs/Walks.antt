-- Who stands above whom, after nodes were made, put, moved or taken out.
use Rattle.std.proofs.Common.{◌≡◌, ◌≢◌, ◌==◌, ◌+◌, ◌-◌, ◌<◌, ◌≤◌, ℕ, Bool, true, false, [], Some, None, sym, ap, ◌∙◌, refl, inl}
use Rattle.std.proofs.Common.{inr, ◌⊎◌, arith}
use Rattle.std.proofs.lemmas.Bool.{cases_Bool, eqb-true, eq-eqb}
use Rattle.markup.specs.Forest.{Forest, node_count, data_of, children_of, is_among, parent_of, is_contents, above_of, Above, Ends, IsForest}
use Rattle.markup.specs.Forest.Above.{here, further}
use Rattle.markup.specs.Forest.Ends.{top, below}
use Rattle.markup.proofs.Parents.{above-IsNode, is_among-parent}

-- c, which stood under nothing, now stands under p; nothing else has changed its place
pub record IsPut (f g : Forest) (p c : ℕ) : Type 0 where
  pub others : (n : ℕ) → n ≢ c → above_of g n ≡ above_of f n
  pub edge : above_of g c ≡ Some p

-- each node stands where it stood, or under nothing
pub record IsLess (f g : Forest) : Type 0 where
  pub less : (n : ℕ) → (above_of g n ≡ above_of f n) ⊎ (above_of g n ≡ None)

-- the nodes that move all go under p
pub record IsMoved (f g : Forest) (moves : ℕ → Bool) (p : ℕ) : Type 0 where
  pub others : (n : ℕ) → moves n ≡ false → above_of g n ≡ above_of f n
  pub edges : (n : ℕ) → moves n ≡ true → above_of g n ≡ Some p

-- there are no fewer nodes, and the older ones stand where they stood
pub record IsGrown (f g : Forest) : Type 0 where
  pub more : node_count f ≤ node_count g
  pub olds : (n : ℕ) → n < node_count f → above_of g n ≡ above_of f n

-- a put is the move of one node
pub IsMoved-put : (f g : Forest) (p c : ℕ) → IsPut f g p c → IsMoved f g (λ n. n == c) p
IsMoved-put f g p c is = record {
  others = λ n stays. is.others n (λ same. let moves = eq-eqb n c same in absurd (cc));
  edges = λ n moves. let same : n ≡ c = eqb-true n c moves in rw same is.edge;
}

-- what stands above what is above
pub Above-up : (f : Forest) (a b m : ℕ) → above_of f a ≡ Some m → Above f a b → Above f m b
Above-up f a b m e here = further e here
Above-up f a b m e (further e' r) = further e' (Above-up f a _ m e r)

pub Above-trans : (f : Forest) (a b c : ℕ) → Above f a b → Above f b c → Above f a c
Above-trans f a b c up here = up
Above-trans f a b c up (further e r) = further e (Above-trans f a b _ up r)

pub Above-IsNode : (f : Forest) (a n : ℕ) → n < node_count f → Above f a n → a < node_count f
Above-IsNode f a n there here = there
Above-IsNode f a n there (further {n = k} {m} e r) = Above-IsNode f a m (above-IsNode f k m there e) r

-- a node that stands under nothing has itself alone above it
pub Above-top : (f : Forest) (a n : ℕ) → above_of f n ≡ None → Above f a n → a ≡ n
Above-top f a n e here = refl
Above-top f a n e (further {n = k} {m} e' r) = absurd (cc)

-- what stands above a node that is another one stands above what that stands under
pub Above-step : (f : Forest) (a n m : ℕ) → n ≢ a → above_of f n ≡ Some m → Above f a n → Above f a m
Above-step f a n m other e here = absurd (other refl)
Above-step f a n m other e (further {m = k} e' r) = let same : k ≡ m = cc in rw (← same) r

-- a node that is above another one has something under it
pub under-from_above : (f : Forest) (c p : ℕ) → Above f c p → (p ≡ c) ⊎ ((m : ℕ) × (above_of f m ≡ Some c))
under-from_above f c p here = inl refl
under-from_above f c p (further {n} {m} e r) =
    elim (under-from_above f c m r) [ inl same ↦ inr (n, e ∙ ap Some same) | inr w ↦ inr w ]

around : (f : Forest) (k up : ℕ) → above_of f k ≡ Some up → ((n : ℕ) → above_of f up ≡ Some n → Above f up n → ⊥) → Above f k up → ⊥
around f k up e none here = none k e here
around f k up e none (further {n = u} {m = next} e' r) = none next e' (Above-up f k next u e r)

no_cycle : (f : Forest) (m : ℕ) → Ends f m → (n : ℕ) → above_of f m ≡ Some n → Above f m n → ⊥
no_cycle f m (top e) n e' a = absurd (cc)
no_cycle f m (below {n = k} {m = up} e r) n e' a =
    let same : n ≡ up = cc in
    around f k up e (λ (next : ℕ) e'' a''. no_cycle f up r next e'' a'') (rw (← same) a)

-- no node stands above what it stands under
pub Above-child : (f : Forest) → IsForest f → (m n : ℕ) → above_of f m ≡ Some n → Above f m n → ⊥
Above-child f is m n e a = no_cycle f m (is.ends m) n e a

-- two nodes that stand above one another are one
pub Above-antisym : (f : Forest) → IsForest f → (a b : ℕ) → Above f a b → Above f b a → a ≡ b
Above-antisym f is a b here down = refl
Above-antisym f is a b (further {n = k} {m} e r) down = absurd (Above-child f is k m e (Above-trans f k a m down r))

-- a node with no child, and with no contents, has nothing under it
pub nothing_under : (f : Forest) → IsForest f → (c : ℕ) → children_of f c ≡ []
    → is_contents (data_of f (c + 1)) ≡ false → (m : ℕ) → above_of f m ≡ Some c → ⊥
nothing_under f is c childless no_contents m e =
    elim (cases_Bool (is_contents (data_of f m))) [
      | inl contents ↦
          let follow : 0 < m = is.contents_follow m contents in
          let above : above_of f m ≡ Some (m - 1) = rw contents refl in
          let before : m - 1 ≡ c = cc in
          let same : m ≡ c + 1 = omega arith in
          let no_contents' : is_contents (data_of f m) ≡ false = rw same no_contents in
          cc
      | inr plain ↦
          let above : above_of f m ≡ parent_of f m = rw plain refl in
          let among : is_among m (children_of f c) ≡ true = is_among-parent f m c (sym above ∙ e) in
          let absent : is_among m (children_of f c) ≡ false = rw childless refl in
          cc
    ]

pub not_above-childless : (f : Forest) → IsForest f → (c p : ℕ) → children_of f c ≡ []
    → is_contents (data_of f (c + 1)) ≡ false → p ≢ c → Above f c p → ⊥
not_above-childless f is c p childless no_contents other a =
    elim (under-from_above f c p a) [ inl same ↦ other same | inr w ↦ nothing_under f is c childless no_contents w.0 w.1 ]

-- where nothing was put, nothing new stands above a node
pub Above-less : (f g : Forest) → IsLess f g → (a n : ℕ) → Above g a n → Above f a n
Above-less f g is a n here = here
Above-less f g is a n (further {n = k} {m} e r) =
    elim (is.less k) [
      | inl same ↦ further (sym same ∙ e) (Above-less f g is a m r)
      | inr none ↦ absurd (cc)
    ]

-- what stands above a node after a move stood above it, or above where the nodes went
pub Above-moved : (f g : Forest) (moves : ℕ → Bool) (p : ℕ) → IsMoved f g moves p → (a n : ℕ) → Above g a n → Above f a n ⊎ Above f a p
Above-moved f g moves p is a n here = inl here
Above-moved f g moves p is a n (further {n = k} {m} e r) =
    elim (cases_Bool (moves k)) [
      | inl moved ↦
          let edge = is.edges k moved in
          let same : m ≡ p = cc in
          elim (Above-moved f g moves p is a m r) [ inl up ↦ inr (rw (← same) up) | inr up ↦ inr up ]
      | inr stays ↦
          elim (Above-moved f g moves p is a m r) [ inl up ↦ inl (further (sym (is.others k stays) ∙ e) up) | inr up ↦ inr up ]
    ]

-- where no node above n moves, nothing new stands above it
pub Above-moved_free : (f g : Forest) (moves : ℕ → Bool) (p : ℕ) → IsMoved f g moves p → (a n : ℕ)
    → ((c : ℕ) → moves c ≡ true → Above f c n → ⊥) → Above g a n → Above f a n
Above-moved_free f g moves p is a n free here = here
Above-moved_free f g moves p is a n free (further {n = k} {m} e r) =
    elim (cases_Bool (moves k)) [
      | inl moved ↦ absurd (free k moved here)
      | inr stays ↦
          let up : above_of f k ≡ Some m = sym (is.others k stays) ∙ e in
          further up (Above-moved_free f g moves p is a m (λ c moved r'. free c moved (further up r')) r)
    ]

pub Above-put : (f g : Forest) (p c : ℕ) → IsPut f g p c → (a n : ℕ) → Above g a n → Above f a n ⊎ Above f a p
Above-put f g p c is a n r = Above-moved f g (λ n. n == c) p (IsMoved-put f g p c is) a n r

pub Above-put_free : (f g : Forest) (p c : ℕ) → IsPut f g p c → (a n : ℕ) → (Above f c n → ⊥) → Above g a n → Above f a n
Above-put_free f g p c is a n free r =
    Above-moved_free f g (λ n. n == c) p (IsMoved-put f g p c is) a n
    (λ k moved up. let same : k ≡ c = eqb-true k c moved in free (rw (← same) up)) r

-- an older node has nothing new above it
pub Above-grown : (f g : Forest) → IsGrown f g → (a n : ℕ) → n < node_count f → Above g a n → Above f a n
Above-grown f g is a n there here = here
Above-grown f g is a n there (further {n = k} {m} e r) =
    let up : above_of f k ≡ Some m = sym (is.olds k there) ∙ e in
    further up (Above-grown f g is a m (above-IsNode f k m there up) r)

-- the walks up still end

pub Ends-less : (f g : Forest) → IsLess f g → (m : ℕ) → Ends f m → Ends g m
Ends-less f g is m (top {n} e) = elim (is.less n) [ inl same ↦ top (same ∙ e) | inr free ↦ top free ]
Ends-less f g is m (below {n} {m = above} e r) = elim (is.less n)
    [ inl same ↦ below (same ∙ e) (Ends-less f g is above r) | inr free ↦ top free ]

module _ (f g : Forest) (moves : ℕ → Bool) (p : ℕ) (is : IsMoved f g moves p) (apart : (c : ℕ) → moves c ≡ true → Above f c p → ⊥) where
  still : (n m : ℕ) → ((c : ℕ) → moves c ≡ true → Above f c m → ⊥) → m ≡ n → moves n ≡ false
  still n m free e = elim (cases_Bool (moves n)) [ inl moved ↦ absurd (free n moved (rw e here)) | inr stays ↦ stays ]

  walk_apart : (m : ℕ) → ((c : ℕ) → moves c ≡ true → Above f c m → ⊥) → Ends f m → Ends g m
  walk_apart m free (top {n} e) = top (is.others n (still n n free refl) ∙ e)
  walk_apart m free (below {n} {m = above} e r) =
      below (is.others n (still n n free refl) ∙ e) (walk_apart above (λ c moved a. free c moved (further e a)) r)

  -- where no node that moves is above p
  pub Ends-moved : Ends f p → (m : ℕ) → Ends f m → Ends g m
  Ends-moved end m (top {n} e) =
      elim (cases_Bool (moves n)) [
        | inl moved ↦ below (is.edges n moved) (walk_apart p apart end)
        | inr stays ↦ top
            (is.others n stays ∙ e)
      ]
  Ends-moved end m (below {n} {m = above} e r) =
      elim (cases_Bool (moves n)) [
        | inl moved ↦ below (is.edges n moved) (walk_apart p apart end)
        | inr stays ↦
            below (is.others n stays ∙ e) (Ends-moved end above r)
      ]

pub Ends-put : (f g : Forest) (p c : ℕ) → IsPut f g p c → (Above f c p → ⊥) → Ends f p → (m : ℕ) → Ends f m → Ends g m
Ends-put f g p c is apart end m r =
    Ends-moved f g (λ n. n == c) p (IsMoved-put f g p c is)
    (λ k moved up. let same : k ≡ c = eqb-true k c moved in apart (rw (← same) up)) end m r
