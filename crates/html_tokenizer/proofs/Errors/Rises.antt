-- How a number of errors rises that stops at the greatest number of 64 bits, by what is owed.
use Rattle.std.proofs.Common.{◌≡◌, ◌∙◌, ℕ, zero, suc, ◌+◌, ◌≤◌, Bool, true, false, Option, Some, None, Ok, arith, refl, ap, sym}
use Rattle.std.proofs.Common.{List, [], ◌∷◌, ◌++◌, nat_eq}
use Rattle.std.specs.Prelude.{◌&&◌, ◌||◌, min}
use Rattle.std.proofs.lemmas.Bool.{and_parts, and_from}
use Rattle.std.proofs.lemmas.Bool.Decides.{nat_tests}
use Rattle.html_tokens.specs.Item.{Fault, Grave, Slight, grave_if, slight_if, and_slight_if}
use Rattle.html_tokens.specs.Notes.{Notes, one_if, heard}
use Rattle.html_tokens.specs.Sink.{one_more, Counts, CountsOwn}
use Rattle.html_tokens.specs.declared.token.Token.{Token}
use Rattle.html_tokens.specs.declared.token.Token.TheVariants.{ParseError}
use Rattle.html_tokenizer.specs.Calls.{owed_for_text}
use Rattle.html_tokens.specs.Forbidden.{is_forbidden}
use Rattle.html_tokenizer.specs.Steps.{IsNoTag, Owed, nothing_owed, owed_for, owed_for_each, how_many, and_heard, together}
use Rattle.html_tokenizer.specs.Steps.{Rises, and_more, more}

capped : (a b c m n : ℕ) → min (a + m) 0xffff_ffff_ffff_ffff ≤ b → min (b + n) 0xffff_ffff_ffff_ffff ≤ c
    → min (a + (n + m)) 0xffff_ffff_ffff_ffff ≤ c
capped a b c m n h k = omega arith

still : (a b c m : ℕ) → min (a + m) 0xffff_ffff_ffff_ffff ≤ b → min (b + 0) 0xffff_ffff_ffff_ffff ≤ c
    → min (a + m) 0xffff_ffff_ffff_ffff ≤ c
still a b c m h k = omega arith

fewer : (a b m n : ℕ) → n ≤ m → min (a + m) 0xffff_ffff_ffff_ffff ≤ b → min (a + n) 0xffff_ffff_ffff_ffff ≤ b
fewer a b m n l h = omega arith

not-lowered : (a b : ℕ) → a ≤ b → min (a + 0) 0xffff_ffff_ffff_ffff ≤ b
not-lowered a b h = omega arith

not-less : (a b : ℕ) → b ≡ a → a ≤ b
not-less a b h = omega arith

one : (a b : ℕ) → b ≡ one_more a → min (a + 1) 0xffff_ffff_ffff_ffff ≤ b
one a b h = grind (arith, nat_tests)

own : (quiet : Bool) (a b : ℕ) → CountsOwn quiet a b → a ≤ b
own true a b h = omega (arith, h)
own false a b h = grind (arith, nat_tests)

own-quiet : (quiet : Bool) (a b : ℕ) → CountsOwn quiet a b → quiet ≡ true → b ≡ a
own-quiet true a b h e = h
own-quiet false a b h e = absurd cc

-- so many more are the sum
pub more-sum : (m n : ℕ) → and_more m n ≡ m + n
more-sum zero n = omega arith
more-sum (suc m) n = let h = more-sum m n in omega (arith, h)

-- so many more than so many more
pub and_more-twice : (a b c : ℕ) → and_more a (and_more b c) ≡ and_more (a + b) c
and_more-twice a b c =
    let x = more-sum a (and_more b c) in
    let y = more-sum b c in
    let z = more-sum (a + b) c in
    omega (arith, x, y, z)

and-twice : (a b c : Bool) → (a && (b && c)) ≡ ((a && b) && c)
and-twice true b c = refl
and-twice false b c = refl

and-true : (b : Bool) → (b && true) ≡ b
and-true true = refl
and-true false = refl

and-between : (a b c : Bool) → ((a && b) && c) ≡ ((a && c) && b)
and-between true true c = sym (and-true c)
and-between true false true = refl
and-between true false false = refl
and-between false b c = refl

-- what is noted of two that owe something is noted of both together
pub more-more : (a b : Owed) (notes : Notes ℕ) → more a (more b notes) ≡ more (together a b) notes
more-more a b notes =
    ap (λ n. record notes { errors = n; is_quiet = a.is_quiet && (b.is_quiet && notes.is_quiet) })
    (and_more-twice a.faults b.faults notes.errors)
    ∙ ap (λ q. record notes { errors = and_more (a.faults + b.faults) notes.errors; is_quiet = q })
    (and-twice a.is_quiet b.is_quiet notes.is_quiet)

-- a token that is heard after what is owed is owed with it
pub heard-more : (quiet : Bool) (owed : Owed) (notes : Notes ℕ) → heard quiet (more owed notes) ≡ more (and_heard quiet owed) notes
heard-more quiet owed notes = ap (λ q. record (more owed notes) { is_quiet = q }) (and-between owed.is_quiet notes.is_quiet quiet)

-- One says no more than another of what errors rose by: it counts no more faults, and is quiet only where the other is.
pub record IsNoMore (less greater : Owed) : Type 0 where
  pub faults : less.faults ≤ greater.faults
  pub quiet : less.is_quiet ≡ true → greater.is_quiet ≡ true

-- what is owed after a token that is heard, is so of what says no more
pub no-more-heard : (quiet : Bool) (less greater : Owed) → IsNoMore less greater → IsNoMore (and_heard quiet less) (and_heard quiet greater)
no-more-heard quiet less greater h = record {
  faults = h.faults;
  quiet = λ e. and_from greater.is_quiet quiet (h.quiet (and_parts less.is_quiet quiet e).0) (and_parts less.is_quiet quiet e).1;
}

pub no-more-same : (owed : Owed) → IsNoMore owed owed
no-more-same owed = record { faults = omega arith; quiet = λ e. e }

-- something slight says no more than a fault
pub slight-no-more : IsNoMore (owed_for (Some Slight)) (owed_for (Some Grave))
slight-no-more = record { faults = omega arith; quiet = λ e. absurd cc }

pub slight-less : (odd : Bool) → IsNoMore (owed_for (slight_if odd)) (owed_for (grave_if odd))
slight-less true = slight-no-more
slight-less false = no-more-same nothing_owed

-- the characters of two texts that pass
how_many-both : (passes : ℕ → Bool) (a b : List ℕ) → how_many passes (a ++ b) ≡ how_many passes a + how_many passes b
how_many-both passes [] b = omega arith
how_many-both passes (c ∷ a) b = let h = how_many-both passes a b in omega (arith, h)

none-both : (x y : ℕ) → nat_eq (x + y) 0 ≡ true → (nat_eq x 0 ≡ true) × (nat_eq y 0 ≡ true)
none-both x y h = (grind (arith, nat_tests), grind (arith, nat_tests))

sums : (m n x y z : ℕ) → z ≡ x + y → (n + m) + z ≤ (n + y) + (m + x)
sums m n x y z e = omega (arith, e)

-- what two texts owe on their own is no more than what each owes
pub both-no-more : (exact : Bool) (m n : Owed) (a b : List ℕ)
    → IsNoMore (together (together n m) (owed_for_text exact (a ++ b)))
    (together (together n (owed_for_text exact b)) (together m (owed_for_text exact a)))
both-no-more false m n a b = record {
  faults = sums m.faults n.faults 0 0 0 (omega arith);
  quiet = λ e.
      let p = and_parts n.is_quiet m.is_quiet (and_parts (n.is_quiet && m.is_quiet) true e).0 in
      and_from (n.is_quiet && true) (m.is_quiet && true) (and_from n.is_quiet true p.0 refl) (and_from m.is_quiet true p.1 refl);
}
both-no-more true m n a b = record {
  faults = sums m.faults n.faults (how_many is_forbidden a) (how_many is_forbidden b)
      (how_many is_forbidden (a ++ b)) (how_many-both is_forbidden a b);
  quiet = λ e.
      let q = and_parts (n.is_quiet && m.is_quiet) (nat_eq (how_many is_forbidden (a ++ b)) 0) e in
      let p = and_parts n.is_quiet m.is_quiet q.0 in
      let r = none-both (how_many is_forbidden a) (how_many is_forbidden b)
      (ap (λ x. nat_eq x 0) (sym (how_many-both is_forbidden a b)) ∙ q.1) in
      and_from (n.is_quiet && nat_eq (how_many is_forbidden b) 0) (m.is_quiet && nat_eq (how_many is_forbidden a) 0)
      (and_from n.is_quiet (nat_eq (how_many is_forbidden b) 0) p.0 r.1)
      (and_from m.is_quiet (nat_eq (how_many is_forbidden a) 0) p.1 r.0);
}

one-char : (told : Bool) → IsNoMore (record { faults = one_if told + 0; is_quiet = nat_eq (one_if told + 0) 0 }) (owed_for (grave_if told))
one-char true = record { faults = omega arith; quiet = λ e. e }
one-char false = record { faults = omega arith; quiet = λ e. e }

-- what one character owes on its own, as a text
pub char-no-more : (exact : Bool) (c : ℕ) → IsNoMore (owed_for_text exact (c ∷ [])) (owed_for (grave_if (exact && is_forbidden c)))
char-no-more true c = one-char (is_forbidden c)
char-no-more false c = no-more-same nothing_owed

last-adds : (passes : Bool) (x y : ℕ) → x ≡ y + (one_if passes + 0)
    → IsNoMore (record { faults = x; is_quiet = nat_eq x 0 })
    (together (owed_for (grave_if passes)) (record { faults = y; is_quiet = nat_eq y 0 }))
last-adds true x y e = record { faults = omega (arith, e); quiet = λ h. absurd (grind (arith, nat_tests)) }
last-adds false x y e = record { faults = omega (arith, e); quiet = λ h. grind (arith, nat_tests) }

-- a character more of which an error is told if it passes
pub each-more : (passes : ℕ → Bool) (front : List ℕ) (c : ℕ) → IsNoMore (owed_for_each passes (front ++ c ∷ []))
    (together (owed_for (grave_if (passes c))) (owed_for_each passes front))
each-more passes front c = last-adds (passes c) (how_many passes (front ++ c ∷ [])) (how_many passes front)
    (how_many-both passes front (c ∷ []))

-- two faults of an item say no less than that it has one of them
pub either-no-more : (a b : Bool) → IsNoMore (owed_for (grave_if (a || b))) (together (owed_for (grave_if b)) (owed_for (grave_if a)))
either-no-more true true = record { faults = omega arith; quiet = λ e. absurd cc }
either-no-more true false = record { faults = omega arith; quiet = λ e. absurd cc }
either-no-more false true = record { faults = omega arith; quiet = λ e. absurd cc }
either-no-more false false = record { faults = omega arith; quiet = λ e. refl }

pub or-no-more : (a b : Bool) → IsNoMore (owed_for (grave_if (b || a))) (together (owed_for (grave_if b)) (owed_for (grave_if a)))
or-no-more true true = either-no-more true true
or-no-more true false = either-no-more true false
or-no-more false true = either-no-more false true
or-no-more false false = either-no-more false false

-- where these are not told a text owes nothing on its own
pub text-no-more : (t : List ℕ) (owed : Owed) → IsNoMore (together owed (owed_for_text false t)) owed
text-no-more t owed = record { faults = omega arith; quiet = λ e. (and_parts owed.is_quiet true e).0 }

-- nor does no text
pub none-no-more : (exact : Bool) → IsNoMore (together nothing_owed (owed_for_text exact [])) nothing_owed
none-no-more true = record { faults = omega arith; quiet = λ e. refl }
none-no-more false = record { faults = omega arith; quiet = λ e. refl }

-- a fault with something slight beside it says no more than the fault
pub slighted-no-more : (odd : Bool) (fault : Option Fault) → IsNoMore (owed_for (and_slight_if odd fault)) (owed_for fault)
slighted-no-more true None = record { faults = omega arith; quiet = λ e. absurd cc }
slighted-no-more true (Some Grave) = record { faults = omega arith; quiet = λ e. e }
slighted-no-more true (Some Slight) = record { faults = omega arith; quiet = λ e. e }
slighted-no-more false fault = record { faults = omega arith; quiet = λ e. e }

module _ {K : Type 0} (errors : K → ℕ) where
  -- what rose by m, and then by n
  pub rises-then : {m n : Owed} (a b c : K) → Rises errors m a b → Rises errors n b c → Rises errors (together n m) a c
  rises-then {m} {n} a b c h k = record {
    enough = capped (errors a) (errors b) (errors c) m.faults n.faults h.enough k.enough;
    stays = λ e. k.stays (and_parts n.is_quiet m.is_quiet e).0 ∙ h.stays (and_parts n.is_quiet m.is_quiet e).1;
  }

  -- what rose by so much rose by what says no more
  pub rises-less : {m n : Owed} (a b : K) → IsNoMore n m → Rises errors m a b → Rises errors n a b
  rises-less {m} {n} a b l h = record {
    enough = fewer (errors a) (errors b) m.faults n.faults l.faults h.enough;
    stays = λ e. h.stays (l.quiet e);
  }

  -- what rose by what is owed, and then by a token
  pub rises-heard : {owed : Owed} (quiet : Bool) (a b c : K) → Rises errors owed a b
      → Rises errors (and_heard quiet nothing_owed) b c → Rises errors (and_heard quiet owed) a c
  rises-heard {owed} quiet a b c h k = record {
    enough = still (errors a) (errors b) (errors c) owed.faults h.enough k.enough;
    stays = λ e. k.stays (and_parts owed.is_quiet quiet e).1 ∙ h.stays (and_parts owed.is_quiet quiet e).0;
  }

  -- what is as it was
  pub rises-same : (a b : K) → b ≡ a → Rises errors nothing_owed a b
  rises-same a b h = record {
    enough = not-lowered (errors a) (errors b)
        (not-less (errors a) (errors b) (ap errors h));
    stays = λ e. ap errors h;
  }

  -- what is as it was, where something slight may be owed
  pub rises-slight : (odd : Bool) (a b : K) → b ≡ a → Rises errors (owed_for (slight_if odd)) a b
  rises-slight true a b h =
      record { enough = not-lowered (errors a) (errors b) (not-less (errors a) (errors b) (ap errors h)); stays = λ e. ap errors h }
  rises-slight false a b h = rises-same a b h

  -- a token that is no error was told
  pub rises-own : (quiet : Bool) (a b : K) → CountsOwn quiet (errors a) (errors b) → Rises errors (and_heard quiet nothing_owed) a b
  rises-own quiet a b h = record {
    enough = not-lowered (errors a) (errors b) (own quiet (errors a) (errors b) h);
    stays = λ e. own-quiet quiet (errors a) (errors b) h e;
  }

  -- what rose by m and by what a text owes on its own, and then by n and by what another does
  pub rises-besides : (exact : Bool) (m n : Owed) (s t : List ℕ) (a b c : K)
      → Rises errors (together m (owed_for_text exact s)) a b → Rises errors (together n (owed_for_text exact t)) b
      c → Rises errors (together (together n m) (owed_for_text exact (s ++ t))) a c
  rises-besides exact m n s t a b c h k = rises-less a c (both-no-more exact m n s t) (rises-then a b c h k)

  -- the same of what the sink says of a token
  pub rises-told : {R : Type 0} (quiet : Bool) (token : Token) → IsNoTag token → (reply : R) (a b : K)
      → Counts quiet token (Ok reply) (errors a) (errors b) → Rises errors (and_heard quiet nothing_owed) a b
  rises-told quiet (ParseError message) none reply a b h = absurd none
  rises-told quiet _ none reply a b h = rises-own quiet a b h
