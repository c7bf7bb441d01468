-- What stands in an element that was opened, and what comes after it.
use Rattle.std.proofs.Common.{◌≡◌, ◌∙◌, Bool, true, false, [], refl, ap, sym}
use Rattle.std.specs.Prelude.{◌&&◌, not, cond, Option, Some, None, is_none}
use Rattle.std.specs.Str.{bytes_eq}
use denote.Bor.{Bor}
use Rattle.markup.specs.Trees.{Trees, Nothing}
use Rattle.markup.specs.declared.names.QualName.{QualName}
use Rattle.html_rules.specs.Choice.{choose}
use Rattle.html_tokens.specs.declared.states.RawKind.{RawKind}
use Rattle.html_faithful.specs.Forms.{is_raw_text, lowered}
use Rattle.html_faithful.specs.Harmless.{Made, and_then}
use Rattle.html_faithful.specs.Spots.{Spot}
use Rattle.html_faithful.specs.Walk.{Parent, are_none, below, ends_there, finished, is_raw_inside, is_void, is_written_so}
use Rattle.html_faithful.specs.Walk.{kids_walked, walk}
use Rattle.html_faithful_walk.specs.Steps.{parent_of, spot_if}
use Rattle.html_faithful_walk.specs.Walking.{Enters, after_of, around, begun, finish_by, inside_by, inside_of, may_end}
use Rattle.html_faithful_walk.specs.Walking.{walk_at, walk_by}
use Rattle.html_faithful_walk.specs.declared.parents.Parent as declared
use Rattle.html_faithful_walk.specs.declared.stand.After.{After}
use Rattle.html_faithful_walk.specs.declared.stand.Inside.{Inside}
use Rattle.html_faithful_walk.specs.declared.stand.Inside.TheVariants.{Start, Any, Raw, Done}
use Rattle.html_faithful_walk.specs.declared.stand.Stand.{Stand}
use Rattle.html_faithful_walk.proofs.Options.{choose-then, the, then-assoc}

module _ (scripting : Bool) (parent : Parent) (rest : Spot → Option Spot) where
  -- an element without children
  done-kids : (kids : Trees) (p : Spot) → and_then (choose (are_none kids && true && true) (λ _. Some p) (λ _. None)) rest
      ≡ and_then (walk_by Done scripting parent false false kids p) (λ p. and_then (Some p) rest)
  unfolding walk
  done-kids Nothing p = refl
  done-kids kids p = refl

  void-kids : (kids : Trees) (drops : Bool) (raw : Option RawKind) (p : Spot) (inside : Inside)
      → choose (not drops && is_none raw) (λ _. Some Done) (λ _. None) ≡ Some inside
      → and_then (choose (are_none kids && not drops && is_none raw) (λ _. Some p) (λ _. None)) rest
      ≡ and_then (walk_by inside scripting parent false drops kids p) (λ p. and_then (Some p) rest)
  void-kids kids true raw p inside h = absurd cc
  void-kids kids false (Some kind) p inside h = absurd cc
  void-kids kids false None p inside h =
      done-kids kids p ∙ ap (λ inside. and_then (walk_by inside scripting parent false false kids p)
      (λ p. and_then (Some p) rest)) (the Done inside h)

  void-none : (kids : Trees) (drops : Bool) (raw : Option RawKind) (p : Spot)
      → choose (not drops && is_none raw) (λ _. Some Done) (λ _. None) ≡ None
      → and_then (choose (are_none kids && not drops && is_none raw) (λ _. Some p) (λ _. None)) rest ≡ None
  void-none Nothing true raw p h = refl
  void-none kids true raw p h = refl
  void-none Nothing false (Some kind) p h = refl
  void-none kids false (Some kind) p h = refl
  void-none kids false None p h = absurd cc

  -- an element with an end tag, by the raw text that it has
  abbrev walked : QualName → Trees → Made → Option RawKind → Option Spot
  walked name kids made raw = kids_walked name kids (λ drops p. walk scripting parent false drops kids p) (record made { raw = raw })

  named-kids : (kids : Trees) (kind : RawKind) (name : Bor QualName) (made : Made) (inside : Inside) (b : Bool)
      → choose b (λ _. Some (Raw kind name)) (λ _. None) ≡ Some inside
      → and_then (choose (b && is_raw_inside kind name.now.local kids)
      (λ _. and_then (walk scripting parent false made.drops_line_feed kids made.spot) (λ p. finished name.now p)) (λ _. None)) rest
      ≡ and_then (walk_by inside scripting parent false made.drops_line_feed kids made.spot) (λ p. and_then (finished name.now p) rest)
  named-kids kids kind name made inside false h = absurd cc
  named-kids kids kind name made inside true h =
      choose-then (is_raw_inside kind name.now.local kids) (walk scripting parent false made.drops_line_feed kids made.spot)
      (λ p. finished name.now p) rest
      ∙ ap (λ inside. and_then (walk_by inside scripting parent false made.drops_line_feed kids made.spot)
      (λ p. and_then (finished name.now p) rest))
      (the (Raw kind name) inside h)

  full-kids : (kids : Trees) (name : Bor QualName) (made : Made) (inside : Inside) (raw : Option RawKind) → inside_by raw name ≡ Some inside
      → and_then (walked name.now kids made raw) rest
      ≡ and_then (walk_by inside scripting parent false made.drops_line_feed kids made.spot) (λ p. and_then (finished name.now p) rest)
  full-kids kids name made inside None h =
      then-assoc (walk scripting parent false made.drops_line_feed kids made.spot) (λ p. finished name.now p) rest
      ∙ ap (λ inside. and_then (walk_by inside scripting parent false made.drops_line_feed kids made.spot)
      (λ p. and_then (finished name.now p) rest))
      (the Any inside h)
  full-kids kids name made inside (Some kind) h =
      named-kids kids kind name made inside (bytes_eq (lowered name.now.local) name.now.local) h

  unnamed-kids : (kids : Trees) (kind : RawKind) (name : Bor QualName) (b : Bool) (o : Option Spot)
      → choose b (λ _. Some (Raw kind name)) (λ _. None) ≡ None
      → and_then (choose (b && is_raw_inside kind name.now.local kids) (λ _. o) (λ _. None)) rest ≡ None
  unnamed-kids kids kind name false o h = refl
  unnamed-kids kids kind name true o h = absurd cc

  none-full : (kids : Trees) (name : Bor QualName) (made : Made) (raw : Option RawKind) → inside_by raw name ≡ None
      → and_then (walked name.now kids made raw) rest ≡ None
  none-full kids name made None h = absurd cc
  none-full kids name made (Some kind) h = unnamed-kids kids kind name (bytes_eq (lowered name.now.local) name.now.local) _ h

  -- whether it has an end tag or not
  abbrev kids_by : Bool → QualName → Trees → Made → Option Spot
  kids_by void name kids made = choose void (λ _. choose (ends_there kids made) (λ _. Some made.spot) (λ _. None))
      (λ _. walked name kids made made.raw)

  all-kids : (kids : Trees) (name : Bor QualName) (made : Made) (inside : Inside) (void : Bool)
      → choose void (λ _. choose (not made.drops_line_feed && is_none made.raw) (λ _. Some Done) (λ _. None))
      (λ _. inside_by made.raw name) ≡ Some inside
      → and_then (kids_by void name.now kids made) rest
      ≡ and_then (walk_by inside scripting parent false made.drops_line_feed kids made.spot)
      (λ p. and_then (finish_by (cond void None (Some name)) p) rest)
  all-kids kids name made inside true h = void-kids kids made.drops_line_feed made.raw made.spot inside h
  all-kids kids name made inside false h = full-kids kids name made inside made.raw h

  none-kids : (kids : Trees) (name : Bor QualName) (made : Made) (void : Bool)
      → choose void (λ _. choose (not made.drops_line_feed && is_none made.raw) (λ _. Some Done) (λ _. None))
      (λ _. inside_by made.raw name) ≡ None
      → and_then (kids_by void name.now kids made) rest ≡ None
  none-kids kids name made true h = void-none kids made.drops_line_feed made.raw made.spot h
  none-kids kids name made false h = none-full kids name made made.raw h

pub no-inside : (scripting : Bool) (name : Bor QualName) (made : Made) (old new : Stand) → is_written_so scripting name.now made.raw ≡ true
    → inside_of name made ≡ None → Enters scripting name made old new None
no-inside scripting name made old new e h kids rest =
    ap (λ b. choose b (λ _. and_then (choose (is_void name.now) (λ _. choose (ends_there kids made) (λ _. Some made.spot) (λ _. None))
    (λ _. kids_walked name.now kids (λ drops p. walk scripting (below (parent_of old.parent)) false drops kids p) made))
    (λ p. walk scripting (parent_of old.parent) false false rest p)) (λ _. None)) e
    ∙ none-kids scripting (below (parent_of old.parent)) (λ p. walk scripting (parent_of old.parent) false false rest p) kids name made
    (is_void name.now) h

pub enters : (scripting : Bool) (name : Bor QualName) (made : Made) (old new : Stand) (inside : Inside) (down : declared.Parent)
    (after : After)
    → is_written_so scripting name.now made.raw ≡ true → inside_of name made ≡ Some inside → parent_of down ≡ below (parent_of old.parent)
    → new ≡ record { parent = down; after_text = false; drops = made.drops_line_feed; inside = inside }
    → after ≡ after_of name old.parent → Enters scripting name made old new (Some after)
enters scripting name made old new inside down after e h k is l kids rest =
    ap (λ b. choose b (λ _. and_then (choose (is_void name.now) (λ _. choose (ends_there kids made) (λ _. Some made.spot) (λ _. None))
    (λ _. kids_walked name.now kids (λ drops p. walk scripting (below (parent_of old.parent)) false drops kids p) made))
    (λ p. walk scripting (parent_of old.parent) false false rest p)) (λ _. None)) e
    ∙ (all-kids scripting (below (parent_of old.parent))
    (λ p. walk scripting (parent_of old.parent) false false rest p) kids name made inside
    (is_void name.now) h
    ∙ (ap (λ parent. and_then (walk_by inside scripting parent false made.drops_line_feed kids made.spot)
    (λ p. and_then (finish_by (cond (is_void name.now) None (Some name)) p)
    (λ p. walk scripting (parent_of old.parent) false false rest p))) (sym k)
    ∙ (ap (λ (new : Stand). and_then (walk_at scripting new kids made.spot)
    (λ p. and_then (finish_by (cond (is_void name.now) None (Some name)) p)
    (λ p. walk scripting (parent_of old.parent) false false rest p))) (sym is)
    ∙ ap (λ (after : After). around scripting new made.spot after kids rest) (sym l))))

-- THE END

end-raw : (b : Bool) (p : Spot) → choose b (λ _. Some p) (λ _. None) ≡ spot_if b p
end-raw true p = refl
end-raw false p = refl

end-at : (scripting : Bool) (inside : Inside) (parent : Parent) (after drops : Bool) (p : Spot)
    → walk_by inside scripting parent after drops Nothing p ≡ spot_if (may_end inside) p
unfolding walk begun
end-at scripting Start parent after drops p = refl
end-at scripting Any parent after drops p = refl
end-at scripting (Raw kind name) parent after drops p = end-raw (is_raw_text kind name.now.local []) p
end-at scripting Done parent after drops p = refl

pub ends-by : (scripting : Bool) (stand : Stand) (p : Spot) (b : Bool) → b ≡ may_end stand.inside
    → walk_at scripting stand Nothing p ≡ spot_if b p
ends-by scripting stand p b e = end-at scripting stand.inside (parent_of stand.parent) stand.after_text stand.drops p
    ∙ ap (λ b. spot_if b p) (sym e)

pub leave-odd : (scripting : Bool) (stand : Stand) (p q : Spot) (b : Bool) (finishes : Option (Bor QualName)) → b ≡ may_end stand.inside
    → b ≡ false → and_then (walk_at scripting stand Nothing p) (λ p. finish_by finishes p) ≡ spot_if false q
leave-odd scripting stand p q b finishes e odd =
    ap (λ o. and_then o (λ p. finish_by finishes p)) (ends-by scripting stand p b e ∙ ap (λ b. spot_if b p) odd)

pub leave-by : (scripting : Bool) (stand : Stand) (p q : Spot) (b goes_on : Bool) (finishes : Option (Bor QualName))
    → b ≡ may_end stand.inside
    → b ≡ true → finish_by finishes p ≡ spot_if goes_on q
    → and_then (walk_at scripting stand Nothing p) (λ p. finish_by finishes p) ≡ spot_if goes_on q
leave-by scripting stand p q b goes_on finishes e even h =
    ap (λ o. and_then o (λ p. finish_by finishes p)) (ends-by scripting stand p b e ∙ ap (λ b. spot_if b p) even) ∙ h
