-- The references that escaping writes are named ones, of which nothing is wrong.
use Rattle.std.proofs.Common.{◌≡◌, ℕ, true, false, List, ◌++◌, None, refl}
use Rattle.std.specs.Prelude.{codes}
use Rattle.html_tokens.specs.Clean.{is_named}
use Rattle.html_tokens.specs.Laws.{ReadsEscapes}
use Rattle.html_tokens.specs.Reference.{fault_of_reference}
use Rattle.html_tokens.specs.Table.{Row}
use Rattle.html_tokens.proofs.ReferenceNames.{whole-named, named-faultless}

module _ (rows : List Row) (reads : ReadsEscapes rows) where
  pub amp-named : (u : List ℕ) → is_named rows (codes "amp;" ++ u) ≡ true
  amp-named u = whole-named rows 97 (codes "mp;") u _ refl (reads.amp false u) refl refl refl

  pub lt-named : (u : List ℕ) → is_named rows (codes "lt;" ++ u) ≡ true
  lt-named u = whole-named rows 108 (codes "t;") u _ refl (reads.lt false u) refl refl refl

  pub gt-named : (u : List ℕ) → is_named rows (codes "gt;" ++ u) ≡ true
  gt-named u = whole-named rows 103 (codes "t;") u _ refl (reads.gt false u) refl refl refl

  pub quot-named : (u : List ℕ) → is_named rows (codes "quot;" ++ u) ≡ true
  quot-named u = whole-named rows 113 (codes "uot;") u _ refl (reads.quot false u) refl refl refl

  pub nbsp-named : (u : List ℕ) → is_named rows (codes "nbsp;" ++ u) ≡ true
  nbsp-named u = whole-named rows 110 (codes "bsp;") u _ refl (reads.nbsp false u) refl refl refl

  pub amp-faultless : (u : List ℕ) → fault_of_reference rows (codes "amp;" ++ u) ≡ None
  amp-faultless u = named-faultless rows (codes "amp;" ++ u) (amp-named u)

  pub lt-faultless : (u : List ℕ) → fault_of_reference rows (codes "lt;" ++ u) ≡ None
  lt-faultless u = named-faultless rows (codes "lt;" ++ u) (lt-named u)

  pub gt-faultless : (u : List ℕ) → fault_of_reference rows (codes "gt;" ++ u) ≡ None
  gt-faultless u = named-faultless rows (codes "gt;" ++ u) (gt-named u)

  pub quot-faultless : (u : List ℕ) → fault_of_reference rows (codes "quot;" ++ u) ≡ None
  quot-faultless u = named-faultless rows (codes "quot;" ++ u) (quot-named u)

  pub nbsp-faultless : (u : List ℕ) → fault_of_reference rows (codes "nbsp;" ++ u) ≡ None
  nbsp-faultless u = named-faultless rows (codes "nbsp;" ++ u) (nbsp-named u)
