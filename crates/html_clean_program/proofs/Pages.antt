-- Pages one after another.
use Rattle.std.proofs.Common.{◌∙◌, ℕ, ◌+◌, ◌<◌, List, [], ◌∷◌, ◌++◌, Bor, ap, drop, get_or, inl, inr, length, map, refl, subst}
use Rattle.std.proofs.Common.{sym, take}
use Rattle.std.proofs.lemmas.List.{drop_more, map-append, take-append-drop, take_more}
use Rattle.markup.specs.Trees.{Trees}
use Rattle.html_clean.specs.declared.policy.Policy.{Policy}
use Rattle.html_normal.specs.declared.fault.NormalFault.{NormalFault}
use Rattle.html_normal_program.specs.Program.{Files}
use Rattle.html_clean_program.specs.Program.{AreDone, AreEnded, IsFileDone, IsFileFailed, Stream}

-- one more page
pub done-after : (files : Files) (of : List ℕ → Trees → Type 0) (policy : Policy) (names : List (List ℕ)) (name : List ℕ)
    (old mid new errors mid' errors' : Stream) → AreDone files of policy names old mid errors mid'
    → IsFileDone files of policy name mid new mid' errors' → AreDone files of policy (names ++ name ∷ []) old new errors errors'
done-after files of policy [] name old mid new errors mid' errors' (same, same') last = (
  new,
  errors',
  subst (λ m. IsFileDone files of policy name m new errors errors') same
      (subst (λ m. IsFileDone files of policy name mid new m errors') same' last),
  (refl, refl),
)
done-after files of policy (n ∷ names) name old mid new errors mid' errors' (a, a', first, rest) last =
    (a, a', first, done-after files of policy names name a mid new a' mid' errors' rest last)

-- one that failed, whatever names follow
pub ended-after : (files : Files) (of : List ℕ → Trees → Type 0) (policy : Policy) (names : List (List ℕ)) (name : List ℕ)
    (more : List (List ℕ)) (old mid new errors mid' errors' : Stream) (fault : NormalFault) → AreDone files of policy names old mid errors mid'
    → IsFileFailed files of policy name mid new mid' errors' fault
    → AreEnded files of policy (names ++ name ∷ more) old new errors errors' fault
ended-after files of policy [] name more old mid new errors mid' errors' fault (same, same') last =
    inl (subst (λ m. IsFileFailed files of policy name m new errors errors' fault) same
    (subst (λ m. IsFileFailed files of policy name mid new m errors' fault) same' last))
ended-after files of policy (n ∷ names) name more old mid new errors mid' errors' fault (a, a', first, rest) last =
    inr (a, a', first, ended-after files of policy names name more a mid new a' mid' errors' fault rest last)

-- the same of names that are lent, so many of which were used
pub files-next : (files : Files) (of : List ℕ → Trees → Type 0) (policy : Policy) (items : List (Bor (List ℕ))) (i : ℕ) (d : Bor (List ℕ))
    (old mid new errors mid' errors' : Stream) → i < length items
    → AreDone files of policy (map (λ name. name.now) (take i items)) old mid errors mid'
    → IsFileDone files of policy (get_or items i d).now mid new mid' errors'
    → AreDone files of policy (map (λ name. name.now) (take (i + 1) items)) old new errors errors'
files-next files of policy items i d old mid new errors mid' errors' inside before last =
    let now : Bor (List ℕ) → List ℕ = λ name. name.now in
    subst (λ names. AreDone files of policy names old new errors errors')
    (sym (ap (map now) (take_more items i d inside) ∙ map-append now (take i items) (get_or items i d ∷ [])))
    (done-after files of policy (map now (take i items)) (get_or items i d).now old mid new errors mid' errors' before last)

pub files-until : (files : Files) (of : List ℕ → Trees → Type 0) (policy : Policy) (items : List (Bor (List ℕ))) (i : ℕ) (d : Bor (List ℕ))
    (old mid new errors mid' errors' : Stream) (fault : NormalFault) → i < length items
    → AreDone files of policy (map (λ name. name.now) (take i items)) old mid errors mid'
    → IsFileFailed files of policy (get_or items i d).now mid new mid' errors' fault
    → AreEnded files of policy (map (λ name. name.now) items) old new errors errors' fault
files-until files of policy items i d old mid new errors mid' errors' fault inside before last =
    let now : Bor (List ℕ) → List ℕ = λ name. name.now in
    let more = map now (drop (i + 1) items) in
    subst (λ names. AreEnded files of policy names old new errors errors' fault)
    (sym (ap (map now) (sym (take-append-drop i items)) ∙ map-append now (take i items) (drop i items)
    ∙ ap (λ names. map now (take i items) ++ map now names) (drop_more items i d inside)))
    (ended-after files of policy (map now (take i items)) (get_or items i d).now more old mid new errors mid' errors' fault before last)
