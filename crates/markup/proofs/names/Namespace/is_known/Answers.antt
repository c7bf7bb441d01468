use Rattle.std.proofs.Common.{◌≡◌, ◌∙◌, Bool, true, false, ap, sym, List, ℕ, Some, None, rules}
use Rattle.std.specs.Str.{bytes_eq}
use Rattle.std.proofs.lemmas.Bool.Decides.{Decides-like, same_from_decides}
use Rattle.std.proofs.lemmas.Slice.Eq.{bytes_eq-Decides}
use denote.Enum.Bare.{sameb, same_true, true_same}
use Rattle.markup.specs.declared.namespaces.KnownNamespace.{KnownNamespace}
use Rattle.markup.specs.contracts.namespaces.KnownNamespace.{the_type}
use Rattle.markup.specs.Namespaces.{name_of, known_namespace, known-name_of}
use Rattle.markup.proofs.names.Namespace.is_known.Goals as goal

-- namespaces of one name are the same
name_of-injective : (a b : KnownNamespace) → name_of a ≡ name_of b → a ≡ b
name_of-injective a b e =
    let same : Some a ≡ Some b = sym (known-name_of a) ∙ ap known_namespace e ∙ known-name_of b in
    cc

same-by_name : (a b : KnownNamespace) → sameb the_type a b ≡ bytes_eq (name_of a) (name_of b)
same-by_name a b =
    same_from_decides {P = a ≡ b} (sameb the_type a b) (bytes_eq (name_of a) (name_of b))
    (same_true the_type (search rules) a b, true_same the_type a b)
    (Decides-like {P = name_of a ≡ name_of b} {Q = a ≡ b} (bytes_eq (name_of a) (name_of b)) (name_of-injective a b)
    (ap name_of) (bytes_eq-Decides (name_of a) (name_of b)))

pub returns-in-Known : goal.returns-in-Known
returns-in-Known c =
    let name : name_of c.in-Known.own ≡ c.args.self.now = rw c.in-Known.is at c.self.view_is in
    c.eq.ensures ∙ same-by_name c.in-Known.own c.args.known ∙ ap (λ own. bytes_eq own (name_of c.args.known)) name

-- a name that is not known is that of no known namespace
no-name : (name : List ℕ) (known : KnownNamespace) (b : Bool) → bytes_eq name (name_of known) ≡ b → None ≡ known_namespace name → false ≡ b
no-name name known true e h =
    let its_own : known_namespace name ≡ Some known = ap known_namespace
    ((bytes_eq-Decides name (name_of known)).0 e) ∙ known-name_of known in
    absurd cc
no-name name known false e h = cc

pub returns-in-Other : goal.returns-in-Other
returns-in-Other c =
    let unknown : None ≡ known_namespace c.args.self.now = (rw c.in-Other.is at c.self.invariant)
    ∙ ap known_namespace (rw c.in-Other.is at c.self.view_is) in
    no-name c.args.self.now c.args.known (bytes_eq c.args.self.now (name_of c.args.known))
    (λ i. bytes_eq c.args.self.now (name_of c.args.known)) unknown
